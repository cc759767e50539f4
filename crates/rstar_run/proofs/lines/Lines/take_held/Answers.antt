use Rattle.std.proofs.Common.{◌∙◌, ap, refl}
use Rattle.std.specs.Io.Buffered.{reader_buffer, reader_capacity, reader_inner}
use Rattle.rstar_run.proofs.Reading.{takes_held}
use Rattle.rstar_run.proofs.lines.Lines.take_held.Goals as goal

pub returns-clause-line : goal.returns-clause-line
returns-clause-line g c =
    let old = c.args.self.now.reader in
    let new = c.consume.new.self in
    takes_held (reader_capacity old) (reader_capacity new) (g.R.Read.remaining (reader_inner old).0) (g.R.Read.remaining (reader_inner new).0) (reader_buffer old) (reader_buffer new) _ c.args.end c.requires
    (c.in_ok-extend_from_slice.ensures.items ∙ rw (c.clear.ensures.items, c.buffer.ensures) refl)
    c.consume.ensures.capacity (ap (λ source. g.R.Read.remaining source.0) c.consume.ensures.inner) c.consume.ensures.buffer
