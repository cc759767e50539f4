use Rattle.std.proofs.Common.{◌≡◌, ◌∙◌, ◌++◌, ◌∷◌, [], Ok, ap, sym, append-nil}
use Rattle.rstar_run.specs.Points.{point_line_of, points_at}
use Rattle.rstar_run.specs.Words.{words_of}
use Rattle.rstar_run.proofs.PointLines.{one_more, first_bad}
use Rattle.rstar_run.proofs.points.read_points.Goals.{in-Blank, in-Point+in_ok-push-in-Point}
use Rattle.rstar_run.proofs.points.read_points.Goals as goal

pub returns-in-Bad : goal.returns-in-Bad
returns-in-Bad g c =
    first_bad c.loop.invariant _ c.number.result c.advance.new.self.line.items (c.advance.ensures.line (c.in_ok-advance.was ∙ ap Ok c.if-not-branch.false)) (c.number.ensures ∙ c.in_ok-advance.ensures.number)
    (sym (c.parse_point_line.ensures ∙ ap (λ t. point_line_of (words_of t)) c.text.ensures) ∙ c.in-Bad.is)

pub loop-preserved : goal.loop-preserved
loop-preserved g c =
    let line = c.advance.new.self.line.items in
    let taken = c.advance.ensures.line (c.in_ok-advance.was ∙ ap Ok c.if-not-branch.false) in
    let means = sym (c.parse_point_line.ensures ∙ ap (λ t. point_line_of (words_of t)) c.text.ensures) in
    elim c.match-parse_point_line.branch [
      | in-Blank w ↦
          let same : c.loop.points.items ++ [] ≡ c.match-parse_point_line.points.items = append-nil _ ∙ ap (λ v. v.items) (sym w.points-is) in
          rw (← same) (one_more c.loop.invariant _ c.advance.new.self.number line [] taken c.in_ok-advance.ensures.number (ap points_at (means ∙ w.in-Blank.is)))
      | in-Point+in_ok-push-in-Point w ↦
          let point = w.in-Point.point in
          let same : c.loop.points.items ++ point ∷ [] ≡ c.match-parse_point_line.points.items = sym (ap (λ v. v.items) w.points-is ∙ w.in_ok-push-in-Point.ensures.items) in
          rw (← same) (one_more c.loop.invariant _ c.advance.new.self.number line (point ∷ []) taken c.in_ok-advance.ensures.number (ap points_at (means ∙ w.in-Point.is)))
    ]
