use Rattle.std.proofs.Common.{◌∙◌, ap, map, min, refl, sym}
use Rattle.std.proofs.lemmas.List.{length-map}
use Rattle.std.proofs.lemmas.Simd.{map-map}
use Rattle.rstar.proofs.selecting.Chains.{pairs_end}
use Rattle.rstar_base.specs.Counts.{usize_max}
use Rattle.rstar_c.specs.Put.{over}
use Rattle.rstar_c.proofs.Listed.{arranged}
use Rattle.rstar_c.proofs.trees.put_pairs_between.Goals as goal

pub returns-in-Ok-clause-given : goal.returns-in-Ok-clause-given
returns-in-Ok-clause-given g c =
    let put = c.put_pairs.ensures in
    let run = put.given in
    record {
      pairs = map (λ p. (p.0.now, p.1.now)) put.given_items;
      bag = arranged (pairs_end _ _ refl put.given_items run.1.0 run.1.1 _ run.1.2) c.in-Ok.ensures.all;
      first = put.first ∙ ap (λ ns. over ns c.args.first.now) (sym (map-map _ _ put.given_items));
      second = put.second ∙ ap (λ ns. over ns c.args.second.now) (sym (map-map _ _ put.given_items));
      counted = put.counted ∙ ap (λ n. min n usize_max) (sym (length-map put.given_items _));
    }
