use Rattle.std.proofs.Common.{◌≡◌, ◌∙◌, ◌-◌, ap, arith, drop, length, rules, Some}
use Rattle.std.proofs.lemmas.List.{take_all, length-drop}
use Rattle.rstar.specs.inside.Taking.{IsRestAt, first_number}
use Rattle.rstar.proofs.removing.Parts.{rest_alone, rest_parts}
use Rattle.rstar.proofs.removing.Scans.{merged_parts}
use Rattle.rstar.proofs.algorithm.removal.merge_along.Goals as goal

pub returns : goal.returns
returns g c =
    let v = g.T.Cover.Merges.boxes in let o = g.T.Covered.object in let nodes = c.args.children.now in
    let path = c.args.path.now in let front = c.front_of-front.result in let long = length-drop front.count nodes in
    let one : length path ≡ 1 = search rules in
    let made = λ (spot : IsRestAt v o c.args.rest.now path nodes).
    c.front_of-front.ensures.merged (first_number path) (c.saturating_sub-left.ensures ∙ ap (λ p. length nodes - p) c.first_number.ensures) ((rest_parts v o c.args.rest.now path nodes spot).0 one) in
    record {
      merged = λ spot.
          merged_parts g.met.T.Cover.Merges.merge_laws o front nodes _ _ (take_all _ (drop front.count nodes) (omega (arith, long))) (made spot)
          c.envelope_for_children-2.ensures.own (c.merged-merged.ensures.merged ∙ ap (v.merge front.envelope) c.envelope_for_children-2.ensures.hull);
      rests = λ spot. rest_alone v o (Some front) path nodes one (λ before. made spot);
      still = λ none. absurd (omega (arith, none, one));
    }
