use Rattle.std.proofs.Common.{◌≡◌, ◌∙◌, ap, sym, refl, arith, Some, None, rules}
use Rattle.std.proofs.lemmas.Result.{IfOk-from_err}
use Rattle.rstar.specs.declared.algorithm.nearest_neighbor.few.Kept.TheVariants.{One}
use Rattle.rstar.specs.inside.Few.{is_one}
use Rattle.rstar.specs.Lists.{IsNearest}
use Rattle.rstar.specs.Nodes.{elements_of}
use Rattle.rstar.proofs.searching.SearchTurns.{measured-by}
use Rattle.rstar.proofs.searching.Seeking as seeking
use Rattle.rstar.proofs.algorithm.nearest_neighbor.few.one_nearest.Goals as goal

pub returns-in-One-Some : goal.returns-in-One-Some
returns-in-One-Some g c =
    let law = measured-by g.met.T.Cover.Merges.merge_laws g.met.T.Covered.cover_law g.met.T.Measured.distance_laws c.known.ensures.range in
    let first = c.in-One-Some.first in
    let is : c.search.new.best.kept ≡ One (Some c.in-One-Some.first) = search rules in
    let near : IsNearest (λ t. g.T.Measured.distances.distance_2 t (g.T.Measured.at c.args.point.now)) (elements_of c.args.root.now) first.node.now = seeking.first-nearest (elements_of c.args.root.now) _ first.node.now (rw is at c.in_ok-search.ensures.first) in
    record {
      none = tt;
      nearest = near;
      distance = (rw is at c.in_ok-search.ensures.distances).0;
      not_below = seeking.nearest-not-below law c.args.root.now c.requires first.node.now near;
      not_above = seeking.nearest-not-above law c.args.root.now c.requires first.node.now near;
      few = λ _. refl;
    }

pub returns-in-One-None : goal.returns-in-One-None
returns-in-One-None g c =
    let is : c.search.new.best.kept ≡ One None = search rules in
    record { none = seeking.first-none (elements_of c.args.root.now) (rw is at c.in_ok-search.ensures.first); nearest = tt; distance = tt; not_below = tt; not_above = tt; few = λ _. refl }

pub returns-in_err-search : goal.returns-in_err-search
returns-in_err-search g c =
    let r = c.from_residual.result in
    let is = c.from_residual.ensures.0 in
    record { none = IfOk-from_err r _ is; nearest = IfOk-from_err r _ is; distance = IfOk-from_err r _ is; not_below = IfOk-from_err r _ is; not_above = IfOk-from_err r _ is; few = λ few. absurd (omega (arith, few, c.in_err-search.ensures.refused refl)) }

pub unreachable-requires : goal.unreachable-requires
unreachable-requires g c = cc (sym c.search.ensures.same ∙ ap is_one c.in-Few.is)
