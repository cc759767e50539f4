use Rattle.std.proofs.Common.{rules, ◌≡◌, ◌∙◌, true, false, pos, refl, sym, subst}
use Rattle.std.specs.List.{AllByRecursion}
use Rattle.rstar.specs.Points.{table}
use Rattle.rstar_uses.proofs.Able.{none-found, one-found, one-told, passed-over, found-full, found-all, found-near, came, reaches}
use Rattle.rstar_uses.proofs.dispatch.first_able.Goals as goal

pub search-init : goal.search-init
search-init g c = record {
  callable = c.requires.callable;
  searching = c.requires.searching;
  going_on = c.requires.going_on;
  point = refl;
  few = search rules;
  found = λ able decides. none-found _ _ able _ _ _ c.new-found.ensures.items;
  told = subst (AllByRecursion _) (sym c.new-found.ensures.items) tt;
}

pub returns-in_default-clause-first : goal.returns-in_default-clause-first
returns-in_default-clause-first g c = λ able decides.
    found-all _ _ able _ _ _ _ _ (c.search.invariant.found able decides) c.search.invariant.few (c.in_default.ensures.steps.0.none c.search.invariant.going_on)

pub returns-then-not-not_above-clause-first : goal.returns-then-not-not_above-clause-first
returns-then-not-not_above-clause-first g c = λ able decides.
    let step = rw c.in_ok-element.was at c.in-Some.ensures.steps in
    let here = came _ _ _ _ _ _ _ _ _ c.search.invariant.point step.0 in
    let beyond : c.not_above.result ≡ false = search rules in
    found-near _ _ able _ _ _ _ _ (c.search.invariant.found able decides) c.search.invariant.few _ _ here.0 here.1
    (reaches g.T.PointDistance.distances g.T.Envelope.Point.Point.DIMENSIONS g.T.Envelope.Point.Point.coord _ _ _ _ _ _ c.in_ok-element.element.now c.search.invariant.point step.1 c.not_above.ensures beyond)

pub search-smaller-in-Continue-branch-2 : goal.search-smaller-in-Continue-branch-2
search-smaller-in-Continue-branch-2 g c = (c.in-Some.ensures.goes.on tt).2

pub search-preserved-in-Continue-branch-2 : goal.search-preserved-in-Continue-branch-2
search-preserved-in-Continue-branch-2 g c =
    let step = rw c.in_ok-element.was at c.in-Some.ensures.steps in
    let here = came _ _ _ _ _ _ _ _ _ c.search.invariant.point step.0 in
    let within : c.not_above.result ≡ true = search rules in
    record {
      callable = c.search.invariant.callable;
      searching = step.2;
      going_on = step.0.goes_on;
      point = step.0.point ∙ c.search.invariant.point;
      few = search rules;
      found = λ able decides. one-found _ _ able _ _ _ _ _ _ _ c.in_ok-push.ensures.items (c.search.invariant.found able decides) here.0 here.1
          (sym (decides c.in_ok-element.element.now c.is_able.result (record { shown = c.in_ok-element.element; shows = refl; says = record { met = c.is_able.ensures } })) ∙ c.if-is_able.true)
          (reaches g.T.PointDistance.distances g.T.Envelope.Point.Point.DIMENSIONS g.T.Envelope.Point.Point.coord _ _ _ _ _ _ c.in_ok-element.element.now c.search.invariant.point step.1 c.not_above.ensures within);
      told = one-told _ _ _ _ c.in_ok-push.ensures.items c.search.invariant.told (subst (λ p. g.T.Envelope.Point.Scalar.Number.value c.in_ok-element.distance
          ≡ pos (g.T.PointDistance.distances.distance_2 c.in_ok-element.element.now (table g.T.Envelope.Point.Point.DIMENSIONS (g.T.Envelope.Point.Point.coord p)))) c.search.invariant.point step.1);
    }

pub search-smaller : goal.search-smaller
search-smaller g c = (c.in-Some.ensures.goes.on tt).2

pub search-preserved : goal.search-preserved
search-preserved g c =
    let step = rw c.in_ok-element.was at c.in-Some.ensures.steps in
    let here = came _ _ _ _ _ _ _ _ _ c.search.invariant.point step.0 in
    record {
      callable = c.search.invariant.callable;
      searching = step.2;
      going_on = step.0.goes_on;
      point = step.0.point ∙ c.search.invariant.point;
      few = c.search.invariant.few;
      found = λ able decides. passed-over _ _ able _ _ _ _ _ (c.search.invariant.found able decides) here.0
          (sym (decides c.in_ok-element.element.now c.is_able.result (record { shown = c.in_ok-element.element; shows = refl; says = record { met = c.is_able.ensures } })) ∙ c.if-is_able.false);
      told = c.search.invariant.told;
    }

pub returns-clause-first : goal.returns-clause-first
returns-clause-first g c = λ able decides. found-full _ _ able _ _ _ _ _ (c.search.invariant.found able decides) c.search.invariant.few (search rules)
