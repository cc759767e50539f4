use Rattle.std.proofs.Common.{inr, refl, sym, ◌∙◌, subst, ap}
use Rattle.rstar.specs.inside.Few.{is_one, kept_in, IsKept, KeepsGreatest}
use Rattle.rstar.specs.inside.Searches.{nearest_on_top}
use Rattle.rstar.proofs.searching.Few.{few-tightened, kept-in-one, one-falls, one-within}
use Rattle.rstar.proofs.searching.SearchTurns.{order_of}
use Rattle.rstar.proofs.algorithm.nearest_neighbor.few.take_in.Goals as goal

pub returns-in-One : goal.returns-in-One
returns-in-One g c =
    let value = g.S.SquaredDistance.number in
    let order = order_of g.S.SquaredDistance.number g.S.Ord.cmp _ g.met.S.Ord.matches_partial_cmp g.met.S.SquaredDistance.number_order in
    record {
      falls = one-falls _ c.keep_one.new.found;
      same = sym (ap is_one c.in-One.is);
      one = λ _. refl;
      takes = record {
        best = record { kept = rw c.in-One.is at c.requires.best.kept; falls = one-falls _ c.keep_one.new.found };
        keeps = kept-in-one value (nearest_on_top g.S.Ord.cmp g.E.TieOrder.order) c.args.most c.args.item c.args.best.now.bound c.args.best.now.kept c.in-One.found _ c.in-One.is c.requires.best.kept c.keep_one.ensures;
        tightened = inr (c.args.item.distance, refl, c.requires.within, one-within value g.S.Ord.cmp g.E.TieOrder.order order c.args.item c.in-One.found _ c.keep_one.ensures);
      };
    }

pub returns-in_err-best-in-Few-clause-same : goal.returns-in_err-best-in-Few-clause-same
returns-in_err-best-in-Few-clause-same g c = sym (ap is_one c.in-Few.is)

pub returns-in_err-best-in-Few-clause-one : goal.returns-in_err-best-in-Few-clause-one
returns-in_err-best-in-Few-clause-one g c = λ one. absurd (cc (sym one ∙ ap is_one c.in-Few.is))

pub returns-in_ok-best-in-Few : goal.returns-in_ok-best-in-Few
returns-in_ok-best-in-Few g c =
    let value = g.S.SquaredDistance.number in
    let top = nearest_on_top g.S.Ord.cmp g.E.TieOrder.order in
    let found = c.keep_few.new.found.items in
    let told = c.in_ok-best-in-Few.ensures in
    let fits = subst (IsKept value c.args.most c.args.best.now.bound) c.in-Few.is c.requires.best.kept in
    record {
      falls = c.keep_few.ensures.falls;
      same = sym (ap is_one c.in-Few.is);
      one = λ _. refl;
      takes = record {
        best = record { kept = told.last; falls = c.keep_few.ensures.falls };
        keeps = subst (λ k. KeepsGreatest top c.args.most c.args.item (kept_in k) found) (sym c.in-Few.is) told.kept;
        tightened = few-tightened value top c.args.most c.args.item c.in-Few.found.items found c.args.best.now.bound c.in_ok-best-in-Few.field-0 fits c.requires.within told.kept told.last told.none;
      };
    }
