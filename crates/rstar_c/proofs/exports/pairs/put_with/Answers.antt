use Rattle.std.proofs.Common.{◌≡◌, ℕ, List, [], ap, filter, refl, subst, sym}
use Rattle.std.specs.List.Sorted.{IsPermutation}
use Rattle.std.proofs.lemmas.List.Sorted.{IsPermutation-refl}
use Rattle.rstar.specs.Joins.{join}
use Rattle.rstar.proofs.joining.PairsByChildren.{product-none}
use Rattle.rstar_base.specs.Boxes.{boxes_intersect}
use Rattle.rstar_c.specs.Answers.{ArePairsGiven}
use Rattle.rstar_c.specs.Items.{Item, box_of, number}
use Rattle.rstar_c.specs.Owned.{first_of}
use Rattle.rstar_c.proofs.exports.pairs.put_with.Goals as goal

none-given : (all : List (Item × Item)) (first second : List ℕ) → all ≡ [] → ArePairsGiven number all first first second second 0
none-given all first second none = record {
  pairs = [];
  bag = subst (λ ps. IsPermutation [] ps) (sym none) (IsPermutation-refl []);
  first = refl;
  second = refl;
  counted = refl;
}

pub returns-in_default-clause-given : goal.returns-in_default-clause-given
returns-in_default-clause-given c = λ ok.
    subst (λ (others : List Item). ArePairsGiven number (join boxes_intersect box_of box_of c.args.store.now others) c.args.first.now c.args.first.now c.args.second.now c.args.second.now 0)
    (sym (ap first_of c.in_default.ensures.none))
    (none-given (join boxes_intersect box_of box_of c.args.store.now []) c.args.first.now c.args.second.now (ap (filter _) (product-none c.args.store.now)))
