use Rattle.std.proofs.Common.{◌≡◌, List, ◌∷◌, ◌++◌, [], ℕ, ◌+◌, min, length, arith, subst, Option, None}
use Rattle.std.proofs.lemmas.List.{length_push}
use Rattle.std.specs.Iterator.{Yields, YieldsThen}
use Rattle.rstar_base.specs.Counts.{usize_max}
use Rattle.rstar_vectors.specs.Callers.{IsCountOf}
use Rattle.rstar_vectors.proofs.places.counted.Goals as goal

one-more-counted : {A : Type 0} (xs : List A) (x : A) (n m : ℕ) → n ≡ min (length xs) usize_max → m ≡ min (n + 1) usize_max → m ≡ min (length (xs ++ x ∷ [])) usize_max
one-more-counted xs x n m before more = let longer = length_push xs x in omega arith

all-counted : {I A : Type 0} (gives : I → Option A → I → Type 0) {it start : I} (xs : List A) (t u : I) (n : ℕ) → it ≡ start
    → Yields gives it xs t → gives t None u → n ≡ min (length xs) usize_max → IsCountOf gives start n
all-counted gives xs t u n same given ended count = record {
  items = xs;
  end = u;
  given = subst (λ i. YieldsThen gives i xs None u) same (t, given, ended);
  counted = count;
}

pub loop-preserved : goal.loop-preserved
loop-preserved g c = one-more-counted _ _ _ _ c.loop.invariant c.saturating_add-count.ensures

pub returns : goal.returns
returns g c = all-counted g.I.Iterator.next_gives _ _ _ _ c.into_iter-iterator.ensures.into_iter_gives c.loop.yielded_by c.in-None.ensures.steps c.loop.invariant
