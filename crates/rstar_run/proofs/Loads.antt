-- Loads, line by line.
use Rattle.std.proofs.Common.{◌≡◌, ◌∙◌, ℕ, ◌+◌, ◌<◌, ◌≤◌, List, [], ◌∷◌, ◌++◌, length, length-append, Option, Result, Ok, Err, false, refl, sym, ap, subst, append_assoc, append-nil, arith}
use Rattle.std.specs.Prelude.{All}
use Rattle.std.specs.Io.KnownBytes.{IsAtEnd}
use Rattle.std.specs.Result.{IsErrAnd}
use Rattle.rstar_run.specs.Items.{Item, questions}
use Rattle.rstar_run.specs.Lines.{TakesLine}
use Rattle.rstar_run.specs.Prints.{Prints, Printed}
use Rattle.rstar_run.specs.Runs.{entry_meant, IsEntry, Lists, TakesItems, LoadBreaks}
use Rattle.rstar_run.specs.declared.command.Entry.TheVariants as entry
use Rattle.rstar_run.specs.declared.stops.Stop.{Stop}
use Rattle.rstar_run.specs.declared.stops.Stop.TheVariants as stop
use Rattle.rstar_run.proofs.Reading.{takes_more}
use Rattle.rstar_run.proofs.Prints.{prints_both, prints_some}

-- one more line of a load
lists_more : (lines : List (List ℕ)) (line : List ℕ) (items new : List Item) → Lists lines items → IsEntry (entry_meant line) new → Lists (lines ++ line ∷ []) (items ++ new)
lists_more [] line items new e x = (new, [], x, refl, ap (λ (l : List Item). l ++ new) e ∙ sym (append-nil new))
lists_more (l ∷ lines) line items new (first, others, x, all, e) y =
    (first, others ++ new, x, lists_more lines line others new all y, ap (λ (l : List Item). l ++ new) e ∙ append_assoc first others new)

-- how far a load has come
pub record LoadSoFar (count : ℕ) (left left' : Option (List ℕ)) (number number' : ℕ) (items : List Item) (old new : Option (List ℕ)) (held held' : List ℕ) : Type 0 where
  pub took : TakesItems left left' number number' items
  pub shown : Prints old new held [] held'
  pub filled : All (λ t. questions.is_empty (questions.box_of t) ≡ false) items
  pub few : length items ≤ count

pub takes_none : (left : Option (List ℕ)) (number : ℕ) (items : List Item) → items ≡ [] → TakesItems left left number number items
takes_none left number items e = record { lines = []; taken = refl; lists = e; count = omega arith }

module _ {left left' : Option (List ℕ)} {number number' : ℕ} {items : List Item} (t : TakesItems left left' number number' items) where
  pub takes_entry : (left'' : Option (List ℕ)) (number'' : ℕ) (line : List ℕ) (new : List Item) → TakesLine left' left'' line → number'' ≡ number' + 1 → IsEntry (entry_meant line) new → TakesItems left left'' number number'' (items ++ new)
  takes_entry left'' number'' line new taken n x = record {
    lines = t.lines ++ line ∷ [];
    taken = takes_more left left' left'' t.lines line t.taken taken;
    lists = lists_more t.lines line items new t.lists x;
    count = let c = t.count in omega (arith, n, c, length-append t.lines (line ∷ []));
  }

  -- the input ends
  pub load_ends : (count n : ℕ) → length items < count → IsAtEnd left' → n ≡ number' + 1 → LoadBreaks count left left' number n
  load_ends count n few at_end e = record {
    lines = t.lines;
    good = t.lines;
    items = items;
    taken = t.taken;
    lists = t.lists;
    few = few;
    number_is = let c = t.count in omega (arith, e, c);
    breaks = λ more ended. ([], ap (λ (l : List (List ℕ)). t.lines ++ l) (ended at_end), tt);
  }

  -- a line is bad
  pub load_bad : (left'' : Option (List ℕ)) (count n : ℕ) (line : List ℕ) → length items < count → TakesLine left' left'' line → entry_meant line ≡ entry.Bad → n ≡ number' + 1 → LoadBreaks count left left'' number n
  load_bad left'' count n line few taken bad e = record {
    lines = t.lines ++ line ∷ [];
    good = t.lines;
    items = items;
    taken = takes_more left left' left'' t.lines line t.taken taken;
    lists = t.lists;
    few = few;
    number_is = let c = t.count in omega (arith, e, c);
    breaks = λ more _. (line ∷ more, append_assoc t.lines (line ∷ []) more, bad);
  }

module _ (A B : Type 0) (old mid new : Option (List ℕ)) (held between held' : List ℕ) (p : Prints old mid held [] between) where
  stopped_by : (s : Stop) → Printed {A = A} (Err s) mid new between [] held' → Printed {A = B} (Err s) old new held [] held'
  stopped_by (stop.Line n) q = prints_both p q
  stopped_by stop.Memory q = prints_both p q
  stopped_by stop.Input q = prints_both p q
  stopped_by stop.Output q = prints_some [] p q

  -- a stop after what was shown
  pub stopped_after : (s : Stop) → Printed {A = A} (Err s) mid new between [] held' → (r : Result B Stop) → IsErrAnd r (λ e. e ≡ s) → Printed {A = B} r old new held [] held'
  stopped_after s q (Ok b) h = absurd h
  stopped_after s q (Err e) h = subst (λ (x : Stop). Printed {A = B} (Err x) old new held [] held') (sym h) (stopped_by s q)
