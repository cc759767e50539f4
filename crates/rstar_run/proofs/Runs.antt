-- Runs, turn by turn.
use Rattle.std.proofs.Common.{◌≡◌, ◌∙◌, inl, inr, ℕ, ◌+◌, Bool, true, false, List, [], ◌∷◌, ◌++◌, length, length-append, Option, IfSome, Result, Ok, Err, refl, sym, ap, subst, append_assoc, append-nil, arith}
use Rattle.std.specs.Io.KnownBytes.{Appends, Keeps}
use Rattle.std.proofs.KnownBytes.{Appends-trans}
use Rattle.std.specs.Result.{IsErrAnd}
use Rattle.rstar_run.specs.Prints.{AppendsFront, Prints, Printed, PrintsSome}
use Rattle.rstar_run.specs.Items.{Item}
use Rattle.rstar_run.specs.Lines.{lines_of, TakesLine, TakesLines}
use Rattle.rstar_run.specs.declared.command.Line.{Line}
use Rattle.rstar_run.specs.Runs.{meaning, BreaksAt, TurnSays, TurnsSay, lines_in, RunSays, Ran, IsNoLine, LoadBreaks, ReadsLoad, TakesTurn, TurnBreaks, Turn}
use Rattle.rstar_run.specs.declared.command.Line.TheVariants as line
use Rattle.rstar_run.specs.Statuses.{status_of}
use Rattle.rstar_run.specs.Texts.{end_text}
use Rattle.rstar_run.specs.declared.stops.Stop.{Stop}
use Rattle.rstar_run.specs.declared.stops.Stop.TheVariants as stop
use Rattle.rstar_run.proofs.Reading.{Reads, rest_of, reads_first, reads_lines, reads_rest, reads_all, none_at_end}
use Rattle.rstar_run.proofs.Prints.{nothing, front_of_longer, front_kept, prints_both, prints_some, prints_front}

-- the lines of one more turn
lines_in_more : (turns : List (List (List ℕ))) (turn : List (List ℕ)) → lines_in (turns ++ turn ∷ []) ≡ lines_in turns ++ turn
lines_in_more [] turn = append-nil turn
lines_in_more (t ∷ turns) turn = ap (λ (l : List (List ℕ)). t ++ l) (lines_in_more turns turn) ∙ sym (append_assoc t (lines_in turns) turn)

-- what one more turn says
says_more : (old mid new : List Item) (turns : List (List (List ℕ))) (said text : List ℕ) (turn : List (List ℕ)) → TurnsSay old turns said mid → TurnSays mid turn text new → TurnsSay old (turns ++ turn ∷ []) (said ++ text) new
says_more old mid new [] said text turn (e, f) x =
    (text, [], new, subst (λ (s : List Item). TurnSays s turn text new) f x, (refl, refl), ap (λ (l : List ℕ). l ++ text) e ∙ sym (append-nil text))
says_more old mid new (t ∷ turns) said text turn (first, others, store, s, all, e) x =
    (first, others ++ text, store, s, says_more store mid new turns others text turn all x, ap (λ (l : List ℕ). l ++ text) e ∙ append_assoc first others text)

-- the turns that a run has behind it
pub record Behind (input left : Option (List ℕ)) (number : ℕ) (said : List ℕ) (store : List Item) : Type 0 where
  pub turns : List (List (List ℕ))
  pub reads : Reads input left (lines_in turns)
  pub says : TurnsSay [] turns said store
  pub count : length (lines_in turns) ≡ number

-- how far a run has come
pub record Reached (input left : Option (List ℕ)) (number : ℕ) (store : List Item) (old new : Option (List ℕ)) (held held' : List ℕ) : Type 0 where
  pub said : List ℕ
  pub behind : Behind input left number said store
  pub printed : Prints old new held said held'

-- how it ended
abbrev pub Ended : Option (List ℕ) → Option (List ℕ) → Option (List ℕ) → List ℕ → List ℕ → Result (Unit {0}) Stop → Type 0
Ended input old new held held' ended = (said : List ℕ) × RunSays input ended said × Printed ended old new held said held'

none_behind : (input left : Option (List ℕ)) (number : ℕ) (store : List Item) → left ≡ input → number ≡ 0 → store ≡ [] → Behind input left number [] store
none_behind input left number store e n s =
    record { turns = []; reads = subst (λ (o : Option (List ℕ)). Reads input o []) (sym e) (reads_first input); says = (refl, s); count = sym n }

pub reached_first : (input left : Option (List ℕ)) (number : ℕ) (store : List Item) (old : Option (List ℕ)) (held : List ℕ) → left ≡ input → number ≡ 0 → store ≡ [] → Reached input left number store old old held held
reached_first input left number store old held e n s = record { said = []; behind = none_behind input left number store e n s; printed = nothing old held }

-- one more turn
with_turn : {input left left' : Option (List ℕ)} {number number' : ℕ} {said text : List ℕ} {store store' : List Item}
    → Behind input left number said store → TakesTurn left left' number number' store text store' → Behind input left' number' (said ++ text) store'
with_turn {input} {left} {left'} {number} {number'} {said} {text} {store} {store'} b t =
    let same = lines_in_more b.turns t.lines in
    record {
      turns = b.turns ++ t.lines ∷ [];
      reads = subst (λ (ls : List (List ℕ)). Reads input left' ls) (sym same) (reads_lines input left left' (lines_in b.turns) t.lines b.reads t.taken);
      says = says_more [] store store' b.turns said text t.lines b.says t.says;
      count = ap length same ∙ length-append (lines_in b.turns) t.lines ∙ ap (λ (k : ℕ). k + length t.lines) b.count ∙ sym t.count;
    }

-- runs that end with some of the input unread
module _ {input left : Option (List ℕ)} {number : ℕ} {said : List ℕ} {store : List Item} (b : Behind input left number said store) where
  for_memory : RunSays input (Err stop.Memory) said
  for_memory = record { turns = b.turns; rest = rest_of left; store = store; input_is = reads_rest input left (lines_in b.turns) b.reads; says = b.says; why = tt }

  for_input : RunSays input (Err stop.Input) said
  for_input = record { turns = b.turns; rest = rest_of left; store = store; input_is = reads_rest input left (lines_in b.turns) b.reads; says = b.says; why = tt }

  for_output : RunSays input (Err stop.Output) said
  for_output = record { turns = b.turns; rest = rest_of left; store = store; input_is = reads_rest input left (lines_in b.turns) b.reads; says = b.says; why = tt }

module _ (input left left' : Option (List ℕ)) (number number' : ℕ) (store store' : List Item) (old new new' : Option (List ℕ)) (held mid held' : List ℕ) (reached : Reached input left number store old new held mid) where
  pub reached_more : Turn left left' number number' store store' new new' mid held' (Ok true) → Reached input left' number' store' old new' held held'
  reached_more (text, took, printed) =
      record { said = reached.said ++ text; behind = with_turn reached.behind took; printed = prints_both reached.printed printed }

  -- nothing was printed since
  no_more : Prints new new' mid [] held' → Prints old new' held reached.said held'
  no_more p = subst (λ (l : List ℕ). Prints old new' held l held') (append-nil reached.said) (prints_both reached.printed p)

  pub reached_end : Turn left left' number number' store store' new new' mid held' (Ok false) → Ended input old new' held held' (Ok tt)
  reached_end (at_end, same, printed) =
      let b = reached.behind in (
        reached.said,
        record { turns = b.turns; rest = []; store = store; input_is = reads_all input left (lines_in b.turns) b.reads at_end; says = b.says; why = refl },
        no_more printed,
      )

  -- a bad line is among those that come next
  broken : (n : ℕ) (at_left : Option (List ℕ)) → TurnBreaks left at_left number n → RunSays input (Err (stop.Line n)) reached.said
  broken n at_left t =
      let b = reached.behind in
      let rest = rest_of at_left in
      record {
        turns = b.turns;
        rest = t.lines ++ rest;
        store = store;
        input_is = subst (λ (ls : List (List ℕ)). IfSome input (λ bytes. lines_of bytes ≡ ls)) (append_assoc (lines_in b.turns) t.lines rest)
            (reads_rest input at_left (lines_in b.turns ++ t.lines) (reads_lines input left at_left (lines_in b.turns) t.lines b.reads t.taken));
        says = b.says;
        why = (t.at, t.number_is ∙ ap (λ (k : ℕ). k + t.at) (sym b.count), t.breaks rest (none_at_end at_left));
      }

  pub reached_stop : (s : Stop) → Turn left left' number number' store store' new new' mid held' (Err s) → Ended input old new' held held' (Err s)
  reached_stop (stop.Line n) ((at_left, broke), printed) = (reached.said, broken n at_left broke, no_more printed)
  reached_stop stop.Memory printed = (reached.said, for_memory reached.behind, no_more printed)
  reached_stop stop.Input printed = (reached.said, for_input reached.behind, no_more printed)
  reached_stop stop.Output (inl front) = (
    reached.said,
    for_output reached.behind,
    prints_front reached.printed front,
  )
  reached_stop stop.Output (inr (text, took, front)) =
      (reached.said ++ text, for_output (with_turn reached.behind took), prints_some text reached.printed front)

-- a run that ends as soon as it has begun
pub never_begun : (input old : Option (List ℕ)) (held : List ℕ) → Ended input old old held held (Err stop.Memory)
never_begun input old held = ([], for_memory (none_behind input input 0 [] refl refl refl), nothing old held)

-- an end that is handed on
pub ended_at : (input old new : Option (List ℕ)) (held held' : List ℕ) (s : Stop) → Ended input old new held held' (Err s) → (t : Stop) → t ≡ s → (r : Result (Unit {0}) Stop) → IsErrAnd r (λ e. e ≡ t) → Ended input old new held held' r
ended_at input old new held held' s x t m (Ok u) h = absurd h
ended_at input old new held held' s x t m (Err e) h = subst (λ (o : Stop). Ended input old new held held' (Err o)) (sym (h ∙ m)) x

module _ (input old mid new : Option (List ℕ)) (said held : List ℕ) where
  -- all of what is held, and then the end
  all_then_end : (text : List ℕ) → Prints old mid [] said held → Appends mid new (held ++ text) → Appends old new (said ++ text)
  all_then_end text p a =
      subst (λ (l : List ℕ). Appends old new l)
      (sym (append_assoc p.front held text) ∙ ap (λ (l : List ℕ). l ++ text) (sym p.text_is)) (Appends-trans old mid new p.front (held ++ text) p.appended a)

  -- all is printed
  pub ran : (ended : Result (Unit {0}) Stop) (status : ℕ) → RunSays input ended said → Printed ended old mid [] said held → status ≡ status_of ended → Appends mid new (held ++ end_text ended) → (ended ≡ Err stop.Output → ⊥) → Ran input old new status
  ran (Ok u) status r p s a not = record { ended = Ok u; said = said; run = r; printed = inl (s, all_then_end [] p a) }
  ran (Err (stop.Line n)) status r p s a not = record { ended = Err (stop.Line n); said = said; run = r; printed = inl (s, all_then_end _ p a) }
  ran (Err stop.Memory) status r p s a not = record { ended = Err stop.Memory; said = said; run = r; printed = inl (s, all_then_end _ p a) }
  ran (Err stop.Input) status r p s a not = record { ended = Err stop.Input; said = said; run = r; printed = inl (s, all_then_end _ p a) }
  ran (Err stop.Output) status r p s a not = absurd (not refl)

  -- a front is printed
  pub ran_in_part : (ended : Result (Unit {0}) Stop) → RunSays input ended said → Printed ended old mid [] said held → AppendsFront mid new (held ++ end_text ended) → (ended ≡ Err stop.Output → Keeps mid new) → Ran input old new 4
  ran_in_part (Ok u) r p a kept = record { ended = Ok u; said = said; run = r; printed = inr (refl, prints_some [] p a) }
  ran_in_part (Err (stop.Line n)) r p a kept = record { ended = Err (stop.Line n); said = said; run = r; printed = inr (refl, prints_some _ p a) }
  ran_in_part (Err stop.Memory) r p a kept = record { ended = Err stop.Memory; said = said; run = r; printed = inr (refl, prints_some _ p a) }
  ran_in_part (Err stop.Input) r p a kept = record { ended = Err stop.Input; said = said; run = r; printed = inr (refl, prints_some _ p a) }
  ran_in_part (Err stop.Output) r p a kept = record { ended = Err stop.Output; said = said; run = r; printed = inr (refl, front_of_longer [] (front_kept new p (kept refl))) }

-- ---- one turn

module _ (left left' : Option (List ℕ)) (number number' : ℕ) (store store' : List Item) (old new : Option (List ℕ)) (held held' : List ℕ) where
  stopped_by : (A : Type 0) (s : Stop) → IsNoLine s → Printed {A = A} (Err s) old new held [] held' → Turn left left' number number' store store' old new held held' (Err s)
  stopped_by A (stop.Line n) x p = absurd x
  stopped_by A stop.Memory x p = p
  stopped_by A stop.Input x p = p
  stopped_by A stop.Output x p = inl (subst (λ (l : List ℕ). AppendsFront old new l) (append-nil held) p)

  -- it ends before it prints
  pub stopped : (A : Type 0) (s : Stop) → IsNoLine s → Printed {A = A} (Err s) old new held [] held' → (r : Result Bool Stop) → IsErrAnd r (λ e. e ≡ s) → Turn left left' number number' store store' old new held held' r
  stopped A s x p (Ok b) h = absurd h
  stopped A s x p (Err e) h = subst (λ (o : Stop). Turn left left' number number' store store' old new held held' (Err o)) (sym h) (stopped_by A s x p)

-- a turn whose lines are taken, and which prints no more than a text of this kind
module _ (left left' : Option (List ℕ)) (number number' : ℕ) (store store' : List Item) (old mid new : Option (List ℕ)) (held between held' : List ℕ)
    (lines : List (List ℕ)) (Kind : List ℕ → Type 0) (taken : TakesLines left left' lines) (count : number' ≡ number + length lines)
    (says : (text : List ℕ) → Kind text → TurnSays store lines text store') (shown : Prints old mid held [] between) where
  took : (text : List ℕ) → Kind text → TakesTurn left left' number number' store text store'
  took text k = record { lines = lines; taken = taken; count = count; says = says text k }

  pub said_all : PrintsSome Kind mid new between held' (Ok tt) → Turn left left' number number' store store' old new held held' (Ok true)
  said_all (text, k, p) = (text, took text k, prints_both shown p)

  said_by : (s : Stop) → PrintsSome Kind mid new between held' (Err s) → Turn left left' number number' store store' old new held held' (Err s)
  said_by (stop.Line n) p = absurd p
  said_by stop.Memory p = prints_both shown p
  said_by stop.Input p = absurd p
  said_by stop.Output (text, k, front) = inr (text, took text k, prints_some text shown front)

  pub said_some : (s : Stop) → PrintsSome Kind mid new between held' (Err s) → (r : Result Bool Stop) → IsErrAnd r (λ e. e ≡ s) → Turn left left' number number' store store' old new held held' r
  said_some s p (Ok b) h = absurd h
  said_some s p (Err e) h = subst (λ (x : Stop). Turn left left' number number' store store' old new held held' (Err x)) (sym h) (said_by s p)

-- a load breaks off
module _ (left first left' : Option (List ℕ)) (number next number' : ℕ) (count : ℕ) (bytes : List ℕ) (taken : TakesLine left first bytes) (counted : next ≡ number + 1) (means : meaning bytes ≡ line.Load count) where
  load_broken : (mid : Option (List ℕ)) (n : ℕ) → LoadBreaks count first mid next n → TurnBreaks left mid number n
  load_broken mid n b = record {
    lines = bytes ∷ b.lines;
    at = length b.good + 2;
    taken = (first, taken, b.taken);
    number_is = let is = b.number_is in omega (arith, is, counted);
    breaks = λ more ended.
        let (bad, same, none) = b.breaks more ended in
        subst (λ (l : Line). BreaksAt l (b.lines ++ more) (length b.good + 2)) (sym means) (b.good, bad, b.items, same, b.lists, b.few, none, refl);
  }

  module _ (store store' : List Item) (old shown new : Option (List ℕ)) (held between held' : List ℕ) (p : Prints old shown held [] between) where
    load_stopped_by : (A : Type 0) (s : Stop) → ReadsLoad count first left' next number' (Err s) → Printed {A = A} (Err s) shown new between [] held' → Turn left left' number number' store store' old new held held' (Err s)
    load_stopped_by A (stop.Line n) (at_left, broke) q = ((at_left, load_broken at_left n broke), prints_both p q)
    load_stopped_by A stop.Memory x q = prints_both p q
    load_stopped_by A stop.Input x q = prints_both p q
    load_stopped_by A stop.Output x q = inl (subst (λ (l : List ℕ). AppendsFront old new l) (append-nil held) (prints_some [] p q))

    pub load_stopped : (A : Type 0) (s : Stop) → ReadsLoad count first left' next number' (Err s) → Printed {A = A} (Err s) shown new between [] held' → (r : Result Bool Stop) → IsErrAnd r (λ e. e ≡ s)
        → Turn left left' number number' store store' old new held held' r
    load_stopped A s x q (Ok b) h = absurd h
    load_stopped A s x q (Err e) h = subst (λ (o : Stop). Turn left left' number number' store store' old new held held' (Err o)) (sym h) (load_stopped_by A s x q)
