-- Texts that are printed piece by piece.
use Rattle.std.proofs.Common.{◌≡◌, ◌∙◌, ℕ, ◌+◌, ◌<◌, ◌≤◌, List, [], ◌∷◌, ◌++◌, length, get_or, drop, drop-cons, drop_of_length-le, add-one, take, take_all, ◌-◌, Option, Result, Ok, Err, refl, sym, ap, subst, append_assoc, append-nil, arith}
use Rattle.std.specs.Prelude.{codes, map, OnOk, IfErr}
use Rattle.std.specs.List.{flat_map}
use Rattle.std.specs.Result.{IsErrAnd}
use Rattle.std.specs.Io.KnownBytes.{Appends, Keeps}
use Rattle.std.proofs.KnownBytes.{Appends-nil, Appends-trans, Appends-kept}
use Rattle.rstar_run.specs.Texts.{list_text}
use Rattle.rstar_run.specs.Prints.{AppendsFront, Prints, PrintsSome}
use Rattle.rstar_run.specs.declared.stops.Stop.{Stop}
use Rattle.rstar_run.specs.declared.stops.Stop.TheVariants as stop

-- ---- a front of a text

-- nothing is written
pub none_written : (u : Option (List ℕ)) (text : List ℕ) → AppendsFront u u text
none_written u text = record { front = []; rest = text; appended = Appends-nil u; text_is = refl }

-- a front of a text is one of a longer text
pub front_of_longer : {u v : Option (List ℕ)} {s : List ℕ} (t : List ℕ) → AppendsFront u v s → AppendsFront u v (s ++ t)
front_of_longer t a = record { front = a.front; rest = a.rest ++ t; appended = a.appended; text_is = ap (λ (l : List ℕ). l ++ t) a.text_is ∙ append_assoc a.front a.rest t }

-- a text, and then a front of the next
pub front_after : {v w : Option (List ℕ)} {t : List ℕ} (u : Option (List ℕ)) (s : List ℕ) → Appends u v s → AppendsFront v w t → AppendsFront u w (s ++ t)
front_after {v} {w} u s a b =
    record { front = s ++ b.front; rest = b.rest; appended = Appends-trans u v w s b.front a b.appended; text_is = ap (λ (l : List ℕ). s ++ l) b.text_is ∙ sym (append_assoc s b.front b.rest) }

pub front_kept : {u v : Option (List ℕ)} {text : List ℕ} (w : Option (List ℕ)) → AppendsFront u v text → Keeps v w → AppendsFront u w text
front_kept {u} {v} w a k = record { front = a.front; rest = a.rest; appended = Appends-kept u v w a.front a.appended k; text_is = a.text_is }

-- ---- a text behind what was held

-- nothing is printed
pub nothing : (u : Option (List ℕ)) (held : List ℕ) → Prints u u held [] held
nothing u held = record { front = []; appended = Appends-nil u; text_is = append-nil held }

-- a text is held
pub holds : (u : Option (List ℕ)) (held text held' : List ℕ) → held' ≡ held ++ text → Prints u u held text held'
holds u held text held' e = record { front = []; appended = Appends-nil u; text_is = sym e }

-- all that was held is written, and the text is held
pub writes_then_holds : (u v : Option (List ℕ)) (held mid text held' : List ℕ) → Appends u v held → mid ≡ [] → held' ≡ mid ++ text → Prints u v held text held'
writes_then_holds u v held mid text held' a none e =
    record { front = held; appended = a; text_is = ap (λ (l : List ℕ). held ++ l) (sym (e ∙ ap (λ (l : List ℕ). l ++ text) none)) }

-- all that was held is written, and then the text
pub writes_both : (u v w : Option (List ℕ)) (held text held' : List ℕ) → Appends u v held → Appends v w text → held' ≡ [] → Prints u w held text held'
writes_both u v w held text held' a b none =
    record { front = held ++ text; appended = Appends-trans u v w held text a b; text_is = sym (append-nil (held ++ text)) ∙ ap (λ (l : List ℕ). (held ++ text) ++ l) (sym none) }

-- all that was held is written
pub writes_held : (u v : Option (List ℕ)) (held held' : List ℕ) → Appends u v held → held' ≡ [] → Prints u v held [] held'
writes_held u v held held' a none = record { front = held; appended = a; text_is = ap (λ (l : List ℕ). held ++ l) (sym none) }

-- the same at the end of a call
pub shown : (u v : Option (List ℕ)) (held held' : List ℕ) (r : Result (Unit {0}) Stop) → OnOk r (Appends u v held) → OnOk r (held' ≡ []) → OnOk r (Prints u v held [] held')
shown u v held held' (Ok _) a none = writes_held u v held held' a none
shown u v held held' (Err _) a none = a

pub front_of_printed : {u v : Option (List ℕ)} {held text held' : List ℕ} → Prints u v held text held' → AppendsFront u v (held ++ text)
front_of_printed {held' = held'} p = record { front = p.front; rest = held'; appended = p.appended; text_is = p.text_is }

behind : (held s t f mid : List ℕ) → held ++ s ≡ f ++ mid → held ++ (s ++ t) ≡ f ++ (mid ++ t)
behind held s t f mid e = sym (append_assoc held s t) ∙ ap (λ (l : List ℕ). l ++ t) e ∙ append_assoc f mid t

-- one text after another
pub prints_both : {u v w : Option (List ℕ)} {held s mid t held' : List ℕ} → Prints u v held s mid → Prints v w mid t held' → Prints u w held (s ++ t) held'
prints_both {u} {v} {w} {held} {s} {mid} {t} {held'} p q =
    record {
      front = p.front ++ q.front;
      appended = Appends-trans u v w p.front q.front p.appended q.appended;
      text_is = behind held s t p.front mid p.text_is ∙ ap (λ (l : List ℕ). p.front ++ l) q.text_is ∙ sym (append_assoc p.front q.front held');
    }

-- a text, and a front of what comes behind it
pub prints_some : {u v w : Option (List ℕ)} {held s mid : List ℕ} (t : List ℕ) → Prints u v held s mid → AppendsFront v w (mid ++ t) → AppendsFront u w (held ++ (s ++ t))
prints_some {u} {v} {w} {held} {s} {mid} t p a =
    record {
      front = p.front ++ a.front;
      rest = a.rest;
      appended = Appends-trans u v w p.front a.front p.appended a.appended;
      text_is = behind held s t p.front mid p.text_is ∙ ap (λ (l : List ℕ). p.front ++ l) a.text_is ∙ sym (append_assoc p.front a.front a.rest);
    }

-- a text, and a front of what is held then
pub prints_front : {u v w : Option (List ℕ)} {held s mid : List ℕ} → Prints u v held s mid → AppendsFront v w mid → AppendsFront u w (held ++ s)
prints_front {u} {v} {w} {held} {s} {mid} p a =
    subst (λ (l : List ℕ). AppendsFront u w (held ++ l)) (append-nil s) (prints_some [] p (subst (λ (l : List ℕ). AppendsFront v w l) (sym (append-nil mid)) a))

-- ---- a text in pieces

-- all of a text is printed but `left`
pub record PrintsBut (u v : Option (List ℕ)) (held text left held' : List ℕ) : Type 0 where
  pub said : List ℕ
  pub printed : Prints u v held said held'
  pub text_is : text ≡ said ++ left

pub at_first : (u : Option (List ℕ)) (held text : List ℕ) → PrintsBut u u held text text held
at_first u held text = record { said = []; printed = nothing u held; text_is = refl }

pub more : {u v w : Option (List ℕ)} {held text left mid piece held' : List ℕ} (rest : List ℕ) → PrintsBut u v held text left mid → left ≡ piece ++ rest → Prints v w mid piece held'
    → PrintsBut u w held text rest held'
more {piece = piece} rest so_far e p =
    record { said = so_far.said ++ piece; printed = prints_both so_far.printed p; text_is = so_far.text_is ∙ ap (λ (l : List ℕ). so_far.said ++ l) e ∙ sym (append_assoc so_far.said piece rest) }

pub last : {u v w : Option (List ℕ)} {held text left mid piece held' : List ℕ} → PrintsBut u v held text left mid → left ≡ piece → Prints v w mid piece held' → Prints u w held text held'
last {u} {v} {w} {held} {text} {left} {mid} {piece} {held'} so_far e p =
    subst (λ (l : List ℕ). Prints u w held l held') (sym (so_far.text_is ∙ ap (λ (l : List ℕ). so_far.said ++ l) e)) (prints_both so_far.printed p)

-- nothing is left
pub printed_all : {u v : Option (List ℕ)} {held text left held' : List ℕ} → PrintsBut u v held text left held' → left ≡ [] → Prints u v held text held'
printed_all {u} {v} {held} {text} {left} {held'} so_far none =
    subst (λ (l : List ℕ). Prints u v held l held') (sym (so_far.text_is ∙ ap (λ (l : List ℕ). so_far.said ++ l) none ∙ append-nil so_far.said)) so_far.printed

pub some_more : {u v w : Option (List ℕ)} {held text left mid : List ℕ} (piece rest : List ℕ) → PrintsBut u v held text left mid → left ≡ piece ++ rest → AppendsFront v w (mid ++ piece)
    → AppendsFront u w (held ++ text)
some_more {u} {v} {w} {held} {text} {left} {mid} piece rest so_far e a =
    let said = so_far.said in
    let longer : AppendsFront u w ((held ++ (said ++ piece)) ++ rest) = front_of_longer rest (prints_some piece so_far.printed a) in
    subst (λ (l : List ℕ). AppendsFront u w l)
    (append_assoc held (said ++ piece) rest ∙ ap (λ (l : List ℕ). held ++ l) (append_assoc said piece rest ∙ ap (λ (l : List ℕ). said ++ l) (sym e) ∙ sym so_far.text_is))
    longer

-- one more piece is written, with nothing held
pub write_more : {u v : Option (List ℕ)} {text left : List ℕ} (w : Option (List ℕ)) (piece rest : List ℕ) → Prints u v [] text left → left ≡ piece ++ rest → Appends v w piece → Prints u w [] text rest
write_more {u} {v} w piece rest p e a =
    record { front = p.front ++ piece; appended = Appends-trans u v w p.front piece p.appended a; text_is = p.text_is ∙ ap (λ (l : List ℕ). p.front ++ l) e ∙ sym (append_assoc p.front piece rest) }

pub write_kept : {u v : Option (List ℕ)} {text left : List ℕ} (w : Option (List ℕ)) → Prints u v [] text left → Keeps v w → Prints u w [] text left
write_kept {u} {v} w p k = record { front = p.front; appended = Appends-kept u v w p.front p.appended k; text_is = p.text_is }

pub write_end : {u v : Option (List ℕ)} {text left : List ℕ} → Prints u v [] text left → left ≡ [] → Appends u v text
write_end {u} {v} p none = subst (λ (l : List ℕ). Appends u v l) (sym (p.text_is ∙ ap (λ (l : List ℕ). p.front ++ l) none ∙ append-nil p.front)) p.appended

-- a text of a kind is printed whole
pub printed_some : (u v : Option (List ℕ)) (held held' : List ℕ) (Kind : List ℕ → Type 0) (text : List ℕ) → Kind text → (r : Result (Unit {0}) Stop) → OnOk r (Prints u v held text held') → AppendsFront u v (held ++ text)
    → IfErr r (λ s. s ≡ stop.Output) → PrintsSome Kind u v held held' r
printed_some u v held held' Kind text k (Ok x) all front h = (text, k, all)
printed_some u v held held' Kind text k (Err e) all front h = subst (λ (s : Stop). PrintsSome Kind u v held held' (Err s)) (sym h) (text, k, front)

-- a write fails before the text of a kind is printed whole
pub printed_front : (u v : Option (List ℕ)) (held held' : List ℕ) (Kind : List ℕ → Type 0) (text : List ℕ) → Kind text → AppendsFront u v (held ++ text) → (s : Stop) → s ≡ stop.Output → (r : Result (Unit {0}) Stop)
    → IsErrAnd r (λ e. e ≡ s) → PrintsSome Kind u v held held' r
printed_front u v held held' Kind text k front s m (Ok x) h = absurd h
printed_front u v held held' Kind text k front s m (Err e) h = subst (λ (o : Stop). PrintsSome Kind u v held held' (Err o)) (sym (h ∙ m)) (text, k, front)

-- ---- lists of texts

module _ {T : Type 0} (text : T → List ℕ) where
  -- the texts of items from an index on
  pub next_item : (ts : List T) (i : ℕ) (t : T) → t ≡ get_or ts i t → i < length ts
      → flat_map (λ t. codes " " ++ text t) (drop i ts) ++ codes "\n" ≡ codes " " ++ (text t ++ (flat_map (λ t. codes " " ++ text t) (drop (i + 1) ts) ++ codes "\n"))
  next_item ts i t is h =
      let cut : drop i ts ≡ get_or ts i t ∷ drop (i + 1) ts = rw add-one (drop-cons ts i t h) in
      let same : drop i ts ≡ t ∷ drop (i + 1) ts = cut ∙ ap (λ (u : T). u ∷ drop (i + 1) ts) (sym is) in
      rw same (append_assoc (codes " " ++ text t) _ (codes "\n"))

  pub no_item : (ts : List T) (i : ℕ) → length ts ≤ i → flat_map (λ t. codes " " ++ text t) (drop i ts) ++ codes "\n" ≡ codes "\n"
  no_item ts i h = rw (drop_of_length-le ts h) refl

  -- the same with nothing between them
  pub next_text : (ts : List T) (i : ℕ) (d : T) → i < length ts → flat_map text (drop i ts) ≡ text (get_or ts i d) ++ flat_map text (drop (i + 1) ts)
  next_text ts i d h =
      let cut : drop i ts ≡ get_or ts i d ∷ drop (i + 1) ts = rw add-one (drop-cons ts i d h) in
      rw cut refl

  pub no_text : (ts : List T) (i : ℕ) → length ts ≤ i → flat_map text (drop i ts) ≡ []
  no_text ts i h = rw (drop_of_length-le ts h) refl

  pub first_item : (ts : List T) (t : T) → t ≡ get_or ts 0 t → 0 < length ts
      → list_text text ts ++ codes "\n" ≡ text t ++ (flat_map (λ t. codes " " ++ text t) (take (length ts - 1) (drop 1 ts)) ++ codes "\n")
  first_item [] t is h = absurd (omega arith)
  first_item (u ∷ ts) t is h =
      let rest : take (length (u ∷ ts) - 1) ts ≡ ts = take_all (length (u ∷ ts) - 1) ts (omega arith) in
      rw (rest, is) (append_assoc (text u) (flat_map (λ t. codes " " ++ text t) ts) (codes "\n"))

-- the texts of some through a function
pub list_text-map : {A B : Type 0} (text : B → List ℕ) (f : A → B) (xs : List A) → list_text text (map f xs) ≡ list_text (λ x. text (f x)) xs
list_text-map text f [] = refl
list_text-map {A} text f (x ∷ xs) = ap (λ l. text (f x) ++ l) (others xs)
  where
    others : (ys : List A) → flat_map (λ y. codes " " ++ text y) (map f ys) ≡ flat_map (λ y. codes " " ++ text (f y)) ys
    others [] = refl
    others (y ∷ ys) = ap (λ l. (codes " " ++ text (f y)) ++ l) (others ys)
