-- Words of another number than a command takes.
use Rattle.std.proofs.Common.{◌≡◌, ◌≢◌, ◌∙◌, ◌<◌, ℕ, List, [], ◌∷◌, length, get_or, map, drop, ℤ, refl, ap, Option, None, Some, Bor, Bool, true, false, subst, sym, rules, arith, codes, w64, to_z, of_z, to_z-of_z}
use Rattle.std.specs.Str.{IsUtf8, bytes_eq}
use Rattle.std.proofs.lemmas.Str.{IsUtf8-from_ascii}
use Rattle.std.proofs.lemmas.List.{length-map}
use Rattle.std.proofs.lemmas.Slice.Eq.{bytes_eq-Decides}
use Rattle.rstar_run.specs.Numerals.{◌>>=◌, unsigned_of, signed_of}
use Rattle.rstar_run.proofs.Numerals.{signed_fits}
use Rattle.rstar_run.specs.Grammar.{command_of, drain_of, line_of, verb_of, known, listed, point_of, corners_of, rectangle_of, entry_of}
use Rattle.rstar_run.specs.Items.{item_of}
use Rattle.rstar_run.specs.declared.items.Corners.{Corners}
use Rattle.rstar_run.specs.declared.command.Line.TheVariants as line
use Rattle.rstar_run.specs.declared.command.Entry.TheVariants as entry
use Rattle.rstar_run.specs.declared.command.Verb.{Verb}
use Rattle.rstar_run.specs.declared.command.Verb.TheVariants.{Insert, Remove, RemoveAt, Pop, Drain, In, Hit, At, Within, Near, Size, Load}

-- how many words come after a verb
abbrev pub arity : Verb → ℕ
arity Insert = 5
arity Remove = 5
arity RemoveAt = 2
arity Pop = 2
arity Drain = 6
arity In = 4
arity Hit = 4
arity At = 2
arity Within = 3
arity Near = 3
arity Size = 0
arity Load = 1

-- with another number of words there is no command
pub command_none : (v : Verb) (ws : List (List ℕ)) → length ws ≢ arity v → None ≡ command_of v ws
command_none Insert [] h = refl
command_none Insert (a ∷ []) h = refl
command_none Insert (a ∷ b ∷ []) h = refl
command_none Insert (a ∷ b ∷ c ∷ []) h = refl
command_none Insert (a ∷ b ∷ c ∷ d ∷ []) h = refl
command_none Insert (a ∷ b ∷ c ∷ d ∷ e ∷ []) h = absurd (h refl)
command_none Insert (a ∷ b ∷ c ∷ d ∷ e ∷ f ∷ ws) h = refl
command_none Remove [] h = refl
command_none Remove (a ∷ []) h = refl
command_none Remove (a ∷ b ∷ []) h = refl
command_none Remove (a ∷ b ∷ c ∷ []) h = refl
command_none Remove (a ∷ b ∷ c ∷ d ∷ []) h = refl
command_none Remove (a ∷ b ∷ c ∷ d ∷ e ∷ []) h = absurd (h refl)
command_none Remove (a ∷ b ∷ c ∷ d ∷ e ∷ f ∷ ws) h = refl
command_none RemoveAt [] h = refl
command_none RemoveAt (a ∷ []) h = refl
command_none RemoveAt (a ∷ b ∷ []) h = absurd (h refl)
command_none RemoveAt (a ∷ b ∷ c ∷ ws) h = refl
command_none Pop [] h = refl
command_none Pop (a ∷ []) h = refl
command_none Pop (a ∷ b ∷ []) h = absurd (h refl)
command_none Pop (a ∷ b ∷ c ∷ ws) h = refl
command_none Drain [] h = refl
command_none Drain (a ∷ []) h = refl
command_none Drain (a ∷ b ∷ []) h = refl
command_none Drain (a ∷ b ∷ c ∷ []) h = refl
command_none Drain (a ∷ b ∷ c ∷ d ∷ []) h = refl
command_none Drain (a ∷ b ∷ c ∷ d ∷ e ∷ []) h = refl
command_none Drain (a ∷ b ∷ c ∷ d ∷ e ∷ f ∷ []) h = absurd (h refl)
command_none Drain (a ∷ b ∷ c ∷ d ∷ e ∷ f ∷ g ∷ ws) h = refl
command_none In [] h = refl
command_none In (a ∷ []) h = refl
command_none In (a ∷ b ∷ []) h = refl
command_none In (a ∷ b ∷ c ∷ []) h = refl
command_none In (a ∷ b ∷ c ∷ d ∷ []) h = absurd (h refl)
command_none In (a ∷ b ∷ c ∷ d ∷ e ∷ ws) h = refl
command_none Hit [] h = refl
command_none Hit (a ∷ []) h = refl
command_none Hit (a ∷ b ∷ []) h = refl
command_none Hit (a ∷ b ∷ c ∷ []) h = refl
command_none Hit (a ∷ b ∷ c ∷ d ∷ []) h = absurd (h refl)
command_none Hit (a ∷ b ∷ c ∷ d ∷ e ∷ ws) h = refl
command_none At [] h = refl
command_none At (a ∷ []) h = refl
command_none At (a ∷ b ∷ []) h = absurd (h refl)
command_none At (a ∷ b ∷ c ∷ ws) h = refl
command_none Within [] h = refl
command_none Within (a ∷ []) h = refl
command_none Within (a ∷ b ∷ []) h = refl
command_none Within (a ∷ b ∷ c ∷ []) h = absurd (h refl)
command_none Within (a ∷ b ∷ c ∷ d ∷ ws) h = refl
command_none Near [] h = refl
command_none Near (a ∷ []) h = refl
command_none Near (a ∷ b ∷ []) h = refl
command_none Near (a ∷ b ∷ c ∷ []) h = absurd (h refl)
command_none Near (a ∷ b ∷ c ∷ d ∷ ws) h = refl
command_none Size [] h = absurd (h refl)
command_none Size (a ∷ ws) h = refl
command_none Load [] h = refl
command_none Load (a ∷ []) h = absurd (h refl)
command_none Load (a ∷ b ∷ ws) h = refl

-- the same of words that are lent
pub lent_none : (v : Verb) (ws : List (Bor (List ℕ))) → length ws ≢ arity v → None ≡ command_of v (map (λ word. word.now) ws)
lent_none v ws h = command_none v (map (λ word. word.now) ws) (rw length-map h)

-- a word that is no text is no verb
is_not : (w v : List ℕ) → ¬ (IsUtf8 w) → IsUtf8 v → bytes_eq w v ≡ false
is_not w v h k = not_true (bytes_eq w v) (λ e. h (subst IsUtf8 (sym ((bytes_eq-Decides w v).0 e)) k)) where
  not_true : (b : Bool) → (b ≡ true → ⊥) → b ≡ false
  not_true true f = absurd (f refl)
  not_true false f = refl

pub verb_none : (w : List ℕ) → ¬ (IsUtf8 w) → None ≡ verb_of w
verb_none w h =
    let insert : bytes_eq w (codes "insert") ≡ false = is_not w (codes "insert") h (IsUtf8-from_ascii _ (search rules)) in
    let remove : bytes_eq w (codes "remove") ≡ false = is_not w (codes "remove") h (IsUtf8-from_ascii _ (search rules)) in
    let remove_at : bytes_eq w (codes "removeat") ≡ false = is_not w (codes "removeat") h (IsUtf8-from_ascii _ (search rules)) in
    let pop : bytes_eq w (codes "pop") ≡ false = is_not w (codes "pop") h (IsUtf8-from_ascii _ (search rules)) in
    let drain : bytes_eq w (codes "drain") ≡ false = is_not w (codes "drain") h (IsUtf8-from_ascii _ (search rules)) in
    let in_box : bytes_eq w (codes "in") ≡ false = is_not w (codes "in") h (IsUtf8-from_ascii _ (search rules)) in
    let hit : bytes_eq w (codes "hit") ≡ false = is_not w (codes "hit") h (IsUtf8-from_ascii _ (search rules)) in
    let at : bytes_eq w (codes "at") ≡ false = is_not w (codes "at") h (IsUtf8-from_ascii _ (search rules)) in
    let within : bytes_eq w (codes "within") ≡ false = is_not w (codes "within") h (IsUtf8-from_ascii _ (search rules)) in
    let near : bytes_eq w (codes "near") ≡ false = is_not w (codes "near") h (IsUtf8-from_ascii _ (search rules)) in
    let size : bytes_eq w (codes "size") ≡ false = is_not w (codes "size") h (IsUtf8-from_ascii _ (search rules)) in
    let load : bytes_eq w (codes "load") ≡ false = is_not w (codes "load") h (IsUtf8-from_ascii _ (search rules)) in
    sym (rw (insert, remove, remove_at, pop, drain, in_box, hit, at, within, near, size, load) refl)

pub drain_none : (w : List ℕ) (corners : Corners) (most : ℕ) → ¬ (IsUtf8 w) → None ≡ drain_of w corners most
drain_none w corners most h =
    let in_box : bytes_eq w (codes "in") ≡ false = is_not w (codes "in") h (IsUtf8-from_ascii _ (search rules)) in
    let hit : bytes_eq w (codes "hit") ≡ false = is_not w (codes "hit") h (IsUtf8-from_ascii _ (search rules)) in
    sym (rw (in_box, hit) refl)

-- a line of more words than the longest command is bad
pub line_bad : (ws : List (List ℕ)) → 8 < length ws → line.Bad ≡ line_of ws
line_bad [] h = absurd (omega arith)
line_bad (w ∷ ws) h = bad (verb_of w) where
  many : (v : Verb) → length ws ≢ arity v
  many Insert e = omega arith
  many Remove e = omega arith
  many RemoveAt e = omega arith
  many Pop e = omega arith
  many Drain e = omega arith
  many In e = omega arith
  many Hit e = omega arith
  many At e = omega arith
  many Within e = omega arith
  many Near e = omega arith
  many Size e = omega arith
  many Load e = omega arith

  bad : (v : Option Verb) → line.Bad ≡ known (v >>= (λ v. command_of v ws))
  bad None = refl
  bad (Some v) = ap known (command_none v ws (many v))

-- a point that is made of two numbers
pub point_taken : (first second : List ℕ) (x y : ℤ) → Some x ≡ signed_of first → Some y ≡ signed_of second → Some (to_z w64 (of_z w64 x) ∷ to_z w64 (of_z w64 y) ∷ []) ≡ point_of first second
point_taken first second x y e f = rw (to_z-of_z (signed_fits first x e), to_z-of_z (signed_fits second y f)) (sym (rw (← e, ← f) refl))

-- the last of the words that corners are
last_word : (x1 y1 x2 y2 : List ℕ) (corners : Corners) → Some corners ≡ corners_of x1 y1 x2 y2 → y2 ≢ []
last_word x1 y1 x2 y2 corners e none = none_of (point_of x1 y1) (signed_of x2) (rw none at e) where
  none_of : (p : Option (List ℤ)) (o : Option ℤ) → Some corners ≡ (p >>= λ one'. ((o >>= λ x'. None) >>= λ other'. Some (record { one = one'; other = other' }))) → ⊥
  none_of None o e = absurd cc
  none_of (Some one') None e = absurd cc
  none_of (Some one') (Some z) e = absurd cc

-- inside a load, the corners behind the ID are all that is left of the words
five : (ws : List (List ℕ)) → get_or (drop 1 ws) 3 [] ≢ [] → drop 4 (drop 1 ws) ≡ []
    → entry_of ws ≡ listed (rectangle_of (get_or ws 0 []) (get_or (drop 1 ws) 0 []) (get_or (drop 1 ws) 1 []) (get_or (drop 1 ws) 2 []) (get_or (drop 1 ws) 3 []))
five (a ∷ b ∷ c ∷ d ∷ e ∷ []) some none = refl
five (a ∷ b ∷ c ∷ d ∷ e ∷ f ∷ ws) some none = absurd cc
five _ some none = absurd (some refl)

pub entry_found : (ws : List (List ℕ)) (id : ℕ) (corners : Corners) (others : List (List ℕ)) → others ≡ drop 1 ws → Some id ≡ unsigned_of (get_or ws 0 [])
    → Some corners ≡ corners_of (get_or others 0 []) (get_or others 1 []) (get_or others 2 []) (get_or others 3 []) → drop 4 others ≡ [] → entry.Item (item_of id corners) ≡ entry_of ws
entry_found ws id corners others behind i p none =
    let p' = rw behind at p in
    sym (five ws (last_word (get_or (drop 1 ws) 0 []) (get_or (drop 1 ws) 1 []) (get_or (drop 1 ws) 2 []) (get_or (drop 1 ws) 3 []) corners p') (rw behind at none) ∙ rw (← i, ← p') refl)
