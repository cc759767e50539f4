-- Lists of words that ask for nothing.
use Rattle.std.proofs.Common.{◌≡◌, ◌≢◌, ℕ, List, [], ◌∷◌, length, map, refl, None}
use Rattle.std.proofs.lemmas.List.{length-map}
use Rattle.rstar_run.specs.Modes.{mode_of}

-- with more words than one there is no mode
no_mode : (ws : List (List ℕ)) → length ws ≢ 0 → length ws ≢ 1 → None ≡ mode_of ws
no_mode [] h k = absurd (h refl)
no_mode (a ∷ []) h k = absurd (k refl)
no_mode (a ∷ b ∷ ws) h k = refl

-- the same of words that are held in some way
pub mode_none : {A : Type 0} (text : A → List ℕ) (ws : List A) → length ws ≢ 0 → length ws ≢ 1 → None ≡ mode_of (map text ws)
mode_none text ws h k = no_mode (map text ws) (rw length-map h) (rw length-map k)
