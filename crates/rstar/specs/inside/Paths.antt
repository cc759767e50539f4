-- What a contract sees of a path.
use Rattle.std.specs.Prelude.{ℕ, List, [], ◌∷◌, refl}
use Rattle.rstar.specs.declared.path.Near.{Near}
use Rattle.std.specs.Coded.{Coded, code_by, coded×, coded_ℕ, coded_list}

-- its items, the last put in last, and how many have room
pub record Path (X : Type 0) : Type 0 where
  pub items : List X
  pub capacity : ℕ

-- a path is stored as the pair of its fields
abbrev pub path_code : {X : Type 0} → Coded X → Coded (Path X)
path_code {X} code =
    code_by (List X × ℕ) (coded× (coded_list code) coded_ℕ) (λ p. (p.items, p.capacity))
    (λ p. record { items = p.0; capacity = p.1 }) (λ _. refl)

-- the items of the twelve places
abbrev pub near_items : {X : Type 0} → Near X → List X
near_items n = n.p0 ∷ n.p1 ∷ n.p2 ∷ n.p3 ∷ n.p4 ∷ n.p5 ∷ n.p6 ∷ n.p7 ∷ n.p8 ∷ n.p9 ∷ n.p10 ∷ n.p11 ∷ []
