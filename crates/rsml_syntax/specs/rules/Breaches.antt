-- Broken rules with the names that are shown, and the lowest of them.
use Rattle.std.specs.Prelude.{◌≡◌, ℕ, ◌<◌, Bool, true, false, List, [], ◌∷◌, map, find, fold, min, Option, Some, None, ◌==◌, option_and_then}
use Rattle.rsml_syntax.specs.text.Names.{Name}

-- a rule, by its number, that is broken at a name
pub record Breach : Type 0 where
  pub rule : ℕ
  pub shown : Name

-- the breach of a rule at a name, where it is broken there
abbrev pub breach : ℕ → Name → Bool → List Breach
breach rule name true = record { rule = rule; shown = name } ∷ []
breach rule name false = []

-- the first breach of a rule
abbrev pub first_breach : ℕ → List Breach → Option Breach
first_breach rule bs = find (λ b. b.rule == rule) bs

-- It is the first breach of its rule, and no lower rule is broken.
pub record IsLowest (bs : List Breach) (b : Breach) : Type 0 where
  pub first : first_breach b.rule bs ≡ Some b
  pub no_lower : (rule : ℕ) → rule < b.rule → first_breach rule bs ≡ None

-- the least of some numbers, if there are any
abbrev pub least : List ℕ → Option ℕ
least [] = None
least (n ∷ ns) = Some (fold min n ns)

-- the first breach of the lowest rule that has one
abbrev pub lowest : List Breach → Option Breach
lowest bs = option_and_then (λ rule. first_breach rule bs) (least (map (λ b. b.rule) bs))
