-- Counting: sums over lists, items without repeats, and the count that is shown.
use Rattle.std.specs.Prelude.{ℕ, ◌+◌, Bool, List, [], ◌∷◌, if◌then◌else◌, min}
use Rattle.std.specs.List.{list_any}

-- the sum of what is counted at each item
abbrev pub adds : {A : Type 0} → (A → ℕ) → List A → ℕ
adds count [] = 0
adds count (x ∷ xs) = count x + adds count xs

-- the items without repeats
abbrev pub distinct : {A : Type 0} → (A → A → Bool) → List A → List A
distinct eq [] = []
distinct eq (x ∷ xs) = if list_any (eq x) xs then distinct eq xs else x ∷ distinct eq xs

-- the count that is shown: at most the greatest u64
abbrev pub shown : ℕ → ℕ
shown count = min count 18446744073709551615
