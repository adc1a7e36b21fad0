-- When a line is skipped, by its first byte that is no space or tab.
use Rattle.std.proofs.Common.{◌≡◌, ℕ, Bool, true, false, [], ◌∷◌, Option, Some, None, refl}
use Rattle.std.specs.Prelude.{if◌then◌else◌, ◌==◌, find, not, cond}
use Rattle.std.specs.Str.{byte}
use Rattle.rsml_meaning.specs.EventLines.{Bytes, is_blank, is_skipped}

abbrev is_hash : Option ℕ → Bool
is_hash (Some c) = c == byte "#"
is_hash None = true

pub by_first_other : (line : Bytes) → is_skipped line ≡ is_hash (find (λ c. not (is_blank c)) line)
by_first_other [] = refl
by_first_other (c ∷ cs) = by_test (is_blank c) (by_first_other cs)
  where
    by_test : (b : Bool) → is_skipped cs ≡ is_hash (find (λ c. not (is_blank c)) cs) →
        (if b then is_skipped cs else c == byte "#") ≡ is_hash (cond (not b) (Some c) (find (λ c. not (is_blank c)) cs))
    by_test true h = h
    by_test false h = refl
