-- Sizes are numbers from 1 to 64.
use Rattle.std.proofs.Common.{◌≡◌, ℕ, ◌≤◌, true, not, [], Option, Some, None, ℤ, pos, negsuc, int_le, arith, unsigned_abs}
use Rattle.std.specs.Option.{option_map_or}
use Rattle.std.specs.Cmp.{first_so, second_so}
use Rattle.std.proofs.lemmas.Int.{ints}
use Rattle.rsml_syntax.specs.declared.syntax.Amount.{Amount}
use Rattle.rsml_syntax.specs.text.Names.{Name}
use Rattle.rsml_syntax.specs.rules.Globals.{many, amount_of}
use Rattle.rsml_syntax.specs.rules.Breaches.{breach}
use Rattle.rsml_syntax.specs.rules.Scopes.{NameTables, Scope, is_up_to}
use Rattle.rsml_syntax.specs.rules.Uses.{is_amount, amount_used, sized}
use Rattle.rsml_syntax.proofs.Clean.{no_front, holds}

-- There is at least one, and there are at most 64.
pub record IsSmall (n : ℕ) : Type 0 where
  pub some : 1 ≤ n
  pub few : n ≤ 64

number_small : (z : ℤ) → int_le (pos 1) z ≡ true → int_le z (pos 64) ≡ true → IsSmall (unsigned_abs z)
number_small (pos n) l m = record { some = let k : 1 ≤ n = grind (arith, ints) in k; few = let k : n ≤ 64 = grind (arith, ints) in k }
number_small (negsuc n) l m = absurd (let no : ⊥ = grind (arith, ints) in no)

pub size_small : (w : NameTables) (place : Scope) (name : Name) (size : Option Amount) → sized w place name size ≡ [] → IsSmall (many w.globals size)
size_small w place name None h = record { some = omega arith; few = omega arith }
size_small w place name (Some amount) h = by (amount_of w.globals amount) (holds 5 name (is_amount w amount) (no_front (breach 5 name (not (is_amount w amount))) (amount_used w place amount) h))
  where
    by : (o : Option ℤ) → option_map_or (is_up_to (pos 64)) o true ≡ true → IsSmall (option_map_or unsigned_abs o 1)
    by None k = record { some = omega arith; few = omega arith }
    by (Some z) k = number_small z (first_so (int_le (pos 1) z) (int_le z (pos 64)) k) (second_so (int_le (pos 1) z) (int_le z (pos 64)) k)
