-- The least number of a cell, between bounds that come together.
use Rattle.std.proofs.Common.{◌≡◌, ℕ, ◌↔◌, Bool, true, false, ◌&&◌, Some, sym, ap, ◌∙◌, true≢false, slice_get, slice_index_or, int_le, int_lt, pos, ◌+ℤ◌, ℤ, arith}
use Rattle.std.proofs.lemmas.Int.{ints}
use Rattle.std.specs.Ordering.{int_cmp, int_eq}
use Rattle.rsml_syntax.specs.declared.world.World.{World}
use Rattle.rsml_meaning.specs.Cells.{InputCell, cells}
use Rattle.rsml_meaning.specs.Worlds.{IsWorld}
use Rattle.guard_encode.specs.Encoding.{Encoding, Finds, IsOfCell, Keeps}
use Rattle.guard_encode.proofs.CellLemmas.{of_cell_on}
use Rattle.guard_encode.proofs.StepLemmas.{keeps_on}
use Rattle.guard_encode.proofs.FindLemmas.{found_on}
use Rattle.group_verdicts.specs.Narrowing.{IsOfNone, Bounds}
use Rattle.group_verdicts.specs.Finding.{Narrowed, Bounded}
use Rattle.group_verdicts.proofs.Keeping.{on_new, on_old}
use Rattle.group_verdicts.proofs.LeastNumber.{first_bounds, lower_half, upper_half, bounds_met, least_narrows, just_number, up_to_number}
use Rattle.group_verdicts.proofs.Parts.{number_above, number_below}

-- the number of a cell
abbrev pub number_in : ℕ → World → ℤ
number_in cell w = slice_index_or w.cells cell (pos 0)

-- in the later encoder r is what f told of a cell in the first one
abbrev pub ToldOfCell : Encoding → Encoding → ℕ → ℕ → ℕ → Type 0
ToldOfCell old new cell f r = (truth : World → Bool) → Finds old truth f → IsOfCell new cell truth r

-- what answers whether a truth is of no world with a number up to one
abbrev pub Asked : Encoding → ℕ → ℤ → ℕ → Bool → Type 0
Asked e cell number r may = (truth : World → Bool) → IsOfCell e cell truth r → (may ≡ false) ↔ IsOfNone (IsWorld e.machine.base.spec) (λ w. truth w && int_le (number_in cell w) number)

-- it stays told
pub still_told : (a b c : Encoding) (cell f r : ℕ) → Keeps b c → ToldOfCell a b cell f r → ToldOfCell a c cell f r
still_told a b c cell f r bc h = λ truth found. of_cell_on b c cell truth r bc (h truth found)

-- the bounds are the ends of the cell
pub bounded_by_ends : (e : Encoding) (c : InputCell) (cell : ℕ) (low high : ℤ) (f : ℕ) → slice_get (cells e.machine.base.spec) cell ≡ Some c
    → low ≡ c.numbers.low → high ≡ c.numbers.high
    → Bounded e (number_in cell) low high f
bounded_by_ends e c cell low high f at is_low is_high = λ truth found some.
    first_bounds e.machine.base.spec (number_in cell) low high truth some
    (λ w is. ap (λ z. int_le z (number_in cell w)) is_low ∙ number_above e.machine.base.spec w is cell c at)
    (λ w is. ap (λ z. int_le (number_in cell w) z) is_high ∙ number_below e.machine.base.spec w is cell c at)

-- some world has a number up to the middle
pub bounded_below : (a b : Encoding) (cell : ℕ) (low middle high : ℤ) (f r : ℕ) (may : Bool) → Keeps a b → may ≡ true
    → Bounded a (number_in cell) low high f
    → ToldOfCell a b cell f r → Asked b cell middle r may → Bounded a (number_in cell) low middle f
bounded_below a b cell low middle high f r may ab passes before told asked = λ truth found some.
    lower_half a.machine.base.spec (number_in cell) low middle high truth (before truth found some)
    (λ none.
    true≢false (sym passes ∙ (asked truth (told truth found)).1 (on_new (λ s. IsOfNone (IsWorld s) (λ w. truth w && int_le (number_in cell w) middle)) a b ab none)))

-- none has
pub bounded_above : (a b : Encoding) (cell : ℕ) (low middle high : ℤ) (f r : ℕ) (may : Bool) → Keeps a b → may ≡ false
    → Bounded a (number_in cell) low high f
    → ToldOfCell a b cell f r → Asked b cell middle r may → Bounded a (number_in cell) (middle +ℤ pos 1) high f
bounded_above a b cell low middle high f r may ab fails before told asked = λ truth found some.
    upper_half a.machine.base.spec (number_in cell) low middle high truth (before truth found some)
    (on_old (λ s. IsOfNone (IsWorld s) (λ w. truth w && int_le (number_in cell w) middle)) a b ab ((asked truth (told truth found)).0 fails))

-- the bounds have met
pub bounded_at_one : (e : Encoding) (number : World → ℤ) (low high : ℤ) (f : ℕ) → int_le high low ≡ true → Bounded e number low high f
    → Bounded e number low low f
bounded_at_one e number low high f met h = λ truth found some. bounds_met e.machine.base.spec number low high truth met (h truth found some)

-- the least number between bounds that have met
pub narrowed_at : (a b c : Encoding) (number : World → ℤ) (least : ℤ) (f r : ℕ) → Keeps a b → Keeps b c → Bounded a number least least f
    → ((truth : World → Bool) → Finds b truth f → Finds c (λ w. truth w && int_eq (number w) least) r) → Narrowed a c int_cmp number least f r
narrowed_at a b c number least f r ab bc h rest = λ truth found some. record {
  next = λ w. truth w && int_eq (number w) least;
  found = rest truth (found_on a b truth f ab found);
  narrows = least_narrows c.machine.base.spec number least truth (λ w. truth w && int_eq (number w) least)
      (on_new (λ s. Bounds s number least least truth) a c (keeps_on a b c ab bc) (h truth found some)) (up_to_number truth number least) (just_number truth number least);
}

-- a number that is not less is at least as great
pub not_less : (a b : ℤ) → int_lt a b ≡ false → int_le b a ≡ true
not_less a b h = grind (arith, ints)
