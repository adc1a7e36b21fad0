-- The lines of the numbers that cells hold.
use Rattle.std.proofs.Common.{◌≡◌, Bool, [], if◌then◌else◌, ℤ, sym, ap, ◌∙◌, w64, FitsSigned, to_z, of_z}
use Rattle.std.specs.Ordering.{int_eq}
use Rattle.std.proofs.lemmas.Bool.Decides.{Decides-int_eq}
use Rattle.std.proofs.lemmas.Int.{to_z-of_z}
use Rattle.rsml_meaning.specs.Cells.{InputCell}
use Rattle.rsml_meaning.specs.Report.{cell_line}
use Rattle.state_tree.proofs.Lists.{not_true}
use Rattle.finding_texts.specs.Lines.{held_line}

-- a number that is not the least has a line
pub other_number : (c : InputCell) (n low : ℤ) → low ≡ c.numbers.low → (of_z w64 n ≡ of_z w64 low → ⊥) → held_line c n ≡ cell_line (c, n)
other_number c n low e other =
    let no = not_true (int_eq n c.numbers.low) (λ h. other (ap (λ (z : ℤ). of_z w64 z) ((Decides-int_eq n c.numbers.low).0 h ∙ sym e))) in
    sym (ap (λ (b : Bool). if b then [] else held_line c n) no)

-- the least has none
pub least_number : (c : InputCell) (n low : ℤ) → FitsSigned w64 n → FitsSigned w64 low → low ≡ c.numbers.low → of_z w64 n ≡ of_z w64 low → [] ≡ cell_line (c, n)
least_number c n low fits small e same =
    let is = sym (to_z-of_z w64 n fits) ∙ ap (to_z w64) same ∙ to_z-of_z w64 low small ∙ e in
    sym (ap (λ (b : Bool). if b then [] else held_line c n) ((Decides-int_eq n c.numbers.low).1 is))
