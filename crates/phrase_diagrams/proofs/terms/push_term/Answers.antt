use Rattle.std.proofs.Common.{◌≡◌, Bool, true, false, not, if◌then◌else◌, map, List, ◌++◌, refl, sym, ap, ◌∙◌}
use Rattle.std.proofs.lemmas.Result.{on_ok_weaker}
use mathlib.Core.Bool.{beq}
use Rattle.spelled_numbers.specs.declared.weighted.Weighted.{Weighted}
use Rattle.world_levels.specs.Spelling.{cell_part}
use Rattle.phrase_diagrams.specs.Signs.{with_sign}
use Rattle.phrase_diagrams.specs.Terms.{operand_levels}
use Rattle.phrase_diagrams.proofs.BitLemmas.{signed_bits}
use Rattle.phrase_diagrams.proofs.terms.push_term.Goals as goal

-- one sign that another turns
turned : (sign minus : Bool) → not (beq sign minus) ≡ (if minus then not sign else sign)
turned true true = refl
turned true false = refl
turned false true = refl
turned false false = refl

pub returns-in-Cell : goal.returns-in-Cell
returns-in-Cell c =
    let l = c.args.layout.now in
    let sign = if c.args.minus then not c.args.term.minus else c.args.term.minus in
    on_ok_weaker c.push_bits.result
    (λ h. h ∙ ap (λ (xs : List Weighted). c.args.levels.now.items ++ xs)
    (ap (λ m. map (with_sign m) c.cell_bits.result.now) (turned c.args.term.minus c.args.minus) ∙ ap (map (with_sign sign)) c.cell_bits.ensures
    ∙ signed_bits (cell_part l.spec c.in-Cell.cell) sign l.slots ∙ ap (operand_levels l sign) (sym c.in-Cell.is)))
    c.push_bits.ensures
