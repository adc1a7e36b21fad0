use Rattle.std.proofs.Common.{◌≡◌, ◌≤ℤ◌, ℤ, length, sym, subst, arith, pos, neg_ℤ, true, int_le}
use Rattle.std.specs.Cmp.{first_so, second_so}
use Rattle.std.proofs.lemmas.Int.{ints}
use Rattle.rsml_meaning.specs.Cells.{cells}
use Rattle.rsml_ground.specs.Rests.{IsSmall, OperandFits}
use Rattle.phrase_diagrams.specs.Signs.{IsWithin}
use Rattle.phrase_diagrams.proofs.WorldLemmas.{item_at}
use Rattle.phrase_diagrams.proofs.bases.operand_base.Goals as goal

at_least : (a b : ℤ) → int_le a b ≡ true → a ≤ℤ b
at_least a b h = grind (arith, ints)

within : (n : ℤ) → IsSmall n → IsWithin 1000000000 n
within n small = record {
  least = at_least (neg_ℤ (pos 1000000000)) n (first_so (int_le (neg_ℤ (pos 1000000000)) n) (int_le n (pos 1000000000)) small);
  most = at_least n (pos 1000000000) (second_so (int_le (neg_ℤ (pos 1000000000)) n) (int_le n (pos 1000000000)) small);
}

pub returns-in-Cell-clause-small : goal.returns-in-Cell-clause-small
returns-in-Cell-clause-small c =
    let there = item_at (cells c.args.layout.now.spec) c.in-Cell.cell (subst (OperandFits (length (cells c.args.layout.now.spec))) c.in-Cell.is c.requires) in
    let small : IsWithin 1000000000 c.low.result = within c.low.result (subst IsSmall (sym (c.low.ensures there.0 there.1)) (c.law.ensures.lows c.in-Cell.cell there.0 there.1)) in
    record { least = omega (arith, ints, small.least, c.low.type_inv); most = omega (arith, ints, small.most, c.low.type_inv) }
