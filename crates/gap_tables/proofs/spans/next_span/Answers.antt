use Rattle.std.proofs.Common.{◌≡◌, ◌<◌, ◌&&◌, not, suc, ℤ, pos, true, false, length, Some, sym, ap, subst, ◌∙◌, slice_get, slice_index_or, IsTrue, to_z, of_z, w64, SFits, arith, rules}
use Rattle.std.proofs.lemmas.Int.{to_z-of_z}
use Rattle.rsml_syntax.specs.declared.syntax.Spec.{Spec}
use Rattle.rsml_meaning.specs.Cells.{InputCell, cells, is_of}
use Rattle.state_tree.proofs.Lists.{within_get}
use Rattle.guard_encode.proofs.BoundLemmas.{grows_on, keeps_grows}
use Rattle.guard_encode.proofs.StepLemmas.{keeps_on, told_on}
use Rattle.group_verdicts.proofs.Keeping.{on_new, on_old, spec_of}
use Rattle.group_verdicts.proofs.Parts.{many_cells}
use Rattle.world_columns.specs.Columns.{in_span, span}
use Rattle.world_columns.specs.Gaps.{IsSpanOf}
use Rattle.gap_tables.specs.Widening.{FindsLater, NoneWithin, TellsOf, begins_with, number_at}
use Rattle.gap_tables.proofs.Places.{get_index}
use Rattle.gap_tables.proofs.Steps.{of_parts}
use Rattle.gap_tables.proofs.PartAnswers.{bad_worlds, begun_span, none_own, own_of, span_unread, span_widest, told_span}
use Rattle.gap_tables.proofs.spans.next_span.Goals as goal

pub returns-then-not-is_read-clause-answer : goal.returns-then-not-is_read-clause-answer
returns-then-not-is_read-clause-answer c = λ set cs xs of all many later other begun.
    let a = c.args.encoder.now in
    let s = a.machine.base.spec in
    let w = c.args.world.now in
    let every = many_cells s w c.requires.world in
    let within = c.requires.cell in
    let less : length xs < length w.cells = omega (arith, many, every, within) in
    let there = within_get (cells s) c.args.cell c.requires.cell in
    let own : c.worlds.result.now ≡ s = spec_of a c.machine.result.now c.worlds.result.now c.worlds.ensures c.machine.ensures in
    span_unread a c.args.read.now w set cs xs there.0 c.whole.result c.args.inside c.requires.world of all less
    (subst (λ n. slice_get (cells s) n ≡ Some there.0) (sym many) there.1)
    (c.whole.ensures there.0 (subst (λ (t : Spec). slice_get (cells t) c.args.cell ≡ Some there.0) (sym own) there.1))
    (subst (λ n. slice_index_or c.args.read.now.cells n true ≡ false) (sym many) (sym c.is_read.ensures ∙ c.if-not-is_read.true))
    begun

-- the number of a world is one of the cell
pub span_of-requires-clause-own : goal.span_of-requires-clause-own
span_of-requires-clause-own c =
    let a = c.args.encoder.now in
    let w = c.args.world.now in
    let fits : SFits w64 c.number_in-own.result = search rules in
    let number = to_z w64 (of_z w64 c.number_in-own.result) in
    let number_is : number ≡ number_at c.args.cell w = to_z-of_z w64 c.number_in-own.result fits ∙ c.number_in-own.ensures in
    on_new (λ t. (i : InputCell) → slice_get (cells t) c.args.cell ≡ Some i → IsTrue (is_of i.numbers number)) a c.coming.new.encoder c.in_ok-bad.ensures.keeps
    (λ i at. subst (λ (n : ℤ). IsTrue (is_of i.numbers n)) (sym number_is) (own_of a.machine.base.spec w c.args.cell i c.requires.world at))

pub returns-clause-answer : goal.returns-clause-answer
returns-clause-answer c = λ set cs xs of all many later other begun.
    let a = c.args.encoder.now in
    let b = c.coming.new.encoder in
    let e = c.span_of.new.encoder in
    let d = c.within.new.encoder in
    let s = a.machine.base.spec in
    let read = c.args.read.now in
    let w = c.args.world.now in
    let x = c.in_ok-span.span in
    let every = many_cells s w c.requires.world in
    let within = c.requires.cell in
    let less : length xs < length w.cells = omega (arith, many, every, within) in
    let there = within_get (cells s) c.args.cell c.requires.cell in
    let at : slice_get (cells s) (length xs) ≡ Some there.0 = subst (λ n. slice_get (cells s) n ≡ Some there.0) (sym many) there.1 in
    let own = number_at (length xs) w in
    let own_at = get_index w.cells (length xs) (pos 0) less in
    let after : FindsLater a read w (length cs) (suc (length xs)) c.args.after = subst (λ n. FindsLater a read w (length cs) (suc n) c.args.after) (sym many) later in
    let truth = bad_worlds a read w (length cs) (suc (length xs)) c.args.after c.args.others c.args.inside (λ v. not (set v)) (begins_with (of_parts cs xs)) after other begun.1 in
    let found = c.in_ok-bad.ensures.answer after.later other.told begun.1.told after.finds other.tells begun.1.tells in
    let none = none_own a read w set cs xs own c.args.after c.args.others c.args.inside after other begun.1 own_at begun.0.none_comes in
    let at_cell = subst (λ n. NoneWithin s truth n (span own own)) many none in
    let own_fits : SFits w64 c.number_in-own.result = search rules in
    let number = to_z w64 (of_z w64 c.number_in-own.result) in
    let number_is : number ≡ number_at c.args.cell w = to_z-of_z w64 c.number_in-own.result own_fits ∙ c.number_in-own.ensures in
    let widest = c.in_ok-span.ensures.answer truth found (on_new (λ t. NoneWithin t truth c.args.cell (span number number)) a b c.in_ok-bad.ensures.keeps
    (subst (λ (n : ℤ). NoneWithin s truth c.args.cell (span n n)) (ap (λ k. number_at k w) many ∙ sym number_is) at_cell)) there.0
    (on_new (λ t. slice_get (cells t) c.args.cell ≡ Some there.0) a b c.in_ok-bad.ensures.keeps there.1) in
    let back = on_old (λ t. IsSpanOf there.0.numbers.names (NoneWithin t truth c.args.cell) there.0.numbers number x) a b c.in_ok-bad.ensures.keeps widest in
    let here = subst (λ n. IsSpanOf there.0.numbers.names (NoneWithin s truth n) there.0.numbers (number_at n w) x) (sym many)
    (subst (λ (n : ℤ). IsSpanOf there.0.numbers.names (NoneWithin s truth c.args.cell) there.0.numbers n x) number_is back) in
    let ae = keeps_on a b e c.in_ok-bad.ensures.keeps c.in_ok-span.ensures.keeps in
    let ad = grows_on a e d (keeps_grows a e ae) c.in_ok-narrowed.ensures.keeps in
    let told = c.in_ok-narrowed.ensures.told begun.1.told (told_on a e begun.1.told c.args.inside ae begun.1.tells) in (
      begun_span a d read w set cs xs there.0 x ad c.requires.world of all less at begun.0
          (span_widest a read w set cs xs there.0.numbers.names there.0.numbers own c.args.after c.args.others c.args.inside x after other begun.1 here),
      told_span a d cs xs x c.in_ok-narrowed.narrowed c.args.inside ad begun.1
          (subst (λ n. TellsOf d (λ v. begun.1.told v && in_span x (number_at n v)) c.in_ok-narrowed.narrowed) (sym many) told),
    )

pub returns-clause-keeps : goal.returns-clause-keeps
returns-clause-keeps c =
    let a = c.args.encoder.now in
    let b = c.coming.new.encoder in
    let e = c.span_of.new.encoder in
    grows_on a e c.within.new.encoder (keeps_grows a e (keeps_on a b e c.in_ok-bad.ensures.keeps c.in_ok-span.ensures.keeps)) c.in_ok-narrowed.ensures.keeps

pub returns-in_err-bad-clause-keeps : goal.returns-in_err-bad-clause-keeps
returns-in_err-bad-clause-keeps c = keeps_grows c.args.encoder.now c.coming.new.encoder c.in_err-bad.ensures.keeps

pub returns-in_err-span-clause-keeps : goal.returns-in_err-span-clause-keeps
returns-in_err-span-clause-keeps c =
    let a = c.args.encoder.now in
    let e = c.span_of.new.encoder in
    keeps_grows a e (keeps_on a c.coming.new.encoder e c.in_ok-bad.ensures.keeps c.in_err-span.ensures.keeps)
