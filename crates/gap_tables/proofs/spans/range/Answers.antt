use Rattle.std.proofs.Common.{◌≡◌, Some, sym, ◌∙◌, subst, slice_get, SFits, to_z, of_z, w64, ℤ, ◌≤ℤ◌, rules}
use Rattle.std.proofs.lemmas.Int.{to_z-of_z}
use Rattle.rsml_syntax.specs.declared.syntax.Spec.{Spec}
use Rattle.rsml_meaning.specs.Cells.{cells}
use Rattle.state_tree.proofs.Lists.{within_get}
use Rattle.guard_encode.proofs.CellLemmas.{of_cell_on}
use Rattle.guard_encode.proofs.StepLemmas.{keeps_on}
use Rattle.group_verdicts.proofs.Keeping.{on_new, on_old, spec_of}
use Rattle.world_columns.specs.declared.column.Span.{Span}
use Rattle.world_columns.specs.Columns.{span}
use Rattle.world_columns.specs.Gaps.{IsWidestSpan}
use Rattle.gap_tables.specs.Widening.{IsHighestEnd, IsLowestEnd, NoneWithin}
use Rattle.gap_tables.proofs.PartAnswers.{from_first, range_asked, up_to_last}
use Rattle.gap_tables.proofs.spans.range.Goals as goal

pub highest-requires-clause-order : goal.highest-requires-clause-order
highest-requires-clause-order c =
    let a = c.args.encoder.now in
    let cell = c.args.cell in
    let there = within_get (cells a.machine.base.spec) cell c.requires.cell in
    let own : c.worlds-worlds.result.now ≡ a.machine.base.spec = spec_of a c.machine.result.now c.worlds-worlds.result.now c.worlds-worlds.ensures c.machine.ensures in
    let last = c.high-last.ensures there.0 (subst (λ (t : Spec). slice_get (cells t) cell ≡ Some there.0) (sym own) there.1) in
    let up : c.args.own ≤ℤ c.high-last.result = up_to_last there.0.numbers c.args.own c.high-last.result last (c.requires.own there.0 there.1) in
    let own_fits : SFits w64 c.args.own = search rules in
    let last_fits : SFits w64 c.high-last.result = search rules in
    let own_same = to_z-of_z w64 c.args.own own_fits in
    let last_same = to_z-of_z w64 c.high-last.result last_fits in
    subst (λ (n : ℤ). n ≤ℤ to_z w64 (of_z w64 c.high-last.result)) (sym own_same) (subst (λ (n : ℤ). c.args.own ≤ℤ n) (sym last_same) up)

pub lowest-requires-clause-order : goal.lowest-requires-clause-order
lowest-requires-clause-order c =
    let a = c.args.encoder.now in
    let cell = c.args.cell in
    let there = within_get (cells a.machine.base.spec) cell c.requires.cell in
    let own : c.worlds-worlds.result.now ≡ a.machine.base.spec = spec_of a c.machine.result.now c.worlds-worlds.result.now c.worlds-worlds.ensures c.machine.ensures in
    let first = c.low-first.ensures there.0 (subst (λ (t : Spec). slice_get (cells t) cell ≡ Some there.0) (sym own) there.1) in
    let down : c.low-first.result ≤ℤ c.args.own = from_first there.0.numbers c.args.own c.low-first.result first (c.requires.own there.0 there.1) in
    let own_fits : SFits w64 c.args.own = search rules in
    let first_fits : SFits w64 c.low-first.result = search rules in
    let own_same = to_z-of_z w64 c.args.own own_fits in
    let first_same = to_z-of_z w64 c.low-first.result first_fits in
    subst (λ (n : ℤ). n ≤ℤ to_z w64 (of_z w64 c.args.own)) (sym first_same) (subst (λ (n : ℤ). c.low-first.result ≤ℤ n) (sym own_same) down)

pub returns-clause-answer : goal.returns-clause-answer
returns-clause-answer c = λ truth found none i at.
    let a = c.args.encoder.now in
    let o = c.of_cell.new.self in
    let b = c.highest.new.encoder in
    let s = a.machine.base.spec in
    let cell = c.args.cell in
    let told = c.in_ok-told.told in
    let first_keeps = c.in_ok-told.ensures.keeps in
    let keeps = keeps_on a o b first_keeps c.in_ok-high.ensures.keeps in
    let of = c.in_ok-told.ensures.answer truth found in
    let worlds : c.worlds-worlds.result.now ≡ s = spec_of a c.machine.result.now c.worlds-worlds.result.now c.worlds-worlds.ensures c.machine.ensures in
    let there = subst (λ (t : Spec). slice_get (cells t) cell ≡ Some i) (sym worlds) at in
    let own_fits : SFits w64 c.args.own = search rules in
    let first_fits : SFits w64 c.low-first.result = search rules in
    let last_fits : SFits w64 c.high-last.result = search rules in
    let high_fits : SFits w64 c.in_ok-high.high = search rules in
    let low_fits : SFits w64 c.in_ok-low.low = search rules in
    let own_same = to_z-of_z w64 c.args.own own_fits in
    let high_same = to_z-of_z w64 c.in_ok-high.high high_fits in
    let low_same = to_z-of_z w64 c.in_ok-low.low low_fits in
    let first = to_z-of_z w64 c.low-first.result first_fits ∙ c.low-first.ensures i there in
    let last = to_z-of_z w64 c.high-last.result last_fits ∙ c.high-last.ensures i there in
    let own = to_z w64 (of_z w64 c.args.own) in
    let high = c.in_ok-high.high in
    let low = c.in_ok-low.low in
    let up = subst (λ (m : ℤ). IsHighestEnd (λ n. NoneWithin s truth cell (span own n)) own m high high) last
    (on_old (λ t. IsHighestEnd (λ n. NoneWithin t truth cell (span own n)) own (to_z w64 (of_z w64 c.high-last.result)) high high) a o first_keeps
    (c.in_ok-high.ensures.answer truth of (on_new (λ t. NoneWithin t truth cell (span own own)) a o first_keeps (subst (λ (n : ℤ). NoneWithin s truth cell (span n n)) (sym own_same) none)))) in
    let held = subst (λ (n : ℤ). NoneWithin s truth cell (span own n)) (sym high_same) up.holds in
    let down = subst (λ (m : ℤ). IsLowestEnd (λ n. NoneWithin s truth cell (span n (to_z w64 (of_z w64 high)))) m own low low) first
    (on_old (λ t. IsLowestEnd (λ n. NoneWithin t truth cell (span n (to_z w64 (of_z w64 high)))) (to_z w64 (of_z w64 c.low-first.result)) own low low) a b keeps
    (c.in_ok-low.ensures.answer truth (of_cell_on o b cell truth told c.in_ok-high.ensures.keeps of) (on_new (λ t. NoneWithin t truth cell (span own (to_z w64 (of_z w64 high)))) a b keeps held))) in
    let widest = range_asked s truth cell i c.args.own low high (c.requires.own i at)
    (subst (λ (m : ℤ). IsHighestEnd (λ n. NoneWithin s truth cell (span m n)) m i.numbers.high high high) own_same up)
    (subst (λ (m : ℤ). IsLowestEnd (λ n. NoneWithin s truth cell (span n m)) i.numbers.low c.args.own low low) high_same
    (subst (λ (m : ℤ). IsLowestEnd (λ n. NoneWithin s truth cell (span n (to_z w64 (of_z w64 high)))) i.numbers.low m low low) own_same down)) in
    subst (λ (x : Span). IsWidestSpan (NoneWithin s truth cell) i.numbers c.args.own x) (λ k. record { low = sym low_same k; high = sym high_same k }) widest
