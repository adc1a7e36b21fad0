use Rattle.std.proofs.Common.{◌≡◌, sym, ◌∙◌, subst, false, true≢false}
use Rattle.std.proofs.lemmas.Option.{MatchOption-at_none, MatchOption-at_some}
use Rattle.rsml_syntax.specs.declared.syntax.Spec.{Spec}
use Rattle.rsml_meaning.specs.Worlds.{IsWorld, is_world}
use Rattle.guard_encode.proofs.BoundLemmas.{grows_on, keeps_grows, told_grows}
use Rattle.guard_encode.proofs.StepLemmas.{told_on}
use Rattle.group_verdicts.proofs.Keeping.{on_new, spec_of}
use Rattle.group_verdicts.proofs.FailLemmas.{Nowhere}
use Rattle.group_verdicts.specs.Least.{IsLeastWorld}
use Rattle.gap_tables.proofs.ColumnLists.{next_found, none_next}
use Rattle.gap_tables.proofs.gaps.next_column.Goals as goal

pub returns-in_default-clause-answer : goal.returns-in_default-clause-answer
returns-in_default-clause-answer c = λ set all.
    let b = c.least_world.new.encoder in
    let s = b.machine.base.spec in
    none_next c.args.encoder.now b set c.args.set c.in_ok-world.ensures.keeps all
    (MatchOption-at_none (Nowhere s all.told) (IsLeastWorld s all.told) c.in_default.is (c.in_ok-world.ensures.answer all.told all.tells))

-- what is least of a set that is told is a world
pub returns-then-not-fits-clause-answer : goal.returns-then-not-fits-clause-answer
returns-then-not-fits-clause-answer c = λ set all.
    let b = c.least_world.new.encoder in
    let s = b.machine.base.spec in
    let w = c.in-Some.world in
    let least = MatchOption-at_some (Nowhere s all.told) (IsLeastWorld s all.told) w c.in-Some.is (c.in_ok-world.ensures.answer all.told all.tells) in
    let own : c.worlds.result.now ≡ s = spec_of b c.machine.result.now c.worlds.result.now c.worlds.ensures c.machine.ensures in
    let not : is_world s w ≡ false = subst (λ (t : Spec). is_world t w ≡ false) own (sym c.fits.ensures ∙ c.if-not-fits.true) in
    absurd (true≢false (sym least.such.0 ∙ not))

pub column_of-requires-clause-texts : goal.column_of-requires-clause-texts
column_of-requires-clause-texts c = on_new (λ s. c.args.texts.now ≡ s) c.args.encoder.now c.least_world.new.encoder c.in_ok-world.ensures.keeps c.requires.texts

pub column_of-requires-clause-world : goal.column_of-requires-clause-world
column_of-requires-clause-world c =
    let b = c.least_world.new.encoder in
    let own : c.worlds.result.now ≡ b.machine.base.spec = spec_of b c.machine.result.now c.worlds.result.now c.worlds.ensures c.machine.ensures in
    subst (λ (t : Spec). IsWorld t c.in-Some.world) own (sym c.fits.ensures ∙ c.if-not-fits.false)

pub returns-clause-answer : goal.returns-clause-answer
returns-clause-answer c = λ set all.
    let a = c.args.encoder.now in
    let b = c.least_world.new.encoder in
    let e = c.column_of.new.encoder in
    let d = c.without.new.encoder in
    let s = b.machine.base.spec in
    let w = c.in-Some.world in
    let least = MatchOption-at_some (Nowhere s all.told) (IsLeastWorld s all.told) w c.in-Some.is (c.in_ok-world.ensures.answer all.told all.tells) in
    let told = told_on a b all.told c.args.set c.in_ok-world.ensures.keeps all.tells.told in
    let column = c.in_ok-column.ensures.answer all.told told least.such.1 in
    next_found a b e d set c.args.set w c.in_ok-column.column c.in_ok-column.inside c.in_ok-left.left c.in_ok-world.ensures.keeps c.in_ok-column.ensures.keeps c.in_ok-left.ensures.keeps all
    least column (c.in_ok-left.ensures.answer all.told column.1.told (told_grows b e all.told c.args.set c.in_ok-column.ensures.keeps told) column.1.tells)

pub returns-clause-keeps : goal.returns-clause-keeps
returns-clause-keeps c =
    let a = c.args.encoder.now in
    let b = c.least_world.new.encoder in
    let e = c.column_of.new.encoder in
    let d = c.without.new.encoder in
    grows_on a b d (keeps_grows a b c.in_ok-world.ensures.keeps) (grows_on b e d c.in_ok-column.ensures.keeps (keeps_grows e d c.in_ok-left.ensures.keeps))

pub returns-in_err-world-clause-keeps : goal.returns-in_err-world-clause-keeps
returns-in_err-world-clause-keeps c = keeps_grows c.args.encoder.now c.least_world.new.encoder c.in_err-world.ensures.keeps

pub returns-in_default-clause-keeps : goal.returns-in_default-clause-keeps
returns-in_default-clause-keeps c = keeps_grows c.args.encoder.now c.least_world.new.encoder c.in_ok-world.ensures.keeps

pub returns-then-not-fits-clause-keeps : goal.returns-then-not-fits-clause-keeps
returns-then-not-fits-clause-keeps c = keeps_grows c.args.encoder.now c.least_world.new.encoder c.in_ok-world.ensures.keeps
