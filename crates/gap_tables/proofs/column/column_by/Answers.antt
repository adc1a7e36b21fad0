use Rattle.std.proofs.Common.{◌≡◌, ℕ, List, sym, subst}
use Rattle.rsml_meaning.specs.Worlds.{IsWorld}
use Rattle.guard_encode.proofs.BoundLemmas.{grows_on, keeps_grows}
use Rattle.guard_encode.proofs.StepLemmas.{keeps_on}
use Rattle.group_verdicts.proofs.Keeping.{on_new}
use Rattle.gap_tables.specs.Widening.{AreLaterCells}
use Rattle.gap_tables.proofs.ColumnLists.{children_from, column_found}
use Rattle.gap_tables.proofs.LaterParts.{cells_on}
use Rattle.gap_tables.proofs.column.column_by.Goals as goal

pub first_parts-requires-clause-world : goal.first_parts-requires-clause-world
first_parts-requires-clause-world c = on_new (λ s. IsWorld s c.args.world.now) c.args.encoder.now c.later_cells.new.encoder c.in_ok-later.ensures.keeps c.requires.world

pub spans-requires-clause-texts : goal.spans-requires-clause-texts
spans-requires-clause-texts c =
    let a = c.args.encoder.now in
    let b = c.later_cells.new.encoder in
    let e = c.first_parts.new.encoder in
    on_new (λ s. c.args.texts.now ≡ s) a e (keeps_on a b e c.in_ok-later.ensures.keeps c.in_ok-children.ensures.keeps) c.requires.texts

pub spans-requires-clause-world : goal.spans-requires-clause-world
spans-requires-clause-world c =
    let a = c.args.encoder.now in
    let b = c.later_cells.new.encoder in
    let e = c.first_parts.new.encoder in
    on_new (λ s. IsWorld s c.args.world.now) a e (keeps_on a b e c.in_ok-later.ensures.keeps c.in_ok-children.ensures.keeps) c.requires.world

pub spans-requires-clause-later : goal.spans-requires-clause-later
spans-requires-clause-later c =
    let e = c.first_parts.new.encoder in
    subst (λ (zs : List ℕ). AreLaterCells e c.args.read.now c.args.world.now zs) (sym c.as_slice-2.ensures.value)
    (cells_on c.later_cells.new.encoder e c.args.read.now c.args.world.now c.in_ok-later.later.items c.in_ok-children.ensures.keeps c.in_ok-later.ensures.answer)

pub returns-clause-answer : goal.returns-clause-answer
returns-clause-answer c =
    let a = c.args.encoder.now in
    let b = c.later_cells.new.encoder in
    let e = c.first_parts.new.encoder in
    let d = c.spans.new.encoder in
    let read = c.args.read.now in
    let w = c.args.world.now in
    let cs = c.in_ok-children.children in
    column_found a e d read w c.args.others cs c.in_ok-numbers.numbers c.in_ok-children.first c.in_ok-numbers.inside (keeps_on a b e c.in_ok-later.ensures.keeps c.in_ok-children.ensures.keeps)
    c.in_ok-numbers.ensures.keeps c.requires.world c.in_ok-children.ensures.many c.in_ok-numbers.ensures.many
    (children_from a b e read w c.args.others cs c.in_ok-children.first c.in_ok-later.ensures.keeps c.in_ok-children.ensures.answer)
    (c.in_ok-numbers.ensures.answer cs c.in_ok-children.ensures.many)

pub returns-clause-keeps : goal.returns-clause-keeps
returns-clause-keeps c =
    let a = c.args.encoder.now in
    let b = c.later_cells.new.encoder in
    let e = c.first_parts.new.encoder in
    grows_on a e c.spans.new.encoder (keeps_grows a e (keeps_on a b e c.in_ok-later.ensures.keeps c.in_ok-children.ensures.keeps)) c.in_ok-numbers.ensures.keeps

pub returns-in_err-later-clause-keeps : goal.returns-in_err-later-clause-keeps
returns-in_err-later-clause-keeps c = keeps_grows c.args.encoder.now c.later_cells.new.encoder c.in_err-later.ensures.keeps

pub returns-in_err-children-clause-keeps : goal.returns-in_err-children-clause-keeps
returns-in_err-children-clause-keeps c =
    let a = c.args.encoder.now in
    let e = c.first_parts.new.encoder in
    keeps_grows a e (keeps_on a c.later_cells.new.encoder e c.in_ok-later.ensures.keeps c.in_err-children.ensures.keeps)
