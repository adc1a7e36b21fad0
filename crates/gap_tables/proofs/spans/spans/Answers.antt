use Rattle.std.proofs.Common.{◌≡◌, ◌<◌, ◌+◌, ◌-◌, ◌∙◌, suc, List, length, sym, ap, subst, arith, rules}
use Rattle.std.proofs.lemmas.List.{length_push}
use Rattle.rsml_meaning.specs.Cells.{cells}
use Rattle.rsml_meaning.specs.Worlds.{IsWorld}
use Rattle.guard_encode.proofs.BoundLemmas.{grows_itself, grows_on}
use Rattle.group_verdicts.proofs.Parts.{many_cells}
use Rattle.world_columns.specs.declared.column.Span.{Span}
use Rattle.gap_tables.specs.Widening.{FindsLater, SpansFound}
use Rattle.gap_tables.proofs.ColumnLists.{spans_more, spans_none}
use Rattle.gap_tables.proofs.Growing.{grown_new, grown_ref}
use Rattle.gap_tables.proofs.spans.spans.Goals as goal

pub loop-place-init : goal.loop-place-init
loop-place-init c = record {
  keeps = grows_itself c.args.encoder.now;
  inside_ref = c.requires.first_ref;
  many = search rules;
  found = λ children all. subst (λ (zs : List Span). SpansFound c.args.encoder.now c.args.encoder.now c.args.read.now c.args.world.now c.args.others children c.args.first zs c.args.first) (sym c.new-spans.ensures)
      (spans_none c.args.encoder.now c.args.read.now c.args.world.now c.args.others children c.args.first);
}

pub next_span-requires-clause-texts : goal.next_span-requires-clause-texts
next_span-requires-clause-texts c = grown_new (λ s. c.args.texts.now ≡ s) c.args.encoder.now c.loop-place.encoder c.loop-place.invariant.keeps c.requires.texts

pub next_span-requires-clause-cell : goal.next_span-requires-clause-cell
next_span-requires-clause-cell c =
    let a = c.args.encoder.now in
    let all = many_cells a.machine.base.spec c.args.world.now c.requires.world in
    let here = c.in_ok-cell.ensures in
    let less : c.in_ok-cell.cell < length (cells a.machine.base.spec) = omega (arith, all, here, c.loop-place-test.true, c.len-cells.ensures) in
    grown_new (λ s. c.in_ok-cell.cell < length (cells s)) a c.loop-place.encoder c.loop-place.invariant.keeps less

pub next_span-requires-clause-world : goal.next_span-requires-clause-world
next_span-requires-clause-world c = grown_new (λ s. IsWorld s c.args.world.now) c.args.encoder.now c.loop-place.encoder c.loop-place.invariant.keeps c.requires.world

pub next_span-requires-clause-after_ref : goal.next_span-requires-clause-after_ref
next_span-requires-clause-after_ref c =
    grown_ref c.args.encoder.now c.loop-place.encoder c.later_at-after.result c.loop-place.invariant.keeps (c.requires.later _ c.later_at-after.result c.later_at-after.ensures).finds.is_ref

pub next_span-requires-clause-others_ref : goal.next_span-requires-clause-others_ref
next_span-requires-clause-others_ref c = grown_ref c.args.encoder.now c.loop-place.encoder c.args.others c.loop-place.invariant.keeps c.requires.others_ref

pub loop-place-preserved : goal.loop-place-preserved
loop-place-preserved c =
    let a = c.args.encoder.now in
    let b = c.loop-place.encoder in
    let d = c.next_span.new.encoder in
    let read = c.args.read.now in
    let w = c.args.world.now in
    let before = c.loop-place.invariant in
    let xs = c.loop-place.spans in
    let cell = c.in_ok-cell.cell in
    let here = c.in_ok-cell.ensures in
    let at = c.requires.later _ c.later_at-after.result c.later_at-after.ensures in
    let n : length w.cells - (length w.cells - 1 - c.loop-place.place) ≡ suc cell = omega (arith, here, c.loop-place-test.true, c.len-cells.ensures) in
    let later : FindsLater a read w (length w.choices) (suc cell) c.later_at-after.result = subst (λ m. FindsLater a read w (length w.choices) m c.later_at-after.result) n
    (subst (λ m. FindsLater a read w (length w.choices) (length w.cells - (m - 1 - c.loop-place.place)) c.later_at-after.result) c.len-cells.ensures at) in
    record {
      keeps = grows_on a b d before.keeps c.in_ok-span.ensures.keeps;
      inside_ref = c.in_ok-span.ensures.is_ref;
      many = ap length c.in_ok-push.ensures.ok ∙ length_push xs c.in_ok-span.span ∙ ap (λ k. k + 1) before.many;
      found = λ children all. subst (λ (zs : List Span). SpansFound a d read w c.args.others children c.args.first zs c.in_ok-span.narrowed) (sym c.in_ok-push.ensures.ok)
          (spans_more a b d read w c.args.others children xs cell c.later_at-after.result c.args.first c.loop-place.inside c.in_ok-span.span c.in_ok-span.narrowed before.keeps all (before.many ∙ sym here)
          (subst (λ m. FindsLater a read w m (suc cell) c.later_at-after.result) (sym all) later) (before.found children all) c.in_ok-span.ensures.answer);
    }
