use Rattle.std.proofs.Common.{◌≡◌, ◌≤◌, ◌+◌, ℕ, List, Option, IfSome, sym, subst, arith}
use Rattle.bdd_core.specs.Diagram.{IsRef}
use Rattle.guard_encode.proofs.BoundLemmas.{grows_on, keeps_grows}
use Rattle.world_columns.specs.declared.column.Column.{Column}
use Rattle.gap_tables.specs.Widening.{IsNextColumn}
use Rattle.gap_tables.proofs.ColumnLists.{ColumnsSoFar, columns_end, columns_none, so_far_more, so_far_none}
use Rattle.gap_tables.proofs.Growing.{grown_new}
use Rattle.gap_tables.proofs.gaps.columns_by.Goals as goal

pub loop-turn-init : goal.loop-turn-init
loop-turn-init c = record {
  keeps = keeps_grows c.args.encoder.now c.decided.new.self c.in_ok-rest.ensures.keeps;
  rest_ref = c.in_ok-rest.ensures.is_ref;
  found = subst (λ (cs : List Column). ColumnsSoFar c.args.encoder.now c.decided.new.self c.args.f c.args.most 0 cs c.in_ok-rest.rest) (sym c.new-columns.ensures)
      (so_far_none c.args.encoder.now c.decided.new.self c.args.f c.args.most c.in_ok-rest.rest c.in_ok-rest.ensures.answer);
}

pub next_column-requires-clause-texts : goal.next_column-requires-clause-texts
next_column-requires-clause-texts c = grown_new (λ s. c.args.texts.now ≡ s) c.args.encoder.now c.loop-turn.encoder c.loop-turn.invariant.keeps c.requires.texts

pub loop-turn-preserved : goal.loop-turn-preserved
loop-turn-preserved c =
    let a = c.args.encoder.now in
    let b = c.loop-turn.encoder in
    let d = c.next_column.new.encoder in
    let before = c.loop-turn.invariant in
    let found = c.in_ok-column.ensures in
    record {
      keeps = grows_on a b d before.keeps found.keeps;
      rest_ref = subst (λ (next : Option (Column × ℕ)). IfSome next (λ x. IsRef d.diagram x.1)) c.in-Some.is found.is_ref;
      found = subst (λ (cs : List Column). ColumnsSoFar a d c.args.f c.args.most (c.loop-turn._turn + 1) cs c.in-Some.left) (sym c.in_ok-push.ensures.ok)
          (so_far_more a b d c.args.f c.args.most c.loop-turn._turn c.loop-turn.columns c.loop-turn.rest c.in-Some.column c.in-Some.left before.keeps before.found
          (λ set all. subst (IsNextColumn b d set) c.in-Some.is (found.answer set all)));
    }

pub returns-in_default-clause-answer : goal.returns-in_default-clause-answer
returns-in_default-clause-answer c =
    let b = c.loop-turn.encoder in
    let d = c.next_column.new.encoder in
    let before = c.loop-turn.invariant in
    let within : c.loop-turn._turn ≤ c.args.most = omega (arith, c.loop-turn-test.true) in
    columns_none c.args.encoder.now b d c.args.f c.args.most c.loop-turn._turn c.loop-turn.columns c.loop-turn.rest before.keeps c.in_ok-column.ensures.keeps within before.found
    (λ set all. subst (IsNextColumn b d set) c.in_default.is (c.in_ok-column.ensures.answer set all))

pub returns-clause-answer : goal.returns-clause-answer
returns-clause-answer c =
    let b = c.loop-turn.encoder in
    let d = c.is_left.new.encoder in
    let before = c.loop-turn.invariant in
    let all : c.loop-turn._turn ≡ c.args.most = omega (arith, c.loop-turn-test.false, c.loop-turn.auto._turn-end) in
    columns_end c.args.encoder.now b d c.args.f c.args.most c.loop-turn._turn c.loop-turn.columns c.loop-turn.rest c.in_ok-more.more before.keeps c.in_ok-more.ensures.keeps all before.found
    c.in_ok-more.ensures.answer

pub returns-in_default-clause-keeps : goal.returns-in_default-clause-keeps
returns-in_default-clause-keeps c = grows_on c.args.encoder.now c.loop-turn.encoder c.next_column.new.encoder c.loop-turn.invariant.keeps c.in_ok-column.ensures.keeps

pub returns-clause-keeps : goal.returns-clause-keeps
returns-clause-keeps c =
    grows_on c.args.encoder.now c.loop-turn.encoder c.is_left.new.encoder c.loop-turn.invariant.keeps (keeps_grows c.loop-turn.encoder c.is_left.new.encoder c.in_ok-more.ensures.keeps)

pub returns-in_err-rest-clause-keeps : goal.returns-in_err-rest-clause-keeps
returns-in_err-rest-clause-keeps c = keeps_grows c.args.encoder.now c.decided.new.self c.in_err-rest.ensures.keeps
