use Rattle.std.proofs.Common.{◌≡◌, ◌≤◌, false, length, get_or, sym, ◌∙◌, ap, subst, arith, below_more}
use Rattle.std.proofs.lemmas.Result.{IfOk-weaker}
use Rattle.bdd_core.specs.Diagram.{meaning}
use Rattle.bdd_core.specs.Calls.{with_value}
use Rattle.bdd_core.proofs.StepLemmas.{keeps_trans}
use Rattle.free_levels.specs.Values.{is_in, IsForgotten, IgnoresAll}
use Rattle.free_levels.specs.Keys.{Keys, AreKeys, AreExact, IsCell}
use Rattle.free_levels.specs.Stages.{is_left, IsStage}
use Rattle.free_levels.proofs.ForgetLemmas.{forget-gone}
use Rattle.free_levels.proofs.TurnLemmas.{widen-none, fewer-trans, key-turn, sweep-ends}
use Rattle.free_levels.proofs.stages.sweep.Goals as goal

pub returns-then-is_false-clause-stage : goal.returns-then-is_false-clause-stage
returns-then-is_false-clause-stage c = λ all are ex is.
    widen-none all (is_in c.args.cell.now.levels.items) c.args.left.now.items c.make_key_exact.new.left.items
    (meaning c.args.arena.now c.args.f) (meaning c.make_key_exact.new.arena c.in_ok-out.out)
    (key-turn c.args.arena.now c.loop-place.arena c.make_key_exact.new.arena c.args.keys.now c.args.left.now.items c.loop-place.left.items c.make_key_exact.new.left.items
    c.args.f c.loop-place.out c.in_ok-out.out c.loop-place.invariant.keeps c.loop-place.invariant.stage c.in_ok-out.ensures.stage all are ex)

pub loop-place-preserved : goal.loop-place-preserved
loop-place-preserved c = record {
  keeps = keeps_trans c.args.arena.now c.loop-place.arena c.make_key_exact.new.arena c.loop-place.invariant.keeps c.make_key_exact.ensures.keeps;
  is_ref = c.in_ok-out.ensures.is_ref;
  named = c.loop-place.invariant.named;
  fewer = fewer-trans c.args.left.now.items c.loop-place.left.items c.make_key_exact.new.left.items c.loop-place.invariant.fewer c.make_key_exact.ensures.left;
  stage = key-turn c.args.arena.now c.loop-place.arena c.make_key_exact.new.arena c.args.keys.now c.args.left.now.items c.loop-place.left.items c.make_key_exact.new.left.items
      c.args.f c.loop-place.out c.in_ok-out.out c.loop-place.invariant.keeps c.loop-place.invariant.stage c.in_ok-out.ensures.stage;
  done = below_more (λ k. is_left c.make_key_exact.new.left.items (get_or c.args.cell.now.keys.items k 0) ≡ false) c.loop-place.place-index
      (λ k h. c.make_key_exact.ensures.left.stays (get_or c.args.cell.now.keys.items k 0) (c.loop-place.invariant.done k h))
      (subst (λ places. is_left c.make_key_exact.new.left.items (get_or places c.loop-place.place-index 0) ≡ false) c.loop-place.invariant.named c.make_key_exact.ensures.done);
}

pub returns-clause-stage : goal.returns-clause-stage
returns-clause-stage c =
    let over : length c.args.cell.now.keys.items ≤ c.loop-place.place-index = omega (arith, c.loop-place-test.false, ap length c.loop-place.invariant.named) in
    IfOk-weaker c.forget.result
    (IsForgotten c.loop-place.arena c.forget.new.arena c.loop-place.out c.deref.result.now)
    (λ r. (all : Keys) → AreKeys all → AreExact c.args.arena.now all c.args.keys.now → IsCell all c.args.cell.now
    → IsStage all (is_in c.args.cell.now.levels.items) c.args.left.now.items c.loop-place.left.items (meaning c.args.arena.now c.args.f) (meaning c.forget.new.arena r))
    (λ r h. sweep-ends c.args.arena.now c.loop-place.arena c.forget.new.arena c.args.keys.now c.args.cell.now c.deref.result.now c.args.left.now.items c.loop-place.left.items
    c.args.f c.loop-place.out r c.deref.ensures.value (λ k less. c.loop-place.invariant.done k (omega (arith, less, over))) c.loop-place.invariant.stage h)
    c.forget.ensures.answer

pub returns-then-is_false-clause-gone : goal.returns-then-is_false-clause-gone
returns-then-is_false-clause-gone c = λ level there v b. c.is_false.ensures.0 c.if-is_false.true (with_value v level b) ∙ sym (c.is_false.ensures.0 c.if-is_false.true v)

pub returns-clause-gone : goal.returns-clause-gone
returns-clause-gone c = IfOk-weaker c.forget.result (IsForgotten c.loop-place.arena c.forget.new.arena c.loop-place.out c.deref.result.now)
    (λ r. IgnoresAll (meaning c.forget.new.arena r) c.args.cell.now.levels.items)
    (λ r h. forget-gone c.loop-place.arena c.forget.new.arena c.loop-place.out r c.deref.result.now c.args.cell.now.levels.items c.deref.ensures.value h)
    c.forget.ensures.answer
