use Rattle.std.proofs.Common.{◌≡◌, ◌+◌, ◌-◌, ◌<◌, length, get_or, ap, sym, ◌∙◌, subst, arith}
use Rattle.std.proofs.lemmas.List.{get_or_default}
use Rattle.spelled_numbers.specs.declared.slot.Slot.TheVariants.{Free}
use Rattle.spelled_numbers.specs.Spelling.{weight_for}
use Rattle.spelled_numbers.proofs.DigitLemmas.{Reached, start, turn, total_more, within, last}
use Rattle.spelled_numbers.proofs.digits.digit.Goals as goal

pub loop-place-init : goal.loop-place-init
loop-place-init c = record {
  later = c.total_of-later.ensures;
  reached = λ numbers free e. start c.args.part c.args.slots.now c.args.level c.args.number numbers free e;
}

pub overflow_sub-later : goal.overflow_sub-later
overflow_sub-later c =
    let less : c.loop-place.place < length c.args.slots.now = omega (arith, c.loop-place-test.true, within c.args.slots.now c.args.level c.args.part c.requires.own.0 c.requires.own.1) in
    let is : c.weight_of-weight.result ≡ weight_for c.args.part (get_or c.args.slots.now c.loop-place.place Free) =
    c.weight_of-weight.ensures ∙ ap (weight_for c.args.part) (get_or_default c.args.slots.now c.loop-place.place _ Free less) in
    omega (arith, c.loop-place.invariant.later, total_more c.args.part c.args.slots.now c.loop-place.place less, is)

pub loop-place-preserved : goal.loop-place-preserved
loop-place-preserved c =
    let less : c.loop-place.place < length c.args.slots.now = omega (arith, c.loop-place-test.true, within c.args.slots.now c.args.level c.args.part c.requires.own.0 c.requires.own.1) in
    let is : c.weight_of-weight.result ≡ weight_for c.args.part (get_or c.args.slots.now c.loop-place.place Free) =
    c.weight_of-weight.ensures ∙ ap (weight_for c.args.part) (get_or_default c.args.slots.now c.loop-place.place _ Free less) in
    record {
      later = omega (arith, c.loop-place.invariant.later, total_more c.args.part c.args.slots.now c.loop-place.place less, is);
      reached = λ numbers free e. subst (λ n. Reached c.args.part c.args.slots.now c.args.level (c.loop-place.place + 1) n numbers free) (sym c.rest_of-left.ensures)
          (turn c.args.part c.args.slots.now c.args.level c.loop-place.place c.loop-place.left c.weight_of-weight.result (c.loop-place.later - c.weight_of-weight.result) numbers free
          (omega (arith, c.loop-place-test.true)) less is
          (omega (arith, c.loop-place.invariant.later, total_more c.args.part c.args.slots.now c.loop-place.place less, is))
          (c.loop-place.invariant.reached numbers free e));
    }

pub returns : goal.returns
returns c = λ numbers free e.
    let at : c.loop-place.place ≡ c.args.level = omega (arith, c.loop-place-test.false) in
    let less : c.args.level < length c.args.slots.now = within c.args.slots.now c.args.level c.args.part c.requires.own.0 c.requires.own.1 in
    let is : c.weight_of-own.result ≡ weight_for c.args.part (get_or c.args.slots.now c.args.level Free) =
    c.weight_of-own.ensures ∙ ap (weight_for c.args.part) (get_or_default c.args.slots.now c.args.level _ Free less) in
    last c.args.part c.args.slots.now c.args.level c.loop-place.place c.loop-place.left c.loop-place.later c.requires.own.0 c.weight_of-own.result numbers free
    at c.requires.own.1 is c.loop-place.invariant.later (c.loop-place.invariant.reached numbers free e)
