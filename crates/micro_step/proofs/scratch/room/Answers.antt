use Rattle.std.proofs.Common.{◌≡◌, ap, length, ◌∙◌, map, arith}
use Rattle.std.proofs.lemmas.List.{map_push}
use Rattle.micro_step.specs.Numbers.{values_of}
use Rattle.micro_step.proofs.LoopLemmas.{room_more}
use Rattle.micro_step.proofs.scratch.room.Goals as goal

pub loop-case-preserved : goal.loop-case-preserved
loop-case-preserved c =
    let v = c.in_ok-from_elem.field-0 in
    let ok = v.ok.0 in
    let long : length v.items ≡ c.count-many.result = omega (arith, c.in_ok-from_elem.ensures.len, ok) in
    room_more c.args.machine.now.send_cases c.loop-case.case c.send_case.result.now (map (λ v. v.items) c.loop-case.values.items) _ v.items c.send_case.ensures
    (long ∙ c.count-many.ensures ∙ ap (λ a. length (values_of a)) c.answer.ensures) c.loop-case.invariant
    (ap (map (λ v. v.items)) c.in_ok-push.ensures.items ∙ map_push (λ v. v.items) c.loop-case.values.items v)
