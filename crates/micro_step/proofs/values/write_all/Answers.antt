use Rattle.std.proofs.Common.{◌<◌, get_or, length, map, refl, arith}
use Rattle.std.proofs.lemmas.List.{length-map, map-set}
use Rattle.micro_step.proofs.LoopLemmas.{each_at, as_many, list_at, room_kept, cases_more}
use Rattle.micro_step.proofs.values.write_all.Goals as goal

pub index_mut-requires : goal.index_mut-requires
index_mut-requires c =
    let m = c.args.machine.now in
    let k = get_or c.args.sent.now c.loop-case.case-index 0 in
    let below : k < length m.send_cases = each_at (λ k. k < length m.send_cases) c.args.sent.now c.loop-case.case-index k c.requires.sent c.loop-case-test.true refl in
    let many = as_many m (map (λ v. v.items) c.loop-case.values.items) c.loop-case.invariant.room in
    let long = length-map c.loop-case.values.items (λ v. v.items) in
    omega (arith, below, many, long)

pub write_case-requires-clause-room : goal.write_case-requires-clause-room
write_case-requires-clause-room c = λ x at.
    let m = c.args.machine.now in
    let k = get_or c.args.sent.now c.loop-case.case-index 0 in
    let below : k < length m.send_cases = each_at (λ k. k < length m.send_cases) c.args.sent.now c.loop-case.case-index k c.requires.sent c.loop-case-test.true refl in
    let many = as_many m (map (λ v. v.items) c.loop-case.values.items) c.loop-case.invariant.room in
    let long = length-map c.loop-case.values.items (λ v. v.items) in
    let l : k < length c.loop-case.values.items = omega (arith, below, many, long) in
    list_at m (λ v. v.items) c.loop-case.values.items k x c.index_mut.result.now l c.loop-case.invariant.room at c.index_mut.ensures.value

pub loop-case-preserved : goal.loop-case-preserved
loop-case-preserved c =
    let m = c.args.machine.now in
    let w = c.args.world.now in
    let k = get_or c.args.sent.now c.loop-case.case-index 0 in
    let lists = map (λ v. v.items) c.loop-case.values.items in
    let new = map-set (λ v. v.items) c.loop-case.values.items k c.write_case.new.numbers in
    record {
      knows = c.write_case.ensures.knows;
      room = room_kept m w k lists _ c.write_case.new.numbers.items c.loop-case.invariant.room c.write_case.ensures.numbers new;
      numbers = cases_more m w c.args.sent.now c.loop-case.case-index k lists _ c.write_case.new.numbers.items c.loop-case-test.true refl c.loop-case.invariant.room c.write_case.ensures.numbers new c.loop-case.invariant.numbers;
    }
