use Rattle.std.proofs.Common.{◌<◌, ℕ, List, length, slice_index_or, ap, ◌∙◌, arith}
use Rattle.ground_groups.specs.declared.group.Member.TheVariants as members
use Rattle.micro_step.specs.Rows.{bits_of, member_rows}
use Rattle.simulator.specs.Simulation.{Simulation}
use Rattle.coverage.proofs.LoopLemmas.{turn_ready, turn_done}
use Rattle.coverage.proofs.rounds.count_taken.Goals as goal

pub add-requires-clause-table : goal.add-requires-clause-table
add-requires-clause-table c =
    let m = c.args.simulator.now in
    let inv = c.loop-place.invariant in
    let seen = c.taken.ensures ∙ ap (λ (s : Simulation). s.last.taken) inv.0 in
    let many = ap (λ (ns : List ℕ). length ns) c.taken-count.ensures in
    let l : c.loop-place.place < length m.last.taken = let test = c.loop-place-test.true in omega (arith, test, many) in
    (turn_ready m.last.taken c.taken.result.now c.loop-place.place (λ k. bits_of (member_rows m.spec m.last.world (members.Transition k))) c.args.counters.now c.loop-place.counters
    c.index-counters-number.result c.requires.rising c.requires.there seen l inv.1 c.index-counters-number.is c.requires.ready).whole

pub add-requires-clause-room : goal.add-requires-clause-room
add-requires-clause-room c =
    let m = c.args.simulator.now in
    let inv = c.loop-place.invariant in
    let seen = c.taken.ensures ∙ ap (λ (s : Simulation). s.last.taken) inv.0 in
    let many = ap (λ (ns : List ℕ). length ns) c.taken-count.ensures in
    let l : c.loop-place.place < length m.last.taken = let test = c.loop-place-test.true in omega (arith, test, many) in
    (turn_ready m.last.taken c.taken.result.now c.loop-place.place (λ k. bits_of (member_rows m.spec m.last.world (members.Transition k))) c.args.counters.now c.loop-place.counters
    c.index-counters-number.result c.requires.rising c.requires.there seen l inv.1 c.index-counters-number.is c.requires.ready).room

pub loop-place-preserved : goal.loop-place-preserved
loop-place-preserved c =
    let m = c.args.simulator.now in
    let inv = c.loop-place.invariant in
    let seen = c.taken.ensures ∙ ap (λ (s : Simulation). s.last.taken) inv.0 in
    let many = ap (λ (ns : List ℕ). length ns) c.taken-count.ensures in
    let l : c.loop-place.place < length m.last.taken = let test = c.loop-place-test.true in omega (arith, test, many) in
    let bits = c.rows-bits.ensures.rows ∙ ap (λ (s : Simulation). bits_of (member_rows s.spec s.last.world (members.Transition (slice_index_or c.taken.result.now c.loop-place.place 0)))) inv.0 in (
      c.rows-bits.ensures.unchanged ∙ inv.0,
      turn_done m.last.taken c.taken.result.now c.loop-place.place (λ k. bits_of (member_rows m.spec m.last.world (members.Transition k))) c.args.counters.now c.loop-place.counters
          c.index-counters-number.result c.requires.rising c.requires.there seen l inv.1 c.index-counters-number.is c.rows-bits.result c.add.new.self bits c.add.ensures,
    )
