use Rattle.std.proofs.Common.{◌≡◌, ◌+◌, ◌*◌, not, drop, take}
use Rattle.std.specs.List.{All, find}
use Rattle.and_or_tables.specs.Ground.{known}
use Rattle.rsml_ground.specs.Truths.{case_values, truths_in}
use Rattle.macros.specs.Known.{IsKnown, Knows, StillKnown}
use Rattle.macros.specs.Sought.{is_sought}
use Rattle.macros.proofs.Asking.{settled}
use Rattle.macros.proofs.macros.Macros.+ask.Given as goal

abbrev pub decreases-ask_within : goal.decreases-ask_within
decreases-ask_within l = 5 * l.depth + 1

abbrev pub decreases-ask_phrase : goal.decreases-ask_phrase
decreases-ask_phrase l = 5 * l.depth

abbrev pub decreases-ask_settled : goal.decreases-ask_settled
decreases-ask_settled l = 5 * l.depth + 2

abbrev pub decreases-ask_macro : goal.decreases-ask_macro
decreases-ask_macro l = 5 * l.depth + 4

abbrev pub decreases-ask_function : goal.decreases-ask_function
decreases-ask_function l = 5 * l.depth + 4

abbrev pub decreases-ask_guard_within : goal.decreases-ask_guard_within
decreases-ask_guard_within l = 5 * l.depth + 3

abbrev pub decreases-ask_each : goal.decreases-ask_each
decreases-ask_each l = 5 * l.depth + 2

abbrev pub invariant-ask_settled-loop-number : goal.invariant-ask_settled-loop-number
invariant-ask_settled-loop-number l = record {
  knows : Knows l.self l.world l.memo;
  kept : StillKnown l.fn.memo l.memo;
  none : settled l.settles (known (truths_in l.self l.world)) (take l.number-index l.numbers) ≡ not l.settles;
}

-- no case before this place has a true guard and a value that is sought
abbrev pub invariant-ask_function-loop-place : goal.invariant-ask_function-loop-place
invariant-ask_function-loop-place l = record {
  knows : Knows l.self l.world l.memo;
  kept : StillKnown l.fn.memo l.memo;
  rest : find (is_sought l.sought) (case_values l.world.cells (truths_in l.self l.world) (drop l.place l.cases))
      ≡ find (is_sought l.sought) (case_values l.world.cells (truths_in l.self l.world) l.cases);
}

abbrev pub invariant-ask_each-loop-number : goal.invariant-ask_each-loop-number
invariant-ask_each-loop-number l = record {
  knows : Knows l.self l.world l.memo;
  kept : StillKnown l.fn.memo l.memo;
  learned : All (IsKnown l.memo) (take l.number-index l.numbers);
}
