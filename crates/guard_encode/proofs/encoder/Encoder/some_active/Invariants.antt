use Rattle.std.proofs.Common.{take}
use Rattle.std.specs.List.{list_any}
use Rattle.rsml_ground.specs.Truths.{is_active}
use Rattle.guard_encode.specs.Encoding.{Keeps, Tells}
use Rattle.guard_encode.proofs.encoder.Encoder.some_active.Given as goal

-- where one of the states so far is active
abbrev pub invariant-loop-node : goal.invariant-loop-node
invariant-loop-node l = record {
  keeps : Keeps l.fn.self l.self;
  told : Tells l.self (λ w. list_any (is_active l.fn.self.machine.base.spec w) (take l.node-index l.nodes)) l.out;
}
