use Rattle.std.proofs.Common.{◌≡◌, ◌≤◌, length, sym, ◌∙◌, true, arith}
use Rattle.std.specs.Prelude.{nat_le}
use Rattle.std.proofs.lemmas.Bool.Decides.{nat_tests}
use Rattle.rsml_meaning.specs.Instances.{states}
use Rattle.macros.proofs.NoState.{no_state}
use Rattle.macros.proofs.activity.is_active.Goals as goal

pub returns-then-node-nodes : goal.returns-then-node-nodes
returns-then-node-nodes c =
    let past : length (states c.args.tree.now) ≤ c.args.node = omega (arith, c.nodes.ensures) in
    let passed : nat_le c.nodes.result c.args.node ≡ true = grind (arith, nat_tests) in
    passed ∙ sym (no_state c.args.tree.now c.args.world.now c.args.node past)
