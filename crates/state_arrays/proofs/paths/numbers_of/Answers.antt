use Rattle.std.proofs.Common.{take, sym, ap, ◌∙◌, add-one, arith}
use Rattle.rsml_meaning.specs.Words.{at}
use Rattle.indexmap.specs.IndexMap.{get}
use Rattle.state_arrays.specs.Children.{child_place}
use Rattle.state_arrays.specs.contracts.child.ChildPartialEq.TheImpl as child_eq
use Rattle.state_arrays.proofs.NumberLemmas.{numbered_turn, last_there, has_path}
use Rattle.state_arrays.proofs.paths.numbers_of.Goals as goal
use Rattle.state_arrays.proofs.paths.numbers_of.Goals.{in-Some+in_ok-insert, in_default}

pub loop-node-preserved : goal.loop-node-preserved
loop-node-preserved c = λ q. elim c.match-child_at.branch [
  | in-Some+in_ok-insert w ↦
      let there = has_path c.args.nodes.now c.loop-node.node (let l = c.loop-node-test.true in let e = c.len-node-end.ensures in omega (arith, l, e)) in
      ap (λ m. get (child_eq.ghosts).eq m q) w.numbers-is
      ∙ w.in_ok-insert.ensures.updates.0 q
      ∙ numbered_turn c.args.nodes.now c.requires c.loop-node.node there.0 w.in-Some.child q _ there.1 w.in-Some.ensures (c.loop-node.invariant q)
      ∙ ap (λ n. child_place c.args.nodes.now (take n c.args.nodes.now) q.parent (at q.name.now q.index)) (sym (add-one c.loop-node.node))
  | in_default w ↦
      let there = has_path c.args.nodes.now c.loop-node.node (let l = c.loop-node-test.true in let e = c.len-node-end.ensures in omega (arith, l, e)) in
      absurd (last_there c.args.nodes.now c.requires c.loop-node.node there.0 there.1 w.in_default.ensures)
]
