use Rattle.state_tree.proofs.Sized.{all_fit}
use Rattle.state_tree.proofs.nodes.Nodes.new.Goals as goal

pub with-requires-clause-room : goal.with-requires-clause-room
with-requires-clause-room c =
    rw (c.deref.ensures.value, c.in_ok-top.ensures, c.in_ok-globals.ensures, c.as_slice.ensures, c.spec-spec.ensures.same, c.new-2.ensures.items)
    (all_fit c.args.checked.now c.spec-spec.ensures.checked)
