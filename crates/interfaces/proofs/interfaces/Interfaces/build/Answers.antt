use Rattle.interfaces.proofs.BuildLemmas.{all_few, all_scoped, are_interfaces}
use Rattle.interfaces.proofs.interfaces.Interfaces.build.Goals as goal

pub new-requires-2-clause-few : goal.new-requires-2-clause-few
new-requires-2-clause-few c = all_few c.spec-spec.result.now c.args.checked.now c.args.names.now _ _ c.spec-spec.ensures.same c.as_slice-decls.ensures c.in_ok-globals.ensures c.requires.same c.spec-spec.ensures.checked

pub new-requires-2-clause-scoped : goal.new-requires-2-clause-scoped
new-requires-2-clause-scoped c = all_scoped c.spec-spec.result.now c.args.checked.now c.args.names.now _ _ c.spec-spec.ensures.same c.as_slice-decls.ensures c.in_ok-globals.ensures c.requires.same c.spec-spec.ensures.checked c.requires.short

pub invariant_of-result : goal.invariant_of-result
invariant_of-result c =
    are_interfaces c.spec-spec.result.now c.args.checked.now c.args.names.now _ _ c.spec-spec.ensures.same c.as_slice-decls.ensures c.in_ok-globals.ensures c.requires.same _ _ _ c.spec-spec.ensures.checked c.requires.short c.in_ok-names.ensures
    c.in_ok-table.ensures
