use Rattle.std.proofs.Common.{refl}
use Rattle.instance_texts.proofs.Sizes.{few_by}
use Rattle.instance_texts.proofs.texts.Texts.build.Goals as goal

pub listing-requires : goal.listing-requires
listing-requires c =
    few_by c.args.checked.now c.spec-spec.result.now c.as_slice.result.now c.as_slice-2.result.now c.in_ok-globals.globals c.spec-spec.ensures.same c.spec-spec.ensures.checked
    c.as_slice.ensures c.in_ok-globals.ensures c.as_slice-2.ensures

pub cells-requires-clause-few : goal.cells-requires-clause-few
cells-requires-clause-few c =
    few_by c.args.checked.now c.spec-spec.result.now c.as_slice.result.now c.spec-spec.result.now.decls c.in_ok-globals.globals c.spec-spec.ensures.same c.spec-spec.ensures.checked
    c.as_slice.ensures c.in_ok-globals.ensures refl

pub new-requires-2 : goal.new-requires-2
new-requires-2 c =
    few_by c.args.checked.now c.spec-spec.result.now c.as_slice.result.now c.as_slice-3.result.now c.in_ok-globals.globals c.spec-spec.ensures.same c.spec-spec.ensures.checked
    c.as_slice.ensures c.in_ok-globals.ensures c.as_slice-3.ensures
