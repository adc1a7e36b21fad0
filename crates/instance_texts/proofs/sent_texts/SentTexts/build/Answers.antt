use Rattle.instance_texts.proofs.Sizes.{few_by}
use Rattle.instance_texts.proofs.SentLemmas.{sent_by}
use Rattle.instance_texts.proofs.sent_texts.SentTexts.build.Goals as goal

pub listing-requires : goal.listing-requires
listing-requires c =
    few_by c.args.checked.now c.spec-spec.result.now c.as_slice.result.now c.as_slice-2.result.now c.in_ok-globals.globals c.spec-spec.ensures.same c.spec-spec.ensures.checked
    c.as_slice.ensures c.in_ok-globals.ensures c.as_slice-2.ensures

pub invariant_of-result : goal.invariant_of-result
invariant_of-result c =
    sent_by c.spec-spec.result.now c.in_ok-globals.globals c.as_slice.result.now c.as_slice-2.result.now c.in_ok-sends.sends.items c.deref.result.now c.in_ok-cases.cases.items
    c.in_ok-globals.ensures c.as_slice.ensures c.as_slice-2.ensures c.in_ok-sends.ensures c.deref.ensures.value c.in_ok-cases.ensures
