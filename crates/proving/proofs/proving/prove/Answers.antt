use Rattle.judging.proofs.ShortLemmas.{short_text}
use Rattle.proving.proofs.ProveLemmas.{unfit_is, kept_is, kept_checked, fault_output, kept_output}
use Rattle.proving.proofs.proving.prove.Goals as goal

pub kept_claims-requires : goal.kept_claims-requires
kept_claims-requires c = c.requires.short

pub judged_claims-requires-clause-short : goal.judged_claims-requires-clause-short
judged_claims-requires-clause-short c = short_text _ _ c.requires

pub judged_claims-requires-clause-claims : goal.judged_claims-requires-clause-claims
judged_claims-requires-clause-claims c =
    kept_checked c.args.text.now c.args.claims.now c.args.checked.now c.in-Kept.claims _ c.as_slice-in-Kept.ensures.value c.requires
    (kept_is _ _ _ _ c.in-Kept.is (c.in_ok-status.ensures c.args.checked.now c.requires))

pub returns-in-Unfit : goal.returns-in-Unfit
returns-in-Unfit c =
    fault_output _ _ _ _ _ (unfit_is _ _ _ _ _ c.in-Unfit.is (c.in_ok-status.ensures c.args.checked.now c.requires)) _ c.as_slice.ensures.value c.unfit.ensures

pub returns-in-Kept : goal.returns-in-Kept
returns-in-Kept c =
    kept_output _ _ _ _ _ (kept_is _ _ _ _ c.in-Kept.is (c.in_ok-status.ensures c.args.checked.now c.requires)) c.as_slice-in-Kept.ensures.value c.judged_claims.ensures
