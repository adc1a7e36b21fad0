use Rattle.proving.proofs.ClaimLemmas.{other_judged, broken_judged, kept_judged}
use Rattle.proving.proofs.keeping.claims_kept.Goals as goal

pub returns-in-Some : goal.returns-in-Some
returns-in-Some c = λ s bytes t are.
    other_judged s bytes c.args.claims.items c.as_slice.result.now c.in_ok-line.field-0 c.as_slice.ensures.value c.in_ok-line.ensures are c.in-Some.line c.unfit.result
    c.in-Some.is c.unfit.ensures

pub returns-in-Some-2 : goal.returns-in-Some-2
returns-in-Some-2 c = λ s bytes t are.
    broken_judged s bytes c.args.claims.items c.as_slice.result.now c.in_ok-line.field-0 c.as_slice.ensures.value c.in_ok-line.ensures are c.in_default.is c.in_ok-line-2.field-0
    (c.in_ok-line-2.ensures s t) c.in-Some-2.line c.unfit-in-Some-2.result c.in-Some-2.is c.unfit-in-Some-2.ensures

pub returns : goal.returns
returns c = λ s bytes t are.
    kept_judged s bytes c.args.claims.items c.as_slice.result.now c.in_ok-line.field-0 c.as_slice.ensures.value c.in_ok-line.ensures are c.in_default.is c.in_ok-line-2.field-0
    (c.in_ok-line-2.ensures s t) c.in_ok-claims.claims c.in_default-2.is (c.in_ok-claims.ensures c.args.claims.items c.requires.claims)
