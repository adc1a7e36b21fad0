use Rattle.std.proofs.Common.{ℕ, List, ◌++◌, codes, ap}
use Rattle.rsml_meaning.specs.Texts.{text_line}
use Rattle.text_writer.proofs.WritingLemmas.{one_more, alike}
use Rattle.proving.specs.ProveText.{claim_line}
use Rattle.proving.proofs.proof_text.put_claims.Goals as goal

pub loop-claim-preserved : goal.loop-claim-preserved
loop-claim-preserved g c =
    one_more claim_line c.args.claims.now c.loop-claim.claim-index c.claim-item.result c.loop-claim-test.true c.claim-item.is c.loop-claim.invariant
    (alike (ap (λ (n : List ℕ). text_line (codes "claim " ++ n)) c.bytes.ensures) c.put_named.ensures)
