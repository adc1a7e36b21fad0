use Rattle.std.proofs.Common.{flat_map, take}
use Rattle.text_writer.specs.Writes.{Writes}
use Rattle.proving.specs.ProveText.{claim_line}
use Rattle.proving.proofs.proof_text.put_claims.Given as goal

abbrev pub invariant-loop-claim : goal.invariant-loop-claim
invariant-loop-claim g l = Writes (g.W.Writer.state l.fn.writer) (g.W.Writer.text l.fn.writer) (flat_map claim_line (take l.claim-index l.claims)) (g.W.Writer.state l.writer) (g.W.Writer.text l.writer)
