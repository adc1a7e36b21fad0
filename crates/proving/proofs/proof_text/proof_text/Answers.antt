use Rattle.std.proofs.Common.{◌≡◌, ◌++◌, codes, flat_map}
use Rattle.rsml_meaning.specs.Texts.{text_line}
use Rattle.text_writer.proofs.WritingLemmas.{followed, alike}
use Rattle.proving.proofs.TextLemmas.{finished}
use Rattle.proving.specs.Numbers.{proof_text}
use Rattle.proving.specs.ProveText.{claim_line}
use Rattle.proving.proofs.proof_text.proof_text.Goals as goal

pub returns : goal.returns
returns c =
    let s = c.args.machine.now.base.spec in
    let name : c.name.result.now ≡ s.name = c.name.ensures in
    finished (λ v. v.items) c.finish.result c.new-draft.result c.put_proof.new.writer _ c.new-draft.ensures
    (alike (λ i. (text_line (codes "prove " ++ name i) ++ flat_map claim_line c.args.claims.now) ++ proof_text s c.args.claims.now c.args.proof.now)
    (followed (followed c.put_named.ensures c.put_claims.ensures) c.put_proof.ensures))
    c.finish.ensures.ok c.finish.ensures.text
