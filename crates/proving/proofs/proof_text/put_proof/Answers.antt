use Rattle.std.proofs.Common.{◌≡◌, [], ◌++◌, Option, Some, slice_get, sym, ap, ◌∙◌, codes, subst, List, ℕ}
use Rattle.std.specs.Option.{option_map_or}
use Rattle.claim_syntax.specs.declared.claim.Claim.{Claim}
use Rattle.invariants.specs.declared.proof.Proof.{Proof}
use Rattle.rsml_meaning.specs.Texts.{text_line}
use Rattle.state_tree.proofs.Lists.{get_item}
use Rattle.text_writer.proofs.WritingLemmas.{followed, alike}
use Rattle.proving.specs.Fitting.{FitsProof}
use Rattle.proving.specs.Numbers.{break_text, proof_text}
use Rattle.proving.specs.ProveText.{initial_line, breaks_line, refused_line}
use Rattle.proving.proofs.proof_text.put_proof.Goals as goal

pub returns-in-Initial : goal.returns-in-Initial
returns-in-Initial g c =
    let s = c.args.machine.now.base.spec in
    let cs = c.args.claims.now in
    let x : Claim = c.index-claims-claim.result in
    let fits = subst (λ (p : Proof). FitsProof s cs p) c.in-Initial.is c.requires.proof in
    let there : slice_get cs c.in-Initial.claim ≡ Some x = get_item cs c.in-Initial.claim x fits c.index-claims-claim.is in
    alike (ap (λ (o : Option Claim). option_map_or initial_line o [] ++ refused_line) (sym there) ∙ ap (proof_text s cs) (sym c.in-Initial.is))
    (followed (alike (ap (λ (n : List ℕ). text_line (codes "initial " ++ n)) (c.bytes.ensures ∙ ap (λ (y : Claim). y.name) (sym c.index-claims-claim.is))) c.put_named.ensures) c.put-in-Initial.ensures)

pub returns-in-Breaks : goal.returns-in-Breaks
returns-in-Breaks g c =
    let s = c.args.machine.now.base.spec in
    let cs = c.args.claims.now in
    let b = c.in-Breaks.least in
    let x : Claim = c.index-claims-least.result in
    let fits = subst (λ (p : Proof). FitsProof s cs p) c.in-Breaks.is c.requires.proof in
    let there : slice_get cs b.claim ≡ Some x = get_item cs b.claim x fits.claim c.index-claims-least.is in
    alike (ap (λ (o : Option Claim). option_map_or breaks_line o [] ++ (break_text s b ++ refused_line)) (sym there) ∙ ap (proof_text s cs) (sym c.in-Breaks.is))
    (followed (alike (ap (λ (n : List ℕ). text_line (codes "breaks " ++ n)) (c.bytes-in-Breaks.ensures ∙ ap (λ (y : Claim). y.name) (sym c.index-claims-least.is))) c.put_named-in-Breaks.ensures)
    (followed c.put_break.ensures c.put-in-Breaks.ensures))
