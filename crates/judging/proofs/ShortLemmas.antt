-- Specifications that are short enough to be worked out over numbers.
use Rattle.std.proofs.Common.{◌≡◌, ℕ, ◌≤◌, List, Vec, length, sym, ap, subst, arith}
use Rattle.std.proofs.lemmas.List.{length-map}
use Rattle.std.specs.declared.alloc.Global.{Global}
use Rattle.finding_texts.specs.declared.verdict.Verdict.{Verdict}
use Rattle.rsml_ground.specs.Grounded.{IsShort}
use Rattle.rsml_meaning.specs.EventLines.{Bytes}
use Rattle.rsml_syntax.specs.declared.edition.Edition.TheVariants as edition
use Rattle.rsml_syntax.specs.declared.syntax.Spec.{Spec}
use Rattle.rsml_syntax.specs.declared.token.Placed.{Placed}
use Rattle.rsml_syntax.specs.grammar.Places.{IsTokensOf}
use Rattle.rsml_syntax.specs.text.Lexing.{bare}
use Rattle.rsml_syntax.proofs.ScanLemmas.{lexes_tokens}
use Rattle.judging.specs.Judgements.{IsJudgement}
use Rattle.judging.specs.Texts.{IsTextOf}
use Rattle.judging.specs.declared.judging.Judgement.{Judgement}
use Rattle.judging.specs.declared.judging.Judgement.TheVariants as judgement

-- a specification of few tokens is short
pub short_tokens : (ts : List Placed) (s : Spec) → length ts ≤ 1048576 → IsTokensOf (bare ts) s → IsShort s
short_tokens ts s few t =
    let same = ap length t.tokens in
    let many = length-map ts (λ (p : Placed). p.token) in
    omega (arith, few, same, many)

-- a text of which a specification is read is short
pub short_text : (text : Bytes) (s : Spec) → IsTextOf text s → IsShort s
short_text text s t =
    let few = (lexes_tokens edition.Second text t.reads.0 t.reads.1).1 in
    let same = ap length t.reads.2.tokens in
    let long = length-map t.reads.0 (λ (p : Placed). p.token) in
    let short = t.short in
    omega (arith, few, same, long, short)

-- so is one that is judged to be a refused or a certified specification
pub refused_is_short : (text : Bytes) (j : Judgement) (report : Vec ℕ Global) (checked : Spec) (verdicts : Vec Verdict Global)
    → j ≡ judgement.Refused report checked verdicts → IsJudgement text j → IsShort checked
refused_is_short text j report checked verdicts e h =
    let is : IsJudgement text (judgement.Refused report checked verdicts) = subst (IsJudgement text) e h in
    subst (λ (s : Spec). IsShort s) (sym is.2.0) (short_text text is.0 is.1)

pub certified_is_short : (text : Bytes) (j : Judgement) (report : Vec ℕ Global) (checked : Spec) → j ≡ judgement.Certified report checked
    → IsJudgement text j → IsShort checked
certified_is_short text j report checked e h =
    let is : IsJudgement text (judgement.Certified report checked) = subst (IsJudgement text) e h in
    subst (λ (s : Spec). IsShort s) (sym is.2.0) (short_text text is.0 is.1)
