-- What a specification is judged to be, by what the analysis and the rules answered.
use Rattle.std.proofs.Common.{◌≡◌, ◌≢◌, ℕ, true, false, List, Some, None, Result, Ok, Err, Vec, ◌++◌, sym, subst, refl, arith}
use Rattle.std.specs.Prelude.{IfOk, IsTrue, ◌↔◌, Bool, codes, decimal}
use Rattle.std.specs.declared.alloc.Global.{Global}
use Rattle.analysis.specs.Verdicts.{AreVerdicts}
use Rattle.finding_texts.specs.declared.verdict.Verdict.{Verdict}
use Rattle.rsml_meaning.specs.RunLaws.{CertifiedIsDeterministic, LastLineIsVerdict}
use Rattle.rsml_base.specs.declared.no_memory.NoMemory.{NoMemory}
use Rattle.rsml_meaning.specs.Certified.{Certified}
use Rattle.rsml_meaning.specs.Report.{IsReport, refusals}
use Rattle.rsml_rules.specs.declared.error.RuleError.{RuleError}
use Rattle.rsml_rules.specs.declared.error.RuleError.TheVariants as errors
use Rattle.rsml_syntax.specs.declared.syntax.Spec.{Spec}
use Rattle.rsml_syntax.specs.limits.Limits.{Keeps, over}
use Rattle.rsml_syntax.specs.rules.Rules.{broken_rule}
use Rattle.rsml_meaning.specs.EventLines.{Bytes}
use Rattle.judging.specs.Headline.{IsRightReport, IsCertificate, IsRefusal, EndsInLine}
use Rattle.judging.specs.Judgements.{IsBroken, IsKept, IsJudged, IsJudgement}
use Rattle.judging.specs.Judgements as judged
use Rattle.judging.specs.Steps.{IsRuleLine, rule, limit}
use Rattle.judging.specs.Texts.{IsTextOf}
use Rattle.judging.specs.declared.judging.Judgement.{Judgement}
use Rattle.judging.specs.declared.judging.Judgement.TheVariants as judgement
use Rattle.judging.specs.declared.kept_text.Kept.{Kept}
use Rattle.judging.specs.declared.kept_text.Kept.TheVariants as kept
use Rattle.judging.proofs.LastLines.{ends_certified, ends_refused}

right_report : (s : Spec) (bytes : Bytes) → IsReport s bytes → IsRightReport s bytes
right_report s bytes r = record { answers = r.0; right = r.1; text = r.2 }

-- a certificate, from the report on a specification that is certified
pub certificate : CertifiedIsDeterministic → LastLineIsVerdict → (s : Spec) (bytes : Bytes) → Keeps s → Certified s → IsReport s bytes → IsCertificate s bytes
certificate one last s bytes keeps certified r = record {
  certified = certified;
  deterministic = one s keeps.rules certified;
  report = right_report s bytes r;
  last_line = subst (λ (b : Bytes). EndsInLine b (codes "certified")) (sym r.2) (ends_certified s r.0 ((last s r.0 keeps.rules r.1).1 certified));
}

-- a refusal, from the report on a specification that is not
pub refusal : LastLineIsVerdict → (s : Spec) (bytes : Bytes) → Keeps s → (Certified s → ⊥) → IsReport s bytes → IsRefusal s bytes
refusal last s bytes keeps unfit r =
    let some : refusals s r.0 ≢ 0 = λ e. unfit ((last s r.0 keeps.rules r.1).0 e) in
    record {
      not_certified = unfit;
      report = right_report s bytes r;
      count = refusals s r.0;
      some = omega (arith, some);
      last_line = subst (λ (b : Bytes). EndsInLine b (codes "refused " ++ decimal (refusals s r.0))) (sym r.2) (ends_refused s r.0 some);
    }

-- the line of a broken rule or limit
pub broken : (s : Spec) (error : RuleError) (line : Bytes)
    → ((number : ℕ) (name : List ℕ) → error ≡ errors.Rule number name → broken_rule s ≡ Some (record { rule = number; shown = name }))
    → ((number count : ℕ) → error ≡ errors.Limit number count → (broken_rule s ≡ None) × (over s ≡ Some (number, count)))
    → IsRuleLine error line → IsBroken s line
broken s error line rules limits (rule number name e is) = judged.IsBroken.rule _ (rules number name e) is
broken s error line rules limits (limit number count e is) = judged.IsBroken.limit _ (limits number count e).0 (limits number count e).1 is

-- what a text is, by what it reads as and what keeping the rules and the limits came to
pub read_kept : (text : Bytes) (s : Spec) (checked : Spec) → checked ≡ s → Keeps s → IsTextOf text s → IsTextOf text checked × Keeps checked
read_kept text s checked e keeps t = (subst (IsTextOf text) (sym e) t, subst (λ (x : Spec). Keeps x) (sym e) keeps)

pub checked_is : (text : Bytes) (k : Kept) (s : Spec) → k ≡ kept.Checked s → IsKept text k → IsTextOf text s × Keeps s
checked_is text k s e h = subst (IsKept text) e h

pub unread_is : (text : Bytes) (k : Kept) (line : Vec ℕ Global) → k ≡ kept.Unread line → IsKept text k → IsJudgement text (judgement.Unread line)
unread_is text k line e h = subst (IsKept text) e h

pub broken_is : (text : Bytes) (k : Kept) (line : Vec ℕ Global) → k ≡ kept.Broken line → IsKept text k → IsJudgement text (judgement.Broken line)
broken_is text k line e h = subst (IsKept text) e h

-- the judgement of the specification that a text reads as is that of the text
pub judgement_of : (text : Bytes) (s : Spec) (j : Judgement) → IsTextOf text s → IsJudged s j → IsJudgement text j
judgement_of text s judgement.TooLong t h = elim h [ ]
judgement_of text s (judgement.Unread line) t h = elim h [ ]
judgement_of text s (judgement.Broken line) t h = (s, t, h)
judgement_of text s (judgement.Refused report checked verdicts) t h = (s, t, h)
judgement_of text s (judgement.Certified report checked) t h = (s, t, h)

pub judgements_of : (text : Bytes) (s : Spec) (r : Result Judgement NoMemory) → IsTextOf text s → IfOk r (IsJudged s) → IfOk r (IsJudgement text)
judgements_of text s (Ok j) t h = judgement_of text s j t h
judgements_of text s (Err x) t h = h

-- what a specification that is analysed is judged to be, by its report
module _ (s : Spec) (keeps : Keeps s) (told : Vec ℕ Global) (certified : Bool)
    (report : IsReport s told.items) (is : IsTrue certified ↔ Certified s) where
  pub certified_judged : CertifiedIsDeterministic → LastLineIsVerdict → certified ≡ true → (j : Judgement)
      → j ≡ judgement.Certified told s → IsJudged s j
  certified_judged one last e j f =
      let c = certificate one last s told.items keeps (is.0 e) report in
      subst (λ (x : Judgement). IsJudged s x) (sym f) (refl, keeps, c)

  pub refused_judged : LastLineIsVerdict → certified ≡ false → (verdicts : Vec Verdict Global) → AreVerdicts s verdicts.items → (j : Judgement)
      → j ≡ judgement.Refused told s verdicts → IsJudged s j
  refused_judged last e verdicts are j f =
      let r = refusal last s told.items keeps (λ c. absurd (cc (e, is.1 c))) report in
      subst (λ (x : Judgement). IsJudged s x) (sym f) (refl, keeps, r, are)
