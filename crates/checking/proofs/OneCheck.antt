-- What `check`, `format` and `migrate` answer and write of a text is one thing.
use Rattle.std.proofs.Common.{◌≡◌, sym, ap, ◌∙◌, subst, arith}
use Rattle.rsml_lexer.specs.Laws.{AtMostOneTokenList, AtMostOneFirstFault, NeverBoth}
use Rattle.rsml_meaning.specs.Certified.{Certified}
use Rattle.rsml_meaning.specs.EventLines.{Bytes}
use Rattle.rsml_meaning.specs.Laws.{ReportIsOne}
use Rattle.rsml_parser.specs.Laws.{HasOneAnswer}
use Rattle.rsml_syntax.specs.declared.syntax.Spec.{Spec}
use Rattle.rsml_syntax.specs.grammar.Grammar.{tokens_of}
use Rattle.rsml_syntax.specs.grammar.Layout.{layout}
use Rattle.rsml_syntax.specs.limits.Limits.{Keeps}
use Rattle.judging.specs.Judgements.{IsBroken}
use Rattle.judging.specs.Texts.{IsTextOf}
use Rattle.judging.proofs.OneText.{one_broken, keeps_none, one_report, one_unread, text_not, one_text, short_unread, one_first, first_not, one_text_by_first, short_first}
use Rattle.answering.specs.declared.status.Status.{Status}
use Rattle.answering.specs.declared.status.Status.TheVariants as status
use Rattle.checking.specs.Outputs.{TextFault, SpecificationOutput, CheckOutput, FormatOutput, MigrateOutput}
use Rattle.checking.specs.Outputs as output

-- one status and one text
abbrev pub AreOne : Status → Bytes → Status → Bytes → Type 0
AreOne a xs b ys = (a ≡ b) × (xs ≡ ys)

one_of_specification : ReportIsOne → (s : Spec) (a b : Status) (xs ys : Bytes) → SpecificationOutput s a xs → SpecificationOutput s b ys → AreOne a xs b ys
one_of_specification one s a b xs ys (output.refused r e) (output.refused q f) = (e ∙ sym f, one_report one s xs ys r.report q.report)
one_of_specification one s a b xs ys (output.refused r e) (output.certified q f) = absurd (r.not_certified q.certified)
one_of_specification one s a b xs ys (output.certified r e) (output.refused q f) = absurd (q.not_certified r.certified)
one_of_specification one s a b xs ys (output.certified r e) (output.certified q f) = (e ∙ sym f, one_report one s xs ys r.report q.report)

-- a specification that is certified ends with Done
certified_done : (s : Spec) (a : Status) (xs : Bytes) → Certified s → SpecificationOutput s a xs → a ≡ status.Done
certified_done s a xs certified (output.refused r e) = absurd (r.not_certified certified)
certified_done s a xs certified (output.certified r e) = e

module _ (faults : AtMostOneFirstFault) (lists : AtMostOneTokenList) (never : NeverBoth) (answers : HasOneAnswer) where
  -- the line of a text that is too long, unread or broken is one
  pub one_text_fault : (text : Bytes) (a b : Status) (xs ys : Bytes) → TextFault text a xs → TextFault text b ys → AreOne a xs b ys
  one_text_fault text a b xs ys (output.TextFault.too_long _ e h) (output.TextFault.too_long _ f k) = (e ∙ sym f, h ∙ sym k)
  one_text_fault text a b xs ys (output.TextFault.too_long l e h) (output.TextFault.unread u f) = absurd (omega (arith, l, short_unread faults lists never answers text ys u))
  one_text_fault text a b xs ys (output.TextFault.too_long l e h) (output.broken s t o f) = absurd (omega (arith, l, t.short))
  one_text_fault text a b xs ys (output.TextFault.unread u e) (output.TextFault.too_long l f k) = absurd (omega (arith, l, short_unread faults lists never answers text xs u))
  one_text_fault text a b xs ys (output.TextFault.unread u e) (output.TextFault.unread v f) = (e ∙ sym f, one_unread faults lists never answers text xs ys u v)
  one_text_fault text a b xs ys (output.TextFault.unread u e) (output.broken s t o f) = absurd (text_not faults lists never answers text xs s t u)
  one_text_fault text a b xs ys (output.broken s t o e) (output.TextFault.too_long l f k) = absurd (omega (arith, l, t.short))
  one_text_fault text a b xs ys (output.broken s t o e) (output.TextFault.unread u f) = absurd (text_not faults lists never answers text ys s t u)
  one_text_fault text a b xs ys (output.broken s t o e) (output.broken r u p f) =
      (e ∙ sym f, one_broken s xs ys o (subst (λ (x : Spec). IsBroken x ys) (one_text faults lists never answers text r s u t) p))

  -- a text that reads as a specification that keeps the rules and the limits has none
  pub text_has_no_fault : (text : Bytes) (s : Spec) (a : Status) (xs : Bytes) → IsTextOf text s → Keeps s → TextFault text a xs → ⊥
  text_has_no_fault text s a xs t keeps (output.TextFault.too_long l e h) = omega (arith, l, t.short)
  text_has_no_fault text s a xs t keeps (output.TextFault.unread u e) = text_not faults lists never answers text xs s t u
  text_has_no_fault text s a xs t keeps (output.broken r u o e) =
      keeps_none s xs keeps (subst (λ (x : Spec). IsBroken x xs) (one_text faults lists never answers text r s u t) o)

  pub one_check : ReportIsOne → (text : Bytes) (a b : Status) (xs ys : Bytes) → CheckOutput text a xs → CheckOutput text b ys → AreOne a xs b ys
  one_check one text a b xs ys (output.fault h) (output.fault k) = one_text_fault text a b xs ys h k
  one_check one text a b xs ys (output.fault h) (output.judged s t keeps o) = absurd (text_has_no_fault text s a xs t keeps h)
  one_check one text a b xs ys (output.judged s t keeps o) (output.fault k) = absurd (text_has_no_fault text s b ys t keeps k)
  one_check one text a b xs ys (output.judged s t _ o) (output.judged r u _ p) =
      one_of_specification one s a b xs ys o (subst (λ (x : Spec). SpecificationOutput x b ys) (one_text faults lists never answers text r s u t) p)

  pub one_format : (text : Bytes) (a b : Status) (xs ys : Bytes) → FormatOutput text a xs → FormatOutput text b ys → AreOne a xs b ys
  one_format text a b xs ys (output.FormatOutput.too_long _ e h) (output.FormatOutput.too_long _ f k) = (e ∙ sym f, h ∙ sym k)
  one_format text a b xs ys (output.FormatOutput.too_long l e h) (output.FormatOutput.unread u f) = absurd (omega (arith, l, short_unread faults lists never answers text ys u))
  one_format text a b xs ys (output.FormatOutput.too_long l e h) (output.formatted s t f k) = absurd (omega (arith, l, t.short))
  one_format text a b xs ys (output.FormatOutput.unread u e) (output.FormatOutput.too_long l f k) = absurd (omega (arith, l, short_unread faults lists never answers text xs u))
  one_format text a b xs ys (output.FormatOutput.unread u e) (output.FormatOutput.unread v f) = (e ∙ sym f, one_unread faults lists never answers text xs ys u v)
  one_format text a b xs ys (output.FormatOutput.unread u e) (output.formatted s t f k) = absurd (text_not faults lists never answers text xs s t u)
  one_format text a b xs ys (output.formatted s t e h) (output.FormatOutput.too_long l f k) = absurd (omega (arith, l, t.short))
  one_format text a b xs ys (output.formatted s t e h) (output.FormatOutput.unread u f) = absurd (text_not faults lists never answers text ys s t u)
  one_format text a b xs ys (output.formatted s t e h) (output.formatted r u f k) = (e ∙ sym f, h ∙ ap (λ x. layout (tokens_of x)) (one_text faults lists never answers text s r t u) ∙ sym k)

  pub one_migrate : (text : Bytes) (a b : Status) (xs ys : Bytes) → MigrateOutput text a xs → MigrateOutput text b ys → AreOne a xs b ys
  one_migrate text a b xs ys (output.MigrateOutput.too_long _ e h) (output.MigrateOutput.too_long _ f k) = (e ∙ sym f, h ∙ sym k)
  one_migrate text a b xs ys (output.MigrateOutput.too_long l e h) (output.MigrateOutput.unread u f) = absurd (omega (arith, l, short_first faults lists never answers text ys u))
  one_migrate text a b xs ys (output.MigrateOutput.too_long l e h) (output.migrated s t f k) = absurd (omega (arith, l, t.short))
  one_migrate text a b xs ys (output.MigrateOutput.unread u e) (output.MigrateOutput.too_long l f k) = absurd (omega (arith, l, short_first faults lists never answers text xs u))
  one_migrate text a b xs ys (output.MigrateOutput.unread u e) (output.MigrateOutput.unread v f) = (e ∙ sym f, one_first faults lists never answers text xs ys u v)
  one_migrate text a b xs ys (output.MigrateOutput.unread u e) (output.migrated s t f k) = absurd (first_not faults lists never answers text xs s t u)
  one_migrate text a b xs ys (output.migrated s t e h) (output.MigrateOutput.too_long l f k) = absurd (omega (arith, l, t.short))
  one_migrate text a b xs ys (output.migrated s t e h) (output.MigrateOutput.unread u f) = absurd (first_not faults lists never answers text ys s t u)
  one_migrate text a b xs ys (output.migrated s t e h) (output.migrated r u f k) = (e ∙ sym f, h ∙ ap (λ x. layout (tokens_of x)) (one_text_by_first faults lists never answers text s r t u) ∙ sym k)

  -- `check` of a certified text ends with Done
  pub check_is_done : (text : Bytes) (s : Spec) (a : Status) (xs : Bytes) → IsTextOf text s → Keeps s → Certified s → CheckOutput text a xs → a ≡ status.Done
  check_is_done text s a xs t keeps certified (output.fault h) = absurd (text_has_no_fault text s a xs t keeps h)
  check_is_done text s a xs t keeps certified (output.judged r u _ o) =
      certified_done s a xs certified (subst (λ (x : Spec). SpecificationOutput x a xs) (one_text faults lists never answers text r s u t) o)
