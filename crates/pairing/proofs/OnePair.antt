-- What a command on two files answers and writes of their texts is one thing, but for comment lines.
use Rattle.std.proofs.Common.{sym, ap, ◌∙◌, subst}
use Rattle.rsml_lexer.specs.Laws.{AtMostOneTokenList, AtMostOneFirstFault, NeverBoth}
use Rattle.rsml_meaning.specs.EventLines.{Bytes}
use Rattle.rsml_parser.specs.Laws.{HasOneAnswer}
use Rattle.rsml_syntax.specs.declared.syntax.Spec.{Spec}
use Rattle.rsml_syntax.specs.limits.Checked.{IsChecked}
use Rattle.judging.proofs.OneText.{one_text}
use Rattle.answering.specs.declared.status.Status.{Status}
use Rattle.checking.proofs.OneCheck.{AreOne, one_text_fault, text_has_no_fault}
use Rattle.comparing.specs.Laws.{SameIsOne}
use Rattle.comparing.specs.Outputs.{of_first}
use Rattle.proving.specs.Laws.{ProveIsOne}
use Rattle.pairing.specs.Kept.{IsKeptText}
use Rattle.pairing.specs.Outputs.{BareOutput, FirstFault, SecondOutput, looked_at}
use Rattle.pairing.specs.Outputs as output
use Rattle.pairing.specs.declared.pair_action.PairAction.{PairAction}
use Rattle.pairing.specs.declared.pair_action.PairAction.TheVariants as action

-- a specification of a text that is kept is checked
pub kept_checked : (text : Bytes) (s : Spec) → IsKeptText text s → IsChecked s
kept_checked text s is = record { well_formed = is.reads.reads.2.well_formed; keeps = is.keeps }

module _ (faults : AtMostOneFirstFault) (lists : AtMostOneTokenList) (never : NeverBoth) (answers : HasOneAnswer) (proofs : ProveIsOne) (comparisons : SameIsOne) where
  one_second : (does : PairAction) (s : Spec) (other : Bytes) (a b : Status) (xs ys : Bytes) → IsChecked s → SecondOutput does s other a xs
      → SecondOutput does s other b ys → AreOne a xs b ys
  one_second action.Prove s other a b xs ys is o p = proofs s other a b xs ys is.keeps o p
  one_second action.ExplainProve s other a b xs ys is o p = proofs s other a b xs ys is.keeps o p
  one_second action.Same s other a b xs ys is o p = comparisons s other a b xs ys o p
  one_second action.ExplainSame s other a b xs ys is o p = comparisons s other a b xs ys o p

  one_fault : (text : Bytes) (a b : Status) (xs ys : Bytes) → FirstFault text a xs → FirstFault text b ys → AreOne a xs b ys
  one_fault text a b xs ys f g =
      let same = one_text_fault faults lists never answers text a b f.line g.line f.fault g.fault in
      (same.0, f.split ∙ ap of_first same.1 ∙ sym g.split)

  no_fault : (text : Bytes) (s : Spec) (a : Status) (xs : Bytes) → IsKeptText text s → FirstFault text a xs → ⊥
  no_fault text s a xs is f = text_has_no_fault faults lists never answers text s a f.line is.reads is.keeps f.fault

  pub one_pair : (does : PairAction) (text other : Bytes) (a b : Status) (xs ys : Bytes) → BareOutput does text other a xs → BareOutput does text other b ys
      → AreOne a xs b ys
  one_pair does text other a b xs ys (output.BareOutput.fault f) (output.BareOutput.fault g) = one_fault text a b xs ys f g
  one_pair does text other a b xs ys (output.BareOutput.fault f) (looked_at s is o) = absurd (no_fault text s a xs is f)
  one_pair does text other a b xs ys (looked_at s is o) (output.BareOutput.fault g) = absurd (no_fault text s b ys is g)
  one_pair does text other a b xs ys (looked_at s is o) (looked_at t at p) =
      one_second does s other a b xs ys (kept_checked text s is) o
      (subst (λ (x : Spec). SecondOutput does x other b ys) (one_text faults lists never answers text t s at.reads is.reads) p)
