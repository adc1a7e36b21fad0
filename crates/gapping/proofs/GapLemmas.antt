-- What `gaps` comes to on a text, by what its steps answered.
use Rattle.std.proofs.Common.{◌≡◌, ℕ, Bool, true, false, List, [], ◌∷◌, Vec, Result, Ok, Err, if◌then◌else◌, ◌==◌, refl, sym, subst}
use Rattle.std.specs.Prelude.{IfOk}
use Rattle.std.specs.List.{AllZip}
use Rattle.std.specs.declared.alloc.Global.{Global}
use Rattle.rsml_base.specs.declared.no_memory.NoMemory.{NoMemory}
use Rattle.rsml_syntax.specs.declared.syntax.Spec.{Spec}
use Rattle.rsml_syntax.specs.declared.world.World.{World}
use Rattle.rsml_meaning.specs.EventLines.{Bytes}
use Rattle.rsml_meaning.specs.Groups.{Group}
use Rattle.world_columns.specs.declared.column.Gaps.{Gaps}
use Rattle.world_columns.specs.declared.group.GroupGaps.{GroupGaps}
use Rattle.world_columns.specs.declared.group.GroupGaps.TheVariants as told
use Rattle.world_columns.specs.Gaps.{AreGaps}
use Rattle.world_columns.specs.GapsOf.{AreGroupGaps}
use Rattle.world_columns.specs.Laws.{ColumnsLieInTheSet, ColumnsAreDisjoint, MoreIsExact}
use Rattle.gap_texts.specs.GapText.{unsound}
use Rattle.judging.specs.Judgements.{IsKept}
use Rattle.judging.specs.Texts.{IsTextOf}
use Rattle.judging.specs.declared.kept_text.Kept.{Kept}
use Rattle.judging.specs.declared.kept_text.Kept.TheVariants as kept
use Rattle.answering.specs.Outcomes.{IsOfTexts, answer_of, bytes_of}
use Rattle.answering.specs.Writing.{IsOfText}
use Rattle.answering.specs.declared.outcome.Outcome.{Outcome}
use Rattle.answering.specs.declared.outcome.Outcome.TheVariants as outcome
use Rattle.answering.specs.declared.status.Status.{Status}
use Rattle.answering.specs.declared.status.Status.TheVariants as status
use Rattle.answering.proofs.OutcomeLemmas.{done_of_text, refused_of_text}
use Rattle.checking.specs.Outputs.{TextFault}
use Rattle.checking.specs.Outputs as checks
use Rattle.checking.proofs.CheckLemmas.{fault_answers}
use Rattle.checking.proofs.HeadlineLemmas.{fault_is}
use Rattle.gapping.specs.Outputs.{AreExact, IsTold, TellsGaps, GapsOutput, fault_of, status_of, tabulated}
use Rattle.gapping.specs.Outputs as output

-- What is told of groups, by the laws of columns.
module _ (inside : ColumnsLieInTheSet) (disjoint : ColumnsAreDisjoint) (exact : MoreIsExact) where
  are_exact : (s : Spec) (set : World → Bool) (most : ℕ) (x : Gaps) → AreGaps s set most x.columns x.more → AreExact s set most x
  are_exact s set most x h = record {
    gaps = h;
    inside = inside s set most x.columns x.more h;
    disjoint = disjoint s set most x.columns x.more h;
    more_exact = exact s set most x.columns x.more h;
  }

  is_told : (s : Spec) (most : ℕ) (g : Group) (x : GroupGaps) → AreGroupGaps s most g x → IsTold s most g x
  is_told s most g told.Sound h = h
  is_told s most g (told.Missing x) h = (h.0, are_exact s _ most x h.1)
  is_told s most g (told.Double x) h = (h.0, h.1, are_exact s _ most x h.2)

  pub all_told : (s : Spec) (most : ℕ) (gs : List Group) (xs : List GroupGaps) → AllZip (AreGroupGaps s most) gs xs → AllZip (IsTold s most) gs xs
  all_told s most [] [] h = h
  all_told s most [] (x ∷ xs) h = absurd h
  all_told s most (g ∷ gs) [] h = absurd h
  all_told s most (g ∷ gs) (x ∷ xs) h = (is_told s most g x h.0, all_told s most gs xs h.1)

-- By what the text is.

pub checked_is : (text : Bytes) (k : Kept) (s : Spec) → k ≡ kept.Checked s → IsKept text k → IsKept text (kept.Checked s)
checked_is text k s e h = subst (IsKept text) e h

pub long_output : (most : ℕ) (text : Bytes) (k : Kept) → k ≡ kept.TooLong → IsKept text k → GapsOutput most text (answer_of outcome.Long) (bytes_of outcome.Long)
long_output most text k e h = let is : IsKept text kept.TooLong = subst (IsKept text) e h in output.fault (checks.TextFault.too_long is refl refl)

pub unread_output : (most : ℕ) (text : Bytes) (k : Kept) (line : Vec ℕ Global) (o : Outcome) → k ≡ kept.Unread line → o ≡ fault_of line → IsKept text k
    → GapsOutput most text (answer_of o) (bytes_of o)
unread_output most text k line o e f h =
    let is : IsKept text (kept.Unread line) = subst (IsKept text) e h in
    subst (λ (x : Outcome). GapsOutput most text (answer_of x) (bytes_of x)) (sym f) (output.fault (checks.TextFault.unread is refl))

pub broken_output : (most : ℕ) (text : Bytes) (k : Kept) (line : Vec ℕ Global) (o : Outcome) → k ≡ kept.Broken line → o ≡ fault_of line → IsKept text k
    → GapsOutput most text (answer_of o) (bytes_of o)
broken_output most text k line o e f h =
    let is : IsKept text (kept.Broken line) = subst (IsKept text) e h in
    subst (λ (x : Outcome). GapsOutput most text (answer_of x) (bytes_of x)) (sym f) (output.fault (checks.broken is.0 is.1 is.2 refl))

pub told_output : (most : ℕ) (text : Bytes) (s : Spec) (r : Result Outcome NoMemory) → IsKept text (kept.Checked s)
    → IfOk r (λ o. TellsGaps s most (answer_of o) (bytes_of o)) → IfOk r (λ o. GapsOutput most text (answer_of o) (bytes_of o))
told_output most text s (Ok o) is h = tabulated s is.0 is.1 h
told_output most text s (Err x) is h = h

-- It answers and writes what may be answered and written of texts.

pub told_status : (gs : List GroupGaps) (P : Status → Type 0) → P status.Done → P status.Refused → P (status_of gs)
told_status gs P done refused = by (unsound gs == 0)
  where
    by : (b : Bool) → P (if b then status.Done else status.Refused)
    by true = done
    by false = refused

told_answers : (s : Spec) (most : ℕ) (answer : Status) (bytes : Bytes) → TellsGaps s most answer bytes → IsOfText answer
told_answers s most answer bytes h =
    subst IsOfText (sym h.ends) (told_status h.answers IsOfText (done_of_text status.Done refl) (refused_of_text status.Refused refl))

gaps_answers : (most : ℕ) (text : Bytes) (answer : Status) (bytes : Bytes) → GapsOutput most text answer bytes → IsOfText answer
gaps_answers most text answer bytes (output.fault f) = fault_answers text answer bytes f
gaps_answers most text answer bytes (tabulated s t keeps h) = told_answers s most answer bytes h

pub gaps_texts : (most : ℕ) → IsOfTexts (GapsOutput most)
gaps_texts most = record { answers = gaps_answers most; long = λ text l. output.fault (checks.TextFault.too_long l refl refl) }

-- Where it ends with Done or with Refused, the text reads as a specification, and what is told of its groups was written.

pub done_output : (most : ℕ) (text : Bytes) (answer : Status) (bytes : Bytes) → answer ≡ status.Done → GapsOutput most text answer bytes
    → (s : Spec) × IsTextOf text s × TellsGaps s most answer bytes
done_output most text answer bytes e (output.fault f) = absurd ((fault_is text answer bytes f).0 e)
done_output most text answer bytes e (tabulated s t _ h) = (s, t, h)

pub refused_output : (most : ℕ) (text : Bytes) (answer : Status) (bytes : Bytes) → answer ≡ status.Refused → GapsOutput most text answer bytes
    → (s : Spec) × IsTextOf text s × TellsGaps s most answer bytes
refused_output most text answer bytes e (output.fault f) = absurd ((fault_is text answer bytes f).1 e)
refused_output most text answer bytes e (tabulated s t _ h) = (s, t, h)
