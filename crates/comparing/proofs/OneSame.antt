-- What `same` answers and writes of a second text is one thing, and what it promises where it ends with `Done`.
use Rattle.std.proofs.Common.{◌≡◌, ℕ, zero, suc, true, false, List, [], ◌∷◌, Some, zip, slice_get, refl, sym, ap, ◌∙◌, subst, true≢false}
use Rattle.std.specs.List.{AllZip}
use Rattle.std.proofs.lemmas.Option.{same_Some}
use Rattle.rsml_lexer.specs.Laws.{AtMostOneTokenList, AtMostOneFirstFault, NeverBoth}
use Rattle.rsml_parser.specs.Laws.{HasOneAnswer}
use Rattle.rsml_syntax.specs.declared.syntax.Spec.{Spec}
use Rattle.rsml_syntax.specs.declared.world.World.{World}
use Rattle.rsml_meaning.specs.EventLines.{Bytes}
use Rattle.rsml_meaning.specs.Laws.{ReportIsOne}
use Rattle.rsml_meaning.specs.Worlds.{IsWorld}
use Rattle.equal_frames.specs.Differences.{Difference, IsDifference, NoDifference, all_members, differ}
use Rattle.equal_frames.specs.Laws.{DifferenceIsOne, EqualGuardsTraceAlike}
use Rattle.judging.proofs.OneText.{one_report, one_text}
use Rattle.answering.specs.declared.status.Status.{Status}
use Rattle.answering.specs.declared.status.Status.TheVariants as status
use Rattle.checking.proofs.HeadlineLemmas.{fault_is}
use Rattle.checking.proofs.OneCheck.{AreOne, one_text_fault, text_has_no_fault}
use Rattle.comparing.specs.DifferenceText.{difference_text}
use Rattle.comparing.specs.Laws.{ReadsAsAlike, SameIsAlike, SameIsOne}
use Rattle.comparing.specs.Outputs.{PairOutput, of_first, of_second}
use Rattle.comparing.specs.Outputs as output

-- what holds of two lists place by place holds of each pair
zip_at : {A B : Type 0} (R : A → B → Type 0) (xs : List A) (ys : List B) → AllZip R xs ys → (k : ℕ) (p : A × B) → slice_get (zip xs ys) k ≡ Some p → R p.0 p.1
zip_at R [] ys h k p e = absurd (let no : ⊥ = cc in no)
zip_at R (x ∷ xs) [] h k p e = elim h [ ]
zip_at {A} {B} R (x ∷ xs) (y ∷ ys) h zero p e = subst (λ (q : A × B). R q.0 q.1) (same_Some (x, y) p e) h.0
zip_at R (x ∷ xs) (y ∷ ys) h (suc k) p e = zip_at R xs ys h.1 k p e

-- where no member differs there is no first difference
no_first : (s t : Spec) (d : Difference) → NoDifference s t → IsDifference s t d → ⊥
no_first s t d none first =
    let never = zip_at (λ m n. (w : World) → IsWorld s w → differ s t (m, n) w ≡ false) (all_members s) (all_members t) none first.place (d.member, first.other) first.here in
    true≢false (sym first.least.such.1 ∙ never d.world first.least.such.0)

module _ (report : ReportIsOne) (difference : DifferenceIsOne) where
  one_pair : (s t : Spec) (a b : Status) (xs ys : Bytes) → PairOutput s t a xs → PairOutput s t b ys → AreOne a xs b ys
  one_pair s t a b xs ys (output.unlike _ e h) (output.unlike _ f k) = (e ∙ sym f, h ∙ sym k)
  one_pair s t a b xs ys (output.unlike n _ _) (output.uncertified _ frame _ _ _) = absurd (n frame)
  one_pair s t a b xs ys (output.unlike n _ _) (output.different _ frame _ _ _ _) = absurd (n frame)
  one_pair s t a b xs ys (output.unlike n _ _) (output.same frame _ _ _ _) = absurd (n frame)
  one_pair s t a b xs ys (output.uncertified _ frame _ _ _) (output.unlike n _ _) = absurd (n frame)
  one_pair s t a b xs ys (output.uncertified us _ r e h) (output.uncertified vs _ q f k) =
      (e ∙ sym f, h ∙ ap of_first (one_report report s us vs r.report q.report) ∙ sym k)
  one_pair s t a b xs ys (output.uncertified _ _ r _ _) (output.different _ _ c _ _ _) = absurd (r.not_certified c)
  one_pair s t a b xs ys (output.uncertified _ _ r _ _) (output.same _ c _ _ _) = absurd (r.not_certified c)
  one_pair s t a b xs ys (output.different _ frame _ _ _ _) (output.unlike n _ _) = absurd (n frame)
  one_pair s t a b xs ys (output.different _ _ c _ _ _) (output.uncertified _ _ r _ _) = absurd (r.not_certified c)
  one_pair s t a b xs ys (output.different d _ _ i e h) (output.different g _ _ j f k) =
      (e ∙ sym f, h ∙ ap (difference_text s) (difference s t d g i j) ∙ sym k)
  one_pair s t a b xs ys (output.different d _ _ i _ _) (output.same _ _ n _ _) = absurd (no_first s t d n i)
  one_pair s t a b xs ys (output.same frame _ _ _ _) (output.unlike n _ _) = absurd (n frame)
  one_pair s t a b xs ys (output.same _ c _ _ _) (output.uncertified _ _ r _ _) = absurd (r.not_certified c)
  one_pair s t a b xs ys (output.same _ _ n _ _) (output.different d _ _ i _ _) = absurd (no_first s t d n i)
  one_pair s t a b xs ys (output.same _ _ _ e h) (output.same _ _ _ f k) = (e ∙ sym f, h ∙ sym k)

  module _ (faults : AtMostOneFirstFault) (lists : AtMostOneTokenList) (never : NeverBoth) (answers : HasOneAnswer) where
    pub one_same : SameIsOne
    one_same s other a b xs ys (output.unfit us h e) (output.unfit vs k f) =
        let same = one_text_fault faults lists never answers other a b us vs h k in (same.0, e ∙ ap of_second same.1 ∙ sym f)
    one_same s other a b xs ys (output.unfit us h e) (output.compared t is keeps k) = absurd (text_has_no_fault faults lists never answers other t a us is keeps h)
    one_same s other a b xs ys (output.compared t is keeps h) (output.unfit vs k f) = absurd (text_has_no_fault faults lists never answers other t b vs is keeps k)
    one_same s other a b xs ys (output.compared t is _ h) (output.compared r at _ k) =
        one_pair s t a b xs ys h (subst (λ (x : Spec). PairOutput s x b ys) (one_text faults lists never answers other r t at is) k)

-- where it ends with `Done`
pub same_alike : EqualGuardsTraceAlike → SameIsAlike
same_alike law s other bytes one (output.unfit line f _) = absurd ((fault_is other status.Done line f).0 refl)
same_alike law s other bytes one (output.compared t is keeps h) = by h
  where
    by : PairOutput s t status.Done bytes → ReadsAsAlike s other
    by (output.unlike _ e _) = absurd (cc e)
    by (output.uncertified _ _ _ e _) = absurd (cc e)
    by (output.different _ _ _ _ e _) = absurd (cc e)
    by (output.same frame certified none _ _) =
        let both = law s t one (record { well_formed = is.reads.2.well_formed; keeps = keeps }) frame certified none in
        record { second = t; is_text = is; one = certified; two = both.0; traced = both.1 }
