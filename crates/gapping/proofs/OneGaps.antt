-- What `gaps` answers and writes of a text is one thing.
use Rattle.std.proofs.Common.{◌≡◌, ℕ, Bool, true, List, [], ◌∷◌, ◌==◌, refl, sym, ap, ◌∙◌, subst, true≢false, arith}
use Rattle.std.specs.Prelude.{nat_lt}
use Rattle.std.specs.Cmp.{first_so, second_so}
use Rattle.std.specs.List.{AllZip}
use Rattle.std.proofs.lemmas.Bool.Decides.{nat_tests}
use Rattle.rsml_lexer.specs.Laws.{AtMostOneTokenList, AtMostOneFirstFault, NeverBoth}
use Rattle.rsml_parser.specs.Laws.{HasOneAnswer}
use Rattle.rsml_syntax.specs.declared.syntax.Spec.{Spec}
use Rattle.rsml_syntax.specs.declared.world.World.{World}
use Rattle.rsml_meaning.specs.EventLines.{Bytes}
use Rattle.rsml_meaning.specs.Truth.{view}
use Rattle.rsml_meaning.specs.Groups.{Group, Sound, groups, meets, enabled_count}
use Rattle.world_columns.specs.declared.column.Gaps.{Gaps}
use Rattle.world_columns.specs.declared.group.GroupGaps.{GroupGaps}
use Rattle.world_columns.specs.declared.group.GroupGaps.TheVariants as told
use Rattle.world_columns.specs.Failing.{enables_none, enables_two}
use Rattle.world_columns.specs.GapsOf.{SomeWorld}
use Rattle.world_columns.specs.Laws.{GapsAreOne}
use Rattle.judging.proofs.OneText.{one_text}
use Rattle.answering.specs.declared.status.Status.{Status}
use Rattle.checking.proofs.OneCheck.{AreOne, one_text_fault, text_has_no_fault}
use Rattle.gap_texts.specs.GapText.{gaps_text}
use Rattle.gapping.specs.Outputs.{AreExact, IsTold, TellsGaps, GapsOutput, status_of, tabulated}
use Rattle.gapping.specs.Outputs as output

-- A sound group fails in no world.

not_none : (n : ℕ) → n ≡ 1 → (n == 0) ≡ true → ⊥
not_none n e h = let none : n ≡ 0 = grind (arith, nat_tests, h) in omega (arith, e, none)

not_two : (n : ℕ) → n ≡ 1 → nat_lt 1 n ≡ true → ⊥
not_two n e h = let two : nat_lt 1 1 ≡ true = subst (λ (m : ℕ). nat_lt 1 m ≡ true) e h in true≢false (sym two)

sound_not_none : (s : Spec) (g : Group) → Sound s g → SomeWorld s (enables_none s g) → ⊥
sound_not_none s g sound some =
    let w = some.0 in
    let met = first_so (meets s (view s w) g) (enabled_count s g (view s w) == 0) some.2 in
    not_none (enabled_count s g (view s w)) (sound w some.1 met) (second_so (meets s (view s w) g) (enabled_count s g (view s w) == 0) some.2)

sound_not_two : (s : Spec) (g : Group) → Sound s g → SomeWorld s (enables_two s g) → ⊥
sound_not_two s g sound some =
    let w = some.0 in
    let met = first_so (meets s (view s w) g) (nat_lt 1 (enabled_count s g (view s w))) some.2 in
    not_two (enabled_count s g (view s w)) (sound w some.1 met) (second_so (meets s (view s w) g) (nat_lt 1 (enabled_count s g (view s w))) some.2)

module _ (one : GapsAreOne) where
  one_exact : (s : Spec) (set : World → Bool) (most : ℕ) (x y : Gaps) → AreExact s set most x → AreExact s set most y → x ≡ y
  one_exact s set most x y h k =
      let same = one s set most x.columns y.columns x.more y.more h.gaps k.gaps in
      λ i. record { columns = same.0 i; more = same.1 i }

  -- what is told of a group is one thing
  one_told : (s : Spec) (most : ℕ) (g : Group) (x y : GroupGaps) → IsTold s most g x → IsTold s most g y → x ≡ y
  one_told s most g told.Sound told.Sound h k = refl
  one_told s most g told.Sound (told.Missing y) h k = absurd (sound_not_none s g h k.0)
  one_told s most g told.Sound (told.Double y) h k = absurd (sound_not_two s g h k.1)
  one_told s most g (told.Missing x) told.Sound h k = absurd (sound_not_none s g k h.0)
  one_told s most g (told.Missing x) (told.Missing y) h k = ap (λ (z : Gaps). told.Missing z) (one_exact s (enables_none s g) most x y h.1 k.1)
  one_told s most g (told.Missing x) (told.Double y) h k = absurd (k.0 h.0.0 h.0.1 h.0.2)
  one_told s most g (told.Double x) told.Sound h k = absurd (sound_not_two s g k h.1)
  one_told s most g (told.Double x) (told.Missing y) h k = absurd (h.0 k.0.0 k.0.1 k.0.2)
  one_told s most g (told.Double x) (told.Double y) h k = ap (λ (z : Gaps). told.Double z) (one_exact s (enables_two s g) most x y h.2 k.2)

  all_one : (s : Spec) (most : ℕ) (gs : List Group) (xs ys : List GroupGaps) → AllZip (IsTold s most) gs xs → AllZip (IsTold s most) gs ys → xs ≡ ys
  all_one s most [] [] [] h k = refl
  all_one s most [] [] (y ∷ ys) h k = absurd k
  all_one s most [] (x ∷ xs) ys h k = absurd h
  all_one s most (g ∷ gs) [] ys h k = absurd h
  all_one s most (g ∷ gs) (x ∷ xs) [] h k = absurd k
  all_one s most (g ∷ gs) (x ∷ xs) (y ∷ ys) h k =
      let here = one_told s most g x y h.0 k.0 in
      let rest = all_one s most gs xs ys h.1 k.1 in
      λ i. here i ∷ rest i

  told_one : (s : Spec) (most : ℕ) (a b : Status) (xs ys : Bytes) → TellsGaps s most a xs → TellsGaps s most b ys → AreOne a xs b ys
  told_one s most a b xs ys h k =
      let same = all_one s most (groups s) h.answers k.answers h.right k.right in
      (h.ends ∙ ap status_of same ∙ sym k.ends, h.text ∙ ap (gaps_text s) same ∙ sym k.text)

  module _ (faults : AtMostOneFirstFault) (lists : AtMostOneTokenList) (never : NeverBoth) (answers : HasOneAnswer) where
    pub one_gaps : (most : ℕ) (text : Bytes) (a b : Status) (xs ys : Bytes) → GapsOutput most text a xs → GapsOutput most text b ys → AreOne a xs b ys
    one_gaps most text a b xs ys (output.fault h) (output.fault k) = one_text_fault faults lists never answers text a b xs ys h k
    one_gaps most text a b xs ys (output.fault h) (tabulated s t keeps k) = absurd (text_has_no_fault faults lists never answers text s a xs t keeps h)
    one_gaps most text a b xs ys (tabulated s t keeps h) (output.fault k) = absurd (text_has_no_fault faults lists never answers text s b ys t keeps k)
    one_gaps most text a b xs ys (tabulated s t _ h) (tabulated r u _ k) =
        told_one s most a b xs ys h (subst (λ (x : Spec). TellsGaps x most b ys) (one_text faults lists never answers text r s u t) k)
