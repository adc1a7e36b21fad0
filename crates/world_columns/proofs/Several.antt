-- The columns of a set, one after another.
use Rattle.std.proofs.Common.{◌≡◌, ℕ, zero, suc, Bool, true, false, ◌&&◌, not, List, [], ◌∷◌, Some, slice_get, refl, sym, ◌∙◌, subst, true≢false, IsTrue, arith}
use Rattle.std.specs.Ordering.{ordering_reverse}
use Rattle.std.specs.declared.cmp.Ordering.{Ordering}
use Rattle.std.specs.declared.cmp.Ordering.TheVariants.{Less, Equal, Greater}
use Rattle.std.specs.Cmp.{first_so, second_so}
use Rattle.std.proofs.lemmas.Option.{same_Some}
use Rattle.rsml_syntax.specs.declared.syntax.Spec.{Spec}
use Rattle.rsml_syntax.specs.declared.world.World.{World}
use Rattle.rsml_meaning.specs.Worlds.{IsWorld, world_cmp}
use Rattle.rsml_meaning.specs.Findings.{IsLeast}
use Rattle.rsml_meaning.specs.Laws.{WorldsAreOrdered, WorldsAreApart}
use Rattle.world_columns.specs.declared.column.Column.{Column}
use Rattle.world_columns.specs.Columns.{LiesIn, lies_in}
use Rattle.world_columns.specs.Gaps.{AreGaps, EndsWith, IsColumn, none_left, some_left}
use Rattle.world_columns.specs.Laws.{ColumnsLieInTheSet, ColumnsAreDisjoint, MoreIsExact, GapsAreOne, IsLeft}
use Rattle.world_columns.proofs.Lists.{both}
use Rattle.world_columns.proofs.Inside.{column_lies}
use Rattle.world_columns.proofs.Alike.{one_column}

-- the worlds that are left after a column
abbrev pub rest : (World → Bool) → Column → World → Bool
rest set c v = set v && not (lies_in c v)

in_the_set : (set : World → Bool) (c : Column) (v : World) → IsTrue (rest set c v) → IsTrue (set v)
in_the_set set c v h = first_so (set v) (not (lies_in c v)) h

not_both : (b : Bool) → not b ≡ true → b ≡ true → ⊥
not_both true h k = true≢false (sym h)
not_both false h k = true≢false (sym k)

not_in : (set : World → Bool) (c : Column) (v : World) → IsTrue (rest set c v) → IsTrue (lies_in c v) → ⊥
not_in set c v h = not_both (lies_in c v) (second_so (set v) (not (lies_in c v)) h)

pub inside : ColumnsLieInTheSet
inside s set most [] more h k c at = absurd (let no : ⊥ = cc in no)
inside s set zero (d ∷ columns) more h k c at = absurd h
inside s set (suc most) (d ∷ columns) more h zero c at =
    subst (LiesIn s set) (same_Some d c at) (column_lies s set h.0 d h.1.such.0 h.1.such.1 h.2)
inside s set (suc most) (d ∷ columns) more h (suc k) c at = λ v world lies.
    in_the_set set d v (inside s (rest set d) most columns more h.3 k c at v world lies)

pub disjoint : ColumnsAreDisjoint
disjoint s set most [] more h j k c d less at there w world a b = absurd (let no : ⊥ = cc in no)
disjoint s set zero (x ∷ columns) more h j k c d less at there w world a b = absurd h
disjoint s set (suc most) (x ∷ columns) more h j zero c d less at there w world a b = absurd (omega (arith, less))
disjoint s set (suc most) (x ∷ columns) more h zero (suc k) c d less at there w world a b =
    not_in set x w (inside s (rest set x) most columns more h.3 k d there w world b)
    (subst (λ y. IsTrue (lies_in y w)) (sym (same_Some x c at)) a)
disjoint s set (suc most) (x ∷ columns) more h (suc j) (suc k) c d less at there w world a b =
    disjoint s (rest set x) most columns more h.3 j k c d (omega (arith, less)) at there w world a b

false_for : (b : Bool) → (b ≡ true → ⊥) → not b ≡ true
false_for true h = absurd (h refl)
false_for false h = refl

left_over : (s : Spec) (set : World → Bool) (most : ℕ) (columns : List Column) (more : Bool) → AreGaps s set most columns more
    → IsTrue more → (w : World) × IsLeft s set columns w
left_over s set most [] false (none_left h) is = absurd (true≢false (sym is))
left_over s set most [] true (some_left e w world in_set) is =
    (w, record { is_world = world; in_set = in_set; in_none = λ k c at lies. let no : ⊥ = cc in no })
left_over s set zero (d ∷ columns) more h is = absurd h
left_over s set (suc most) (d ∷ columns) more h is =
    let left = left_over s (rest set d) most columns more h.3 is in
    (left.0, record { is_world = left.1.is_world; in_set = in_the_set set d left.0 left.1.in_set; in_none = in_none left.0 left.1 })
  where
    in_none : (w : World) → IsLeft s (rest set d) columns w → (k : ℕ) (c : Column) → slice_get (d ∷ columns) k ≡ Some c → IsTrue (lies_in c w) → ⊥
    in_none w left zero c at lies = not_in set d w left.in_set (subst (λ y. IsTrue (lies_in y w)) (sym (same_Some d c at)) lies)
    in_none w left (suc k) c at lies = left.in_none k c at lies

more_told : (s : Spec) (set : World → Bool) (most : ℕ) (columns : List Column) (more : Bool) → AreGaps s set most columns more
    → (w : World) → IsLeft s set columns w → IsTrue more
more_told s set most [] false (none_left h) w left = absurd (h w left.is_world left.in_set)
more_told s set most [] true (some_left e v world in_set) w left = refl
more_told s set zero (d ∷ columns) more h w left = absurd h
more_told s set (suc most) (d ∷ columns) more h w left =
    more_told s (rest set d) most columns more h.3 w (record {
      is_world = left.is_world;
      in_set = both (set w) (not (lies_in d w)) left.in_set (false_for (lies_in d w) (left.in_none 0 d refl));
      in_none = λ k c at lies. left.in_none (suc k) c at lies;
    })

pub more_is_exact : MoreIsExact
more_is_exact s set most columns more h = (left_over s set most columns more h, λ left. more_told s set most columns more h left.0 left.1)

ends_alike : (s : Spec) (set : World → Bool) (most : ℕ) (more told : Bool) → EndsWith s set most more → EndsWith s set most told → more ≡ told
ends_alike s set most false false (none_left h) (none_left k) = refl
ends_alike s set most false true (none_left h) (some_left e w world in_set) = absurd (h w world in_set)
ends_alike s set most true false (some_left e w world in_set) (none_left k) = absurd (k w world in_set)
ends_alike s set most true true (some_left e w world in_set) (some_left f v there is) = refl

-- where another column is asked for, none is left out
goes_on : (s : Spec) (set : World → Bool) (most : ℕ) (more : Bool) (w : World) → IsWorld s w → IsTrue (set w) → EndsWith s set (suc most) more → ⊥
goes_on s set most false w world in_set (none_left h) = h w world in_set
goes_on s set most true w world in_set (some_left e v there is) = omega (arith, e)

-- before, equal or after
in_order : (o : Ordering) → (o ≡ Less → ⊥) → (ordering_reverse o ≡ Less → ⊥) → o ≡ Equal
in_order Less p q = absurd (p refl)
in_order Equal p q = refl
in_order Greater p q = absurd (q refl)

-- of two that are both least neither is before the other
least_is_one : WorldsAreOrdered → WorldsAreApart → {IsSuch : World → Type 0} → (v w : World) → IsLeast IsSuch v → IsLeast IsSuch w → v ≡ w
least_is_one ordered apart v w a b =
    apart v w (in_order (world_cmp v w) (b.least v a.such) (λ h. a.least w b.such (ordered.antisymm w v ∙ h)))

pub gaps_are_one : WorldsAreOrdered → WorldsAreApart → GapsAreOne
gaps_are_one ordered apart s set most [] [] more told h k = (refl, ends_alike s set most more told h k)
gaps_are_one ordered apart s set zero [] (d ∷ other) more told h k = absurd k
gaps_are_one ordered apart s set (suc most) [] (d ∷ other) more told h k = absurd (goes_on s set most more k.0 k.1.such.0 k.1.such.1 h)
gaps_are_one ordered apart s set zero (c ∷ one) other more told h k = absurd h
gaps_are_one ordered apart s set (suc most) (c ∷ one) [] more told h k = absurd (goes_on s set most told h.0 h.1.such.0 h.1.such.1 k)
gaps_are_one ordered apart s set (suc most) (c ∷ one) (d ∷ other) more told h k =
    let world : k.0 ≡ h.0 = least_is_one ordered apart k.0 h.0 k.1 h.1 in
    let column : c ≡ d = one_column s set h.0 c d h.1.such.0 h.2 (subst (λ w. IsColumn s set w d) world k.2) in
    let later = gaps_are_one ordered apart s (rest set d) most one other more told (subst (λ x. AreGaps s (rest set x) most one more) column h.3) k.3 in
    (λ i. column i ∷ later.0 i, later.1)
