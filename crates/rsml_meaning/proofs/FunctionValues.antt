-- A value of a function is that of some case with a true guard, or 0 where none is true.
use Rattle.std.proofs.Common.{◌≡◌, Bool, true, false, List, [], ◌∷◌, ◌++◌, ℤ, pos, if◌then◌else◌, ◌⊎◌, inl, inr, refl, sym, ap, ◌∙◌, subst}
use Rattle.std.specs.Prelude.{◌↔◌}
use Rattle.rsml_syntax.specs.declared.syntax.Case.{Case}
use Rattle.rsml_syntax.specs.limits.Comparisons.{Indices}
use Rattle.rsml_meaning.specs.Words.{Instance, at, IsOne}
use Rattle.rsml_meaning.specs.Truth.{View, view, within, guard, sum, values_given, Gives}
use Rattle.rsml_meaning.specs.Laws.{IsOfTrueCase, HasNoTrueCase, FunctionValuesAreOfCases}
use Rattle.rsml_meaning.proofs.Stable.{functions_give_their_cases}

module _ (v : View) (r : Indices) where
  -- the values of the first case, and of the others
  abbrev with_first : Bool → Case → List Case → List ℤ
  with_first b c cases = (if b then sum v r c.value ∷ [] else []) ++ values_given v r cases

  value_is : (cases : List Case) (n : ℤ) → IsOne n (values_given v r cases) → IsOfTrueCase v r cases n
  value_is [] n m = absurd m
  value_is (c ∷ cases) n m = by_guard (guard v r c.guard) refl m (value_is cases n)
    where
      later : IsOfTrueCase v r cases n → IsOfTrueCase v r (c ∷ cases) n
      later t = (t.0, inr t.1, t.2, t.3)

      by_guard : (b : Bool) → guard v r c.guard ≡ b → IsOne n (with_first b c cases) → (IsOne n (values_given v r cases) → IsOfTrueCase v r cases n) → IsOfTrueCase v r (c ∷ cases) n
      by_guard true e (inl k) rest = (c, inl refl, e, k)
      by_guard true e (inr k) rest = later (rest k)
      by_guard false e k rest = later (rest k)

  is_value : (cases : List Case) (c : Case) (n : ℤ) → IsOne c cases → guard v r c.guard ≡ true → n ≡ sum v r c.value → IsOne n (values_given v r cases)
  is_value [] c n m e k = absurd m
  is_value (d ∷ cases) c n (inl same) e k =
      subst (λ b. IsOne n (with_first b d cases)) (sym (subst (λ (z : Case). guard v r z.guard ≡ true) same e)) (inl (subst (λ (z : Case). n ≡ sum v r z.value) same k))
  is_value (d ∷ cases) c n (inr m) e k = by_guard (guard v r d.guard) (is_value cases c n m e k)
    where
      by_guard : (b : Bool) → IsOne n (values_given v r cases) → IsOne n (with_first b d cases)
      by_guard true k = inr k
      by_guard false k = k

  none_true : (cases : List Case) → values_given v r cases ≡ [] → HasNoTrueCase v r cases
  none_true [] h = tt
  none_true (c ∷ cases) h = by_guard (guard v r c.guard) refl h (none_true cases)
    where
      by_guard : (b : Bool) → guard v r c.guard ≡ b → with_first b c cases ≡ [] → (values_given v r cases ≡ [] → HasNoTrueCase v r cases) → HasNoTrueCase v r (c ∷ cases)
      by_guard true e k rest = cc
      by_guard false e k rest = (e, rest k)

  no_value : (cases : List Case) → HasNoTrueCase v r cases → values_given v r cases ≡ []
  no_value [] h = refl
  no_value (c ∷ cases) h = ap (λ b. with_first b c cases) h.0 ∙ no_value cases h.1

  pub gives_of_cases : (f : Instance) (cases : List Case) (n : ℤ) → v.gives f ≡ values_given v r cases → Gives v f n ↔ (IsOfTrueCase v r cases n ⊎ (HasNoTrueCase v r cases × (n ≡ pos 0)))
  gives_of_cases f cases n e = (to, from)
    where
      to : Gives v f n → IsOfTrueCase v r cases n ⊎ (HasNoTrueCase v r cases × (n ≡ pos 0))
      to (inl m) = inl (value_is cases n (subst (IsOne n) e m))
      to (inr p) = inr (none_true cases (sym e ∙ p.0), p.1)

      from : IsOfTrueCase v r cases n ⊎ (HasNoTrueCase v r cases × (n ≡ pos 0)) → Gives v f n
      from (inl t) = inl (subst (IsOne n) (sym e) (is_value cases t.0 n t.1 t.2 t.3))
      from (inr p) = inr (e ∙ no_value cases p.0, p.1)

pub function_values_are_of_cases : FunctionValuesAreOfCases
function_values_are_of_cases s w order name i size cases n one =
    gives_of_cases (view s w) (within i) (at name i) cases n (functions_give_their_cases s w order name i size cases one)
