-- A walk down a path, one step after another.
use Rattle.std.proofs.Common.{◌≡◌, ℕ, suc, ◌+◌, ◌≤◌, ◌<◌, List, [], ◌∷◌, ◌++◌, length, take, drop, get_or, Option, Some, None, sym, ap, ◌∙◌, subst}
use Rattle.std.proofs.Math.Seq.{drop-cons}
use Rattle.std.proofs.lemmas.List.{take_more, take_all, take-append-drop}
use Rattle.rsml_syntax.specs.text.Names.{Name}
use Rattle.rsml_meaning.specs.Words.{Path, Instance, at}
use Rattle.rsml_meaning.specs.Instances.{State}
use Rattle.state_arrays.specs.Places.{path_place, path_at}
use Rattle.state_arrays.specs.Trees.{IsTree}
use Rattle.state_arrays.specs.Children.{child_place}
use Rattle.state_arrays.proofs.PathLemmas.{place_at, IsAfter, after_step, after_none, after_all}

module _ (xs ys : List State) (tree : IsTree xs) (same_states : xs ≡ ys) (steps items : Path) (same_steps : items ≡ steps) (i : ℕ) (o : Option ℕ) (after : IsAfter ys (take i steps) o) where
  here : IsAfter xs (take i items) o
  here = subst (λ zs. IsAfter zs (take i items) o) (sym same_states) (subst (λ p. IsAfter ys (take i p) o) (sym same_steps) after)

  pub walk_ends : length items ≤ i → o ≡ path_place ys steps
  walk_ends h = after_all xs tree (take i items) o here ∙ ap (path_place xs) (take_all i items h ∙ same_steps) ∙ ap (λ zs. path_place zs steps) same_states

  module _ (step : Instance) (name : Name) (within : i < length items) (is : step ≡ get_or items i step) (name_is : name ≡ step.name) where
    found_by : (m : Option ℕ) → child_place xs xs o (at name step.index) ≡ m → child_place xs xs o step ≡ m
    found_by m e = ap (λ (n : Name). child_place xs xs o (at n step.index)) (sym name_is) ∙ e

    pub walk_fails : child_place xs xs o (at name step.index) ≡ None → None ≡ path_place ys steps
    walk_fails e =
        let whole : items ≡ take i items ++ (step ∷ drop (suc i) items) = sym (take-append-drop i items) ∙ ap (λ (p : Path). take i items ++ p) (drop-cons items i step within) ∙ ap (λ (x : Instance). take i items ++ (x ∷ drop (suc i) items)) (sym is) in
        sym (ap (λ zs. path_place zs steps) (sym same_states) ∙ ap (path_place xs) (sym same_steps ∙ whole) ∙ after_none xs tree (take i items) o step (drop (suc i) items) here (found_by None e))

    pub walk_goes : (m : ℕ) → child_place xs xs o (at name step.index) ≡ Some m → path_at ys m ≡ Some (take (i + 1) steps)
    walk_goes m e =
        ap (λ zs. path_at zs m) (sym same_states)
        ∙ after_step xs tree (take i items) o step m here (found_by (Some m) e)
        ∙ ap (λ (p : Path). Some p) (ap (λ (x : Instance). take i items ++ (x ∷ [])) is ∙ sym (take_more items i step within) ∙ ap (take (i + 1)) same_steps)

pub place_known : (xs ys : List State) (n : ℕ) (p q : Path) → IsTree xs → xs ≡ ys → Some q ≡ path_at xs n → p ≡ q → path_place ys p ≡ Some n
place_known xs ys n p q tree e h f = ap (λ zs. path_place zs p) (sym e) ∙ ap (path_place xs) f ∙ place_at xs n q tree.differ (sym h)
