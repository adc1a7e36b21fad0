-- A name among names that stand one list behind another.
use Rattle.std.proofs.Common.{◌≡◌, ℕ, ◌+◌, Bool, true, false, cond, List, [], ◌∷◌, ◌++◌, Some, is_some, refl, sym, ap, ◌∙◌}
use Rattle.std.specs.Prelude.{◌||◌}
use Rattle.std.specs.List.{list_any, position_from}
use Rattle.std.proofs.lemmas.List.Folds.{list_any-append}
use Rattle.rsml_syntax.specs.text.Names.{Name, same, is_in}

-- There is a place where there is such an element.
has_place : {A : Type 0} (t : A → Bool) (i : ℕ) (xs : List A) → is_some (position_from t i xs) ≡ list_any t xs
has_place t i [] = refl
has_place t i (x ∷ xs) = by (t x) (has_place t (i + 1) xs)
  where
    by : (b : Bool) → is_some (position_from t (i + 1) xs) ≡ list_any t xs → is_some (cond b (Some i) (position_from t (i + 1) xs)) ≡ (b || list_any t xs)
    by true h = refl
    by false h = h

-- A name is in the two where it is in one.
pub in_either : (name : Name) (xs ys : List Name) → is_in name (xs ++ ys) ≡ (is_in name xs || is_in name ys)
in_either name xs ys =
    has_place (same name) 0 (xs ++ ys)
    ∙ list_any-append (same name) xs ys
    ∙ ap (λ b. b || list_any (same name) ys) (sym (has_place (same name) 0 xs))
    ∙ ap (λ b. is_in name xs || b) (sym (has_place (same name) 0 ys))
