-- Names that are in a list.
use Rattle.std.proofs.Common.{◌≡◌, ℕ, ◌+◌, Bool, true, false, cond, ◌||◌, List, [], ◌∷◌, ◌++◌, is_some, Some, inl, inr, ⊎_elim, ◌⊎◌, refl, sym, ◌∙◌}
use Rattle.std.specs.List.{list_any, position_from}
use Rattle.rsml_syntax.specs.text.Names.{Name, same, is_in}
use Rattle.rsml_meaning.proofs.Same.{name_same, name_itself}
use Rattle.rsml_meaning.proofs.Lists.{or_left, or_right, or_cases, any_front, any_back}

found_is_any : (t : Name → Bool) (names : List Name) (i : ℕ) → is_some (position_from t i names) ≡ list_any t names
found_is_any t [] i = refl
found_is_any t (x ∷ names) i = by_test (t x) (found_is_any t names (i + 1))
  where
    by_test : (b : Bool) → is_some (position_from t (i + 1) names) ≡ list_any t names → is_some (cond b (Some i) (position_from t (i + 1) names)) ≡ (b || list_any t names)
    by_test true e = refl
    by_test false e = e

pub is_in_any : (name : Name) (names : List Name) → is_in name names ≡ list_any (same name) names
is_in_any name names = found_is_any (same name) names 0

pub in_front : (name : Name) (xs ys : List Name) → is_in name xs ≡ true → is_in name (xs ++ ys) ≡ true
in_front name xs ys h = is_in_any name (xs ++ ys) ∙ any_front (same name) xs ys (sym (is_in_any name xs) ∙ h)

pub in_back : (name : Name) (xs ys : List Name) → is_in name ys ≡ true → is_in name (xs ++ ys) ≡ true
in_back name xs ys h = is_in_any name (xs ++ ys) ∙ any_back (same name) xs ys (sym (is_in_any name ys) ∙ h)

pub in_first : (name : Name) (names : List Name) → is_in name (name ∷ names) ≡ true
in_first name names = is_in_any name (name ∷ names) ∙ or_left (same name name) (list_any (same name) names) (name_itself name)

pub in_more : (x name : Name) (names : List Name) → is_in x names ≡ true → is_in x (name ∷ names) ≡ true
in_more x name names h = is_in_any x (name ∷ names) ∙ or_right (same x name) (list_any (same x) names) (sym (is_in_any x names) ∙ h)

pub in_cases : (x name : Name) (names : List Name) → is_in x (name ∷ names) ≡ true → (x ≡ name) ⊎ (is_in x names ≡ true)
in_cases x name names h = ⊎_elim (λ e. inl (name_same x name e)) (λ e. inr (is_in_any x names ∙ e)) (or_cases (same x name) (list_any (same x) names) (sym (is_in_any x (name ∷ names)) ∙ h))
