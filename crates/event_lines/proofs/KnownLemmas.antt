-- Names, and the numbers that are kept for them.
use Rattle.std.proofs.Common.{◌≡◌, ℕ, zero, suc, ◌<◌, List, [], ◌∷◌, length, get_or, Some, inl, inr, refl, sym, ap, ◌∙◌, subst, arith}
use Rattle.rsml_syntax.specs.declared.syntax.Decl.{Decl}
use Rattle.rsml_syntax.specs.text.Names.{Name, place_of}
use Rattle.rsml_meaning.specs.Words.{Each, IsOne}
use Rattle.event_lines.specs.declared.known.Known.{Known}
use Rattle.event_lines.specs.helpers.Kept.{IsKept, IsNumberOf, IsKnown, IsPlaced}

get_one : {A : Type 0} (xs : List A) (i : ℕ) (d : A) → i < length xs → IsOne (get_or xs i d) xs
get_one [] i d l = absurd (omega (arith, l))
get_one (y ∷ xs) zero d l = inl refl
get_one (y ∷ xs) (suc i) d l = inr (get_one xs i d (omega (arith, l)))

-- the number of an item with this name is kept for it
pub kept_one : (ks : List Known) (i : ℕ) (d : Known) (name : Name) → i < length ks → (get_or ks i d).name.now ≡ name → IsKept ks name (get_or ks i d).number
kept_one ks i d name l e = (get_or ks i d, get_one ks i d l, e, refl)

each_one : {A : Type 0} (P : A → Type 0) (xs : List A) (x : A) → Each P xs → IsOne x xs → P x
each_one P [] x h m = absurd m
each_one P (y ∷ xs) x h (inl e) = subst P (sym e) h.0
each_one P (y ∷ xs) x h (inr m) = each_one P xs x h.1 m

-- what is kept for a name is the number of its declaration
pub kept_number : (ds : List Decl) (ks : List Known) (name : Name) (n : ℕ) → Each (IsKnown ds) ks → IsKept ks name n → IsNumberOf ds name n
kept_number ds ks name n each kept =
    let is : IsNumberOf ds kept.0.name.now kept.0.number = each_one (IsKnown ds) ks kept.0 each kept.1 in
    subst (λ (x : Name). IsNumberOf ds x n) kept.2 (subst (λ (m : ℕ). IsNumberOf ds kept.0.name.now m) kept.3 is)

-- what is kept for a name is its place
pub kept_place : (names : List Name) (ks : List Known) (name : Name) (n : ℕ) → Each (IsPlaced names) ks → IsKept ks name n → Some n ≡ place_of name names
kept_place names ks name n each kept =
    let is : place_of kept.0.name.now names ≡ Some kept.0.number = each_one (IsPlaced names) ks kept.0 each kept.1 in
    sym (ap (λ (x : Name). place_of x names) (sym kept.2) ∙ is ∙ ap (λ (m : ℕ). Some m) kept.3)
