-- The names that are gathered are those that stand after `previous`.
use Rattle.std.proofs.Common.{◌≡◌, ℕ, ◌+◌, Bool, true, false, ◌||◌, cond, List, [], ◌∷◌, Some, is_some, flat_map, refl, ap, ◌∙◌}
use Rattle.std.specs.List.{list_any, position_from}
use Rattle.std.proofs.lemmas.List.Folds.{list_any-append}
use Rattle.rsml_syntax.specs.declared.syntax.Operand.{Operand}
use Rattle.rsml_syntax.specs.declared.syntax.Operand.TheVariants as operands
use Rattle.rsml_syntax.specs.declared.syntax.Spec.{Spec}
use Rattle.rsml_syntax.specs.declared.syntax.Sum.{Sum}
use Rattle.rsml_syntax.specs.declared.syntax.Term.{Term}
use Rattle.rsml_syntax.specs.text.Names.{Name, same, is_in}
use Rattle.rsml_syntax.specs.limits.Previous.{written_sums, is_previous, names_previous}
use Rattle.rsml_names.specs.PreviousNames.{previous_name, previous_in, previous_names, gathered}

any_from : (t : Name → Bool) (i : ℕ) (xs : List Name) → is_some (position_from t i xs) ≡ list_any t xs
any_from t i [] = refl
any_from t i (x ∷ xs) = by (t x) (any_from t (i + 1) xs)
  where
    by : (b : Bool) → is_some (position_from t (i + 1) xs) ≡ list_any t xs → is_some (cond b (Some i) (position_from t (i + 1) xs)) ≡ (b || list_any t xs)
    by true h = refl
    by false h = h

any_flat_map : {A B : Type 0} (p : B → Bool) (f : A → List B) (xs : List A) → list_any p (flat_map f xs) ≡ list_any (λ x. list_any p (f x)) xs
any_flat_map p f [] = refl
any_flat_map p f (x ∷ xs) = list_any-append p (f x) (flat_map f xs) ∙ ap (λ b. list_any p (f x) || b) (any_flat_map p f xs)

any_same : {A : Type 0} (p q : A → Bool) → ((x : A) → p x ≡ q x) → (xs : List A) → list_any p xs ≡ list_any q xs
any_same p q h [] = refl
any_same p q h (x ∷ xs) = ap (λ b. b || list_any p xs) (h x) ∙ ap (λ b. q x || b) (any_same p q h xs)

or_false : (b : Bool) → (b || false) ≡ b
or_false true = refl
or_false false = refl

in_operand : (name : Name) (o : Operand) → list_any (same name) (previous_name o) ≡ is_previous name o
in_operand name (operands.Previous m) = or_false (same name m.name)
in_operand name (operands.Number n) = refl
in_operand name (operands.Mention m) = refl

in_sum : (name : Name) (sum : Sum) → list_any (same name) (previous_in sum) ≡ list_any (λ t. is_previous name t.operand) sum.terms
in_sum name sum =
    any_flat_map (same name) (λ (t : Term). previous_name t.operand) sum.terms
    ∙ any_same (λ (t : Term). list_any (same name) (previous_name t.operand)) (λ t. is_previous name t.operand) (λ t. in_operand name t.operand) sum.terms

pub previous_is : (s : Spec) (name : Name) → is_in name (previous_names s) ≡ names_previous s name
unfolding gathered
previous_is s name =
    any_from (same name) 0 (flat_map previous_in (written_sums s))
    ∙ any_flat_map (same name) previous_in (written_sums s)
    ∙ any_same (λ sum. list_any (same name) (previous_in sum)) (λ sum. list_any (λ t. is_previous name t.operand) sum.terms) (in_sum name) (written_sums s)
