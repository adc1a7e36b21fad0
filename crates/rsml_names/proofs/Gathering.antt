-- Putting the names of declarations one after another.
use Rattle.std.proofs.Common.{◌≡◌, ℕ, suc, ◌+◌, ◌<◌, List, [], ◌∷◌, ◌++◌, Some, length, drop, get_or, drop-cons, add-one, append_assoc, sym, ap, ◌∙◌}
use Rattle.rsml_syntax.specs.declared.syntax.Decl.{Decl}
use Rattle.rsml_syntax.specs.text.Names.{Name}
use Rattle.rsml_syntax.specs.rules.Globals.{Known, known_values}

pub split : {A : Type 0} (xs : List A) (i : ℕ) (x : A) → i < length xs → x ≡ get_or xs i x → drop i xs ≡ x ∷ drop (i + 1) xs
split xs i x h e = rw (add-one, drop-cons xs i x h) (ap (λ y. y ∷ drop (suc i) xs) (sym e))

-- a name that is put last comes off those to come
pub names_turn : (names : List Name) (xs : List Name) (i : ℕ) (x : Name) → i < length xs → x ≡ get_or xs i x → (names ++ x ∷ []) ++ drop (i + 1) xs ≡ names ++ drop i xs
names_turn names xs i x h e = append_assoc names (x ∷ []) (drop (i + 1) xs) ∙ ap (λ ys. names ++ ys) (sym (split xs i x h e))

pub known_turn : (d : Decl) (known : List Known) (xs : List Name) (i : ℕ) (x : Name) → i < length xs → x ≡ get_or xs i x →
    (known ++ record { decl = d; value = Some i } ∷ []) ++ known_values d (i + 1) (drop (i + 1) xs) ≡ known ++ known_values d i (drop i xs)
known_turn d known xs i x h e =
    append_assoc known (record { decl = d; value = Some i } ∷ []) (known_values d (i + 1) (drop (i + 1) xs))
    ∙ ap (λ (ys : List Name). known ++ known_values d i ys) (sym (split xs i x h e))
