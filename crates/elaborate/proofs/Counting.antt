-- How many a list of declarations makes.
use Rattle.std.proofs.Common.{◌≡◌, ℕ, ◌+◌, ◌<◌, List, [], ◌∷◌, ◌++◌, flat_map, length, take, get_or, sym, ap, ◌∙◌, arith}
use Rattle.std.proofs.lemmas.List.{append-nil, length-append, take_more}
use Rattle.ground_members.proofs.Adding.{flat_append}

pub one_more : (A B : Type 0) (f : A → List B) (xs : List A) (i n more new : ℕ) (x : A) → i < length xs → x ≡ get_or xs i x → n ≡ length (flat_map f (take i xs)) → more ≡ length (f x) → new ≡ n + more
    → new ≡ length (flat_map f (take (i + 1) xs))
one_more A B f xs i n more new x l e h k s =
    let same : length (flat_map f (take (i + 1) xs)) ≡ length (flat_map f (take i xs) ++ f x) =
    ap (λ (z : List A). length (flat_map f z)) (take_more xs i x l ∙ ap (λ z. take i xs ++ (z ∷ [])) (sym e))
    ∙ ap length (flat_append f (take i xs) (x ∷ []) ∙ ap (λ z. flat_map f (take i xs) ++ z) (append-nil (f x))) in
    omega (arith, same, length-append (flat_map f (take i xs)) (f x), h, k, s)
