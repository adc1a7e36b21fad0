-- Paths that begin each other are one.
use Rattle.std.proofs.Common.{◌≡◌, Bool, true, false, ◌&&◌, List, [], ◌∷◌, refl, sym, ap, ◌∙◌, true≢false}
use Rattle.std.specs.Cmp.{first_so, second_so}
use Rattle.rsml_meaning.specs.Words.{Path, same_instance, is_prefix, same_path}
use Rattle.rsml_meaning.proofs.Same.{instance_same, instance_itself}

each_begins : (p q : Path) → is_prefix p q ≡ true → is_prefix q p ≡ true → p ≡ q
each_begins [] [] h k = refl
each_begins [] (y ∷ q) h k = absurd (true≢false (sym k))
each_begins (x ∷ p) [] h k = absurd (true≢false (sym h))
each_begins (x ∷ p) (y ∷ q) h k =
    ap (λ z. z ∷ p) (instance_same x y (first_so (same_instance x y) (is_prefix p q) h))
    ∙ ap (λ z. y ∷ z) (each_begins p q (second_so (same_instance x y) (is_prefix p q) h) (second_so (same_instance y x) (is_prefix q p) k))

pub path_same : (p q : Path) → same_path p q ≡ true → p ≡ q
path_same p q h = each_begins p q (first_so (is_prefix p q) (is_prefix q p) h) (second_so (is_prefix p q) (is_prefix q p) h)

begins_itself : (p : Path) → is_prefix p p ≡ true
begins_itself [] = refl
begins_itself (x ∷ p) = ap (λ b. b && is_prefix p p) (instance_itself x) ∙ begins_itself p

pub path_itself : (p : Path) → same_path p p ≡ true
path_itself p = ap (λ b. b && is_prefix p p) (begins_itself p) ∙ begins_itself p
