-- Instances that pass the test of sameness are equal.
use Rattle.std.proofs.Common.{◌≡◌, ℕ, Bool, true, ◌&&◌, [], ◌∷◌, nat_eq, refl, sym, ap, ◌∙◌, true≢false, arith}
use Rattle.std.specs.Cmp.{first_so, second_so}
use Rattle.std.specs.Cmp.Lexicographic.{pointwise}
use Rattle.std.proofs.lemmas.Bool.Decides.{nat_tests}
use Rattle.rsml_syntax.specs.text.Names.{Name, same}
use Rattle.rsml_meaning.specs.Words.{Instance, at, same_instance}

pub nat_same : (x y : ℕ) → nat_eq x y ≡ true → x ≡ y
nat_same x y h = grind (arith, nat_tests)

pub nat_itself : (x : ℕ) → nat_eq x x ≡ true
nat_itself x = grind (arith, nat_tests)

pub name_same : (x y : Name) → same x y ≡ true → x ≡ y
name_same [] [] h = refl
name_same [] (b ∷ y) h = absurd (true≢false (sym h))
name_same (a ∷ x) [] h = absurd (true≢false (sym h))
name_same (a ∷ x) (b ∷ y) h =
    ap (λ c. c ∷ x) (nat_same a b (first_so (nat_eq a b) (pointwise nat_eq x y) h)) ∙ ap (λ z. b ∷ z) (name_same x y (second_so (nat_eq a b) (pointwise nat_eq x y) h))

both : (a b : Bool) → a ≡ true → b ≡ true → (a && b) ≡ true
both a b p q = ap (λ c. c && b) p ∙ q

pub name_itself : (x : Name) → same x x ≡ true
name_itself [] = refl
name_itself (a ∷ x) = both (nat_eq a a) (pointwise nat_eq x x) (nat_itself a) (name_itself x)

-- an instance is its name and its index
pub instance_same : (x y : Instance) → same_instance x y ≡ true → x ≡ y
instance_same x y h =
    ap (λ n. at n x.index) (name_same x.name y.name (first_so (same x.name y.name) (nat_eq x.index y.index) h))
    ∙ ap (λ i. at y.name i) (nat_same x.index y.index (second_so (same x.name y.name) (nat_eq x.index y.index) h))

pub instance_itself : (x : Instance) → same_instance x x ≡ true
instance_itself x = both (same x.name x.name) (nat_eq x.index x.index) (name_itself x.name) (nat_itself x.index)
