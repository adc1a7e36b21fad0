-- Paths that begin others.
use Rattle.std.proofs.Common.{◌≡◌, ◌<◌, ◌≤◌, Bool, true, false, ◌&&◌, [], ◌∷◌, ◌++◌, length, drop, ◌⊎◌, inl, inr, refl, sym, ap, ◌∙◌, subst, true≢false, append-nil, append_assoc, arith, lt-ltb, length-append}
use Rattle.std.specs.Cmp.{first_so, second_so}
use Rattle.rsml_syntax.specs.declared.world.Step.{Step}
use Rattle.rsml_meaning.specs.Words.{Path, same_instance, is_prefix, is_proper_prefix, same_path}
use Rattle.rsml_meaning.proofs.Same.{instance_same, instance_itself}

both : (a b : Bool) → a ≡ true → b ≡ true → (a && b) ≡ true
both true b h k = k
both false b h k = absurd (true≢false (sym h))

not_true : (b : Bool) → (b ≡ true → ⊥) → b ≡ false
not_true true f = absurd (f refl)
not_true false f = refl

pub prefix_rest : (p q : Path) → is_prefix p q ≡ true → (r : Path) × (q ≡ p ++ r)
prefix_rest [] q h = (q, refl)
prefix_rest (x ∷ p) [] h = absurd (true≢false (sym h))
prefix_rest (x ∷ p) (y ∷ q) h =
    let rest = prefix_rest p q (second_so (same_instance x y) (is_prefix p q) h) in
    (rest.0, λ i. sym (instance_same x y (first_so (same_instance x y) (is_prefix p q) h)) i ∷ rest.1 i)

pub prefix_append : (p r : Path) → is_prefix p (p ++ r) ≡ true
prefix_append [] r = refl
prefix_append (x ∷ p) r = λ i. instance_itself x i && prefix_append p r i

pub prefix_self : (p : Path) → is_prefix p p ≡ true
prefix_self [] = refl
prefix_self (x ∷ p) = λ i. instance_itself x i && prefix_self p i

pub longer : (p : Path) (x : Step) (r : Path) → length p < length (p ++ (x ∷ r))
longer p x r = omega (arith, length-append p (x ∷ r))

pub proper_append : (p : Path) (x : Step) (r : Path) → is_proper_prefix p (p ++ (x ∷ r)) ≡ true
proper_append p x r = λ i. prefix_append p (x ∷ r) i && lt-ltb (length p) (length (p ++ (x ∷ r))) (longer p x r) i

pub prefix_length : (p q : Path) → is_prefix p q ≡ true → length p ≤ length q
prefix_length p q h = let r = prefix_rest p q h in let e = ap length r.1 in omega (arith, e, length-append p r.0)

pub same_path_self : (p : Path) → same_path p p ≡ true
same_path_self p = both (is_prefix p p) (is_prefix p p) (prefix_self p) (prefix_self p)

-- a prefix that is as long is the whole
pub whole_prefix : (p q : Path) → is_prefix p q ≡ true → length q ≤ length p → p ≡ q
whole_prefix p q h l = let r = prefix_rest p q h in by_list r.0 r.1
  where
    by_list : (r : Path) → q ≡ p ++ r → p ≡ q
    by_list [] e = sym (e ∙ append-nil p)
    by_list (x ∷ r) e = absurd (let k = longer p x r in let d = ap length e in omega (arith, k, d, l))

pub same_path_is : (p q : Path) → same_path p q ≡ true → p ≡ q
same_path_is p q h = whole_prefix p q (first_so (is_prefix p q) (is_prefix q p) h) (prefix_length q p (second_so (is_prefix p q) (is_prefix q p) h))

abbrev pub head_or : Step → Path → Step
head_or x [] = x
head_or x (y ∷ p) = y

either : {A B C D : Type 0} → (A → C) → (B → D) → A ⊎ B → C ⊎ D
either f g (inl a) = inl (f a)
either f g (inr b) = inr (g b)

-- of two paths that begin one path, one begins the other
pub linear : (p q a b : Path) → p ++ a ≡ q ++ b → ((r : Path) × (q ≡ p ++ r)) ⊎ ((r : Path) × (p ≡ q ++ r))
linear [] q a b e = inl (q, refl)
linear (x ∷ p) [] a b e = inr (x ∷ p, refl)
linear (x ∷ p) (y ∷ q) a b e =
    let h = ap (head_or x) e in
    either (λ r. (r.0, λ i. sym h i ∷ r.1 i)) (λ r. (r.0, λ i. h i ∷ r.1 i)) (linear p q a b (ap (drop 1) e))

-- a prefix that two paths share comes off
pub prefix_off : (a u v : Path) → a ++ u ≡ a ++ v → u ≡ v
prefix_off [] u v e = e
prefix_off (x ∷ a) u v e = prefix_off a u v (ap (drop 1) e)

pub prefix_under : (a u v : Path) → is_prefix (a ++ u) (a ++ v) ≡ is_prefix u v
prefix_under [] u v = refl
prefix_under (x ∷ a) u v = ap (λ b. b && is_prefix (a ++ u) (a ++ v)) (instance_itself x) ∙ prefix_under a u v

-- where the steps after a path differ, neither begins the other
pub parted : (a : Path) (x y : Step) (r t : Path) → (x ≡ y → ⊥) → is_prefix (a ++ (x ∷ r)) (a ++ (y ∷ t)) ≡ false
parted a x y r t differ = prefix_under a (x ∷ r) (y ∷ t) ∙ not_true (same_instance x y && is_prefix r t) (λ h. differ (instance_same x y (first_so (same_instance x y) (is_prefix r t) h)))

pub prefix_then : (p q r : Path) → is_prefix p q ≡ true → is_prefix q r ≡ true → is_prefix p r ≡ true
prefix_then p q r h k =
    let a = prefix_rest p q h in
    let b = prefix_rest q r k in
    subst (λ z. is_prefix p z ≡ true) (sym (b.1 ∙ ap (λ z. z ++ b.0) a.1 ∙ append_assoc p a.0 b.0)) (prefix_append p (a.0 ++ b.0))

-- a longer path begins no shorter one
pub no_prefix : (p q : Path) → length q < length p → false ≡ is_prefix p q
no_prefix p q h = sym (not_true (is_prefix p q) (λ k. let l = prefix_length p q k in omega (arith, l, h)))
