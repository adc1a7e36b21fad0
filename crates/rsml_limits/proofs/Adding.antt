-- Sums of counts, and counts that stop at the greatest u64.
use Rattle.std.proofs.Common.{◌≡◌, ℕ, ◌+◌, ◌*◌, ◌<◌, ◌≤◌, List, [], ◌∷◌, ◌++◌, length, take, get_or, map, flat_map, ⊎_elim, refl, sym, ap, ◌∙◌, arith}
use Rattle.std.proofs.Math.Nat.{mul-zero, zero-mul}
use Rattle.std.proofs.lemmas.Bool.{cases_lt}
use Rattle.std.proofs.lemmas.List.{take_more}
use Rattle.std.proofs.lemmas.Nat.{mul-le}
use Rattle.rsml_syntax.specs.limits.Limits.{adds, shown}

pub shown_plus : (a b : ℕ) → shown (shown a + shown b) ≡ shown (a + b)
shown_plus a b = omega arith

-- a product of a number past the greatest u64
past_left : (a b : ℕ) → 18446744073709551615 ≤ a → 1 ≤ b → shown (a * b) ≡ 18446744073709551615
past_left a b h k = omega (arith, mul-le 18446744073709551615 1 a b h k)

past_right : (a b : ℕ) → 1 ≤ a → 18446744073709551615 ≤ b → shown (a * b) ≡ 18446744073709551615
past_right a b h k = omega (arith, mul-le 1 18446744073709551615 a b h k)

times_past : (a b : ℕ) → 18446744073709551615 ≤ a → shown (shown a * shown b) ≡ shown (a * b)
times_past a b h = ⊎_elim
    (λ (l : b < 1). let z : b ≡ 0 = omega arith in ap (λ n. shown (shown a * shown n)) z ∙ ap shown (mul-zero (shown a) ∙ sym (mul-zero a)) ∙ ap (λ n. shown (a * n)) (sym z))
    (λ (l : 1 ≤ b). past_left (shown a) (shown b) (omega arith) (omega arith) ∙ sym (past_left a b h l))
    (cases_lt b 1)

past_times : (a b : ℕ) → 18446744073709551615 ≤ b → shown (shown a * shown b) ≡ shown (a * b)
past_times a b h = ⊎_elim
    (λ (l : a < 1). let z : a ≡ 0 = omega arith in ap (λ n. shown (shown n * shown b)) z ∙ ap shown (zero-mul (shown b) ∙ sym (zero-mul b)) ∙ ap (λ n. shown (n * b)) (sym z))
    (λ (l : 1 ≤ a). past_right (shown a) (shown b) (omega arith) (omega arith) ∙ sym (past_right a b l h))
    (cases_lt a 1)

within_times : (a b : ℕ) → a < 18446744073709551615 → b < 18446744073709551615 → shown (shown a * shown b) ≡ shown (a * b)
within_times a b h k =
    let e : shown a ≡ a = omega arith in
    let f : shown b ≡ b = omega arith in
    ap (λ n. shown (n * shown b)) e ∙ ap (λ n. shown (a * n)) f

pub shown_times : (a b : ℕ) → shown (shown a * shown b) ≡ shown (a * b)
shown_times a b = ⊎_elim
    (λ (h : a < 18446744073709551615). ⊎_elim (within_times a b h) (past_times a b) (cases_lt b 18446744073709551615))
    (times_past a b)
    (cases_lt a 18446744073709551615)

-- a factor that is a u64
pub shown_of_times : (m n b : ℕ) → m ≤ 18446744073709551615 → n ≡ shown b → shown (m * n) ≡ shown (m * b)
shown_of_times m n b h e =
    let f : m ≡ shown m = omega arith in
    ap (λ k. shown (m * k)) e ∙ ap (λ k. shown (k * shown b)) f ∙ shown_times m b

pub adds_append : {A : Type 0} (f : A → ℕ) (xs ys : List A) → adds f (xs ++ ys) ≡ adds f xs + adds f ys
adds_append f [] ys = omega arith
adds_append f (x ∷ xs) ys = omega (arith, adds_append f xs ys)

-- one more item is counted
pub adds_more : {A : Type 0} (f : A → ℕ) (xs : List A) (i : ℕ) (x : A) → i < length xs → x ≡ get_or xs i x → adds f (take (i + 1) xs) ≡ adds f (take i xs) + f x
adds_more f xs i x h e =
    ap (λ ys. adds f ys) (take_more xs i x h ∙ ap (λ y. take i xs ++ y ∷ []) (sym e))
    ∙ omega (arith, adds_append f (take i xs) (x ∷ []))

pub adds_same : {A : Type 0} (f g : A → ℕ) → ((x : A) → f x ≡ g x) → (xs : List A) → adds f xs ≡ adds g xs
adds_same f g h [] = refl
adds_same f g h (x ∷ xs) = omega (arith, h x, adds_same f g h xs)

-- what is counted of the items that items are made of
pub adds_flat_map : {A B C : Type 0} (f : C → ℕ) (h : B → List C) (v : A → B) (xs : List A) → adds f (flat_map h (map v xs)) ≡ adds (λ x. adds f (h (v x))) xs
adds_flat_map f h v [] = refl
adds_flat_map f h v (x ∷ xs) = adds_append f (h (v x)) (flat_map h (map v xs)) ∙ ap (λ n. adds f (h (v x)) + n) (adds_flat_map f h v xs)
