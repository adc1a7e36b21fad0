-- A chain with an event twice can be made as long as one likes.
use Rattle.std.proofs.Common.{◌≡◌, ℕ, zero, suc, ◌≤◌, Bool, true, false, ◌&&◌, cond, List, [], ◌∷◌, ◌++◌, length, filter, refl, sym, ap, ◌∙◌, subst, arith}
use Rattle.std.specs.Cmp.{first_so, second_so}
use Rattle.rsml_syntax.specs.declared.syntax.Spec.{Spec}
use Rattle.rsml_meaning.specs.Words.{Instance, same_instance}
use Rattle.rsml_meaning.specs.Chains.{leads, linked, is_chain, is_external, IsChainFrom, IsTwiceIn}
use Rattle.rsml_meaning.specs.Laws.{LengthExcludesEndless}
use Rattle.rsml_meaning.proofs.Same.{instance_same}

-- A list with the event in it, cut there.
pub record Cut (e : Instance) (es : List Instance) (n : ℕ) : Type 0 where
  before : List Instance
  after : List Instance
  is : es ≡ before ++ (e ∷ after)
  more : n ≤ length (filter (same_instance e) after)

-- where an event stands, what follows has it once less
cut : (e : Instance) (n : ℕ) (es : List Instance) → suc n ≤ length (filter (same_instance e) es) → Cut e es n
cut e n [] h = absurd (omega arith)
cut e n (x ∷ es) h = by_test (same_instance e x) refl h (cut e n es)
  where
    by_test : (b : Bool) → same_instance e x ≡ b → suc n ≤ length (cond b (x ∷ filter (same_instance e) es) (filter (same_instance e) es))
        → (suc n ≤ length (filter (same_instance e) es) → Cut e es n) → Cut e (x ∷ es) n
    by_test true q k rest = record { before = []; after = es; is = ap (λ y. y ∷ es) (sym (instance_same e x q)); more = omega arith }
    by_test false q k rest =
        let r = rest k in
        record { before = x ∷ r.before; after = r.after; is = ap (λ ys. x ∷ ys) r.is; more = r.more }

both : (a b : Bool) → a ≡ true → b ≡ true → (a && b) ≡ true
both a b p q = ap (λ c. c && b) p ∙ q

-- a list that goes over e, in two parts and put together again
front_linked : (s : Spec) (a : List Instance) (e : Instance) (r : List Instance) → linked s (a ++ (e ∷ r)) ≡ true → linked s (a ++ (e ∷ [])) ≡ true
front_linked s [] e r h = refl
front_linked s (x ∷ []) e r h = both (leads s x e) true (first_so (leads s x e) (linked s (e ∷ r)) h) refl
front_linked s (x ∷ y ∷ a) e r h =
    both (leads s x y) (linked s (y ∷ (a ++ (e ∷ [])))) (first_so (leads s x y) (linked s (y ∷ (a ++ (e ∷ r)))) h)
    (front_linked s (y ∷ a) e r (second_so (leads s x y) (linked s (y ∷ (a ++ (e ∷ r)))) h))

back_linked : (s : Spec) (a : List Instance) (e : Instance) (r : List Instance) → linked s (a ++ (e ∷ r)) ≡ true → linked s (e ∷ r) ≡ true
back_linked s [] e r h = h
back_linked s (x ∷ []) e r h = second_so (leads s x e) (linked s (e ∷ r)) h
back_linked s (x ∷ y ∷ a) e r h = back_linked s (y ∷ a) e r (second_so (leads s x y) (linked s (y ∷ (a ++ (e ∷ r)))) h)

join_linked : (s : Spec) (a : List Instance) (e : Instance) (r : List Instance) → linked s (a ++ (e ∷ [])) ≡ true → linked s (e ∷ r) ≡ true → linked s (a ++ (e ∷ r)) ≡ true
join_linked s [] e r h k = k
join_linked s (x ∷ []) e r h k = both (leads s x e) (linked s (e ∷ r)) (first_so (leads s x e) true h) k
join_linked s (x ∷ y ∷ a) e r h k =
    both (leads s x y) (linked s (y ∷ (a ++ (e ∷ r)))) (first_so (leads s x y) (linked s (y ∷ (a ++ (e ∷ [])))) h)
    (join_linked s (y ∷ a) e r (second_so (leads s x y) (linked s (y ∷ (a ++ (e ∷ [])))) h) k)

-- k times round
abbrev rounds : Instance → List Instance → ℕ → List Instance
rounds e b zero = []
rounds e b (suc k) = b ++ (e ∷ rounds e b k)

rounds_linked : (s : Spec) (e : Instance) (b : List Instance) (k : ℕ) → linked s ((e ∷ b) ++ (e ∷ [])) ≡ true → linked s (e ∷ rounds e b k) ≡ true
rounds_linked s e b zero h = refl
rounds_linked s e b (suc k) h = join_linked s (e ∷ b) e (rounds e b k) h (rounds_linked s e b k h)

longer : (xs ys : List Instance) → length ys ≤ length (xs ++ ys)
longer [] ys = omega arith
longer (x ∷ xs) ys = omega (arith, longer xs ys)

rounds_long : (e : Instance) (b : List Instance) (k : ℕ) → k ≤ length (rounds e b k)
rounds_long e b zero = omega arith
rounds_long e b (suc k) = omega (arith, rounds_long e b k, longer b (e ∷ rounds e b k))

-- another end after e leaves the beginning
begins_alike : (s : Spec) (x : Instance) (a : List Instance) (e : Instance) (r q : List Instance)
    → IsChainFrom s x (a ++ (e ∷ r)) → linked s (a ++ (e ∷ q)) ≡ true → IsChainFrom s x (a ++ (e ∷ q))
begins_alike s x [] e r q h k =
    both (is_chain s (e ∷ q)) (same_instance x e)
    (both (is_external s e) (linked s (e ∷ q)) (first_so (is_external s e) (linked s (e ∷ r)) (first_so (is_chain s (e ∷ r)) (same_instance x e) h)) k)
    (second_so (is_chain s (e ∷ r)) (same_instance x e) h)
begins_alike s x (y ∷ a) e r q h k =
    both (is_chain s (y ∷ (a ++ (e ∷ q)))) (same_instance x y)
    (both (is_external s y) (linked s (y ∷ (a ++ (e ∷ q)))) (first_so (is_external s y) (linked s (y ∷ (a ++ (e ∷ r)))) (first_so (is_chain s (y ∷ (a ++ (e ∷ r)))) (same_instance x y) h)) k)
    (second_so (is_chain s (y ∷ (a ++ (e ∷ r)))) (same_instance x y) h)

chain_linked : (s : Spec) (x : Instance) (es : List Instance) → IsChainFrom s x es → linked s es ≡ true
chain_linked s x [] h = refl
chain_linked s x (e ∷ es) h = second_so (is_external s e) (linked s (e ∷ es)) (first_so (is_chain s (e ∷ es)) (same_instance x e) h)

too_long : (s : Spec) (x : Instance) (n : ℕ) (e : Instance) (a b c : List Instance) → ((es : List Instance) → IsChainFrom s x es → length es ≤ n)
    → IsChainFrom s x (a ++ (e ∷ (b ++ (e ∷ c)))) → ⊥
too_long s x n e a b c most h =
    let all = chain_linked s x (a ++ (e ∷ (b ++ (e ∷ c)))) h in
    let round = front_linked s (e ∷ b) e c (back_linked s a e (b ++ (e ∷ c)) all) in
    let chain = join_linked s a e (rounds e b n) (front_linked s a e (b ++ (e ∷ c)) all) (rounds_linked s e b n round) in
    omega (arith, most (a ++ (e ∷ rounds e b n)) (begins_alike s x a e (b ++ (e ∷ c)) (rounds e b n) h chain), longer a (e ∷ rounds e b n), rounds_long e b n)

-- no chain is bounded where some has an event twice
pub twice_is_unbounded : (s : Spec) (x : Instance) (n : ℕ) (es : List Instance) (e : Instance) → ((fs : List Instance) → IsChainFrom s x fs → length fs ≤ n) → IsChainFrom s x es → IsTwiceIn es e → ⊥
twice_is_unbounded s x n es e most h twice =
    let one = cut e 1 es twice in
    let two = cut e 0 one.after one.more in
    too_long s x n e one.before two.before two.after most
    (subst (λ fs. IsChainFrom s x fs) (one.is ∙ ap (λ fs. one.before ++ (e ∷ fs)) two.is) h)

pub length_excludes_endless : LengthExcludesEndless
length_excludes_endless s x n l endless = twice_is_unbounded s x n endless.0 endless.1 l.most endless.2 endless.3
