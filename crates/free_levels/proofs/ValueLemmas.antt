-- Values of levels that differ in some levels alone, and functions that do not see the difference.
use Rattle.std.proofs.Common.{◌≡◌, ◌≢◌, ℕ, Bool, true, false, ◌||◌, List, [], ◌∷◌, refl, sym, ap, ◌∙◌, inl, inr, true≢false}
use Rattle.std.proofs.lemmas.Bool.{cases_eq, eq-eqb, ne_eqb}
use Rattle.bdd_core.specs.Calls.{with_value}
use Rattle.bdd_core.proofs.CanonicalLemmas.{with_value-same, with_value-apart}
use Rattle.free_levels.specs.Values.{is_in, AgreeOff}

-- equal at each level is equal
pub by_levels : (a b : ℕ → Bool) → ((level : ℕ) → a level ≡ b level) → a ≡ b
by_levels a b same = λ i level. same level i

-- a level that gets the value that it has
pub with_value-own : (v : ℕ → Bool) (l : ℕ) (b : Bool) → v l ≡ b → with_value v l b ≡ v
with_value-own v l b e = by_levels (with_value v l b) v (λ k. elim (cases_eq k l) [
  | inl same ↦ ap (with_value v l b) same ∙ with_value-same v l b ∙ sym e ∙ ap v (sym same)
  | inr ne ↦ with_value-apart v l k b ne
])

-- the later of two values of a level
pub with_value-twice : (v : ℕ → Bool) (l : ℕ) (b c : Bool) → with_value (with_value v l b) l c ≡ with_value v l c
with_value-twice v l b c = by_levels (with_value (with_value v l b) l c) (with_value v l c) (λ k. elim (cases_eq k l) [
  | inl same ↦ ap (with_value (with_value v l b) l c) same ∙ with_value-same (with_value v l b) l c ∙ sym (with_value-same v l c) ∙ ap (with_value v l c) (sym same)
  | inr ne ↦ with_value-apart (with_value v l b) l k c ne ∙ with_value-apart v l k b ne ∙ sym (with_value-apart v l k c ne)
])

pub or-false_left : (a b : Bool) → (a || b) ≡ false → a ≡ false
or-false_left true b e = absurd (true≢false e)
or-false_left false b e = refl

pub or-false_right : (a b : Bool) → (a || b) ≡ false → b ≡ false
or-false_right true b e = absurd (true≢false e)
or-false_right false b e = e

pub or-by_left : (a b : Bool) → a ≡ true → (a || b) ≡ true
or-by_left true b e = refl
or-by_left false b e = absurd (true≢false (sym e))

pub or-by_right : (a b : Bool) → b ≡ true → (a || b) ≡ true
or-by_right true b e = refl
or-by_right false b e = e

pub or-both_false : (a b : Bool) → a ≡ false → b ≡ false → (a || b) ≡ false
or-both_false true b e f = e
or-both_false false b e f = f

-- not in a list: not its first, and not in the rest
pub not_in-first : (l : ℕ) (ls : List ℕ) (k : ℕ) → is_in (l ∷ ls) k ≡ false → k ≢ l
not_in-first l ls k e same = true≢false (sym (eq-eqb k l same) ∙ or-false_left _ (is_in ls k) e)

pub not_in-rest : (l : ℕ) (ls : List ℕ) (k : ℕ) → is_in (l ∷ ls) k ≡ false → is_in ls k ≡ false
not_in-rest l ls k e = or-false_right _ (is_in ls k) e

pub not_in-cons : (l : ℕ) (ls : List ℕ) (k : ℕ) → k ≢ l → is_in ls k ≡ false → is_in (l ∷ ls) k ≡ false
not_in-cons l ls k ne e = or-both_false _ (is_in ls k) (ne_eqb k l ne) e

-- a function that depends on no level of a list does not tell values that differ in these alone
pub ignores-all : (F : (ℕ → Bool) → Bool) (levels : List ℕ) → ((level : ℕ) → is_in levels level ≡ true → (v : ℕ → Bool) (b : Bool) → F (with_value v level b) ≡ F v)
    → (a b : ℕ → Bool) → AgreeOff levels a b → F a ≡ F b
ignores-all F [] ignores a b agree = ap F (by_levels a b (λ k. agree k refl))
ignores-all F (l ∷ ls) ignores a b agree =
    sym (ignores l (or-by_left _ (is_in ls l) (eq-eqb l l refl)) a (b l))
    ∙ ignores-all F ls (λ k e. ignores k (or-by_right _ (is_in ls k) e)) (with_value a l (b l)) b (λ k out. elim (cases_eq k l) [
      | inl same ↦ ap (with_value a l (b l)) same ∙ with_value-same a l (b l) ∙ ap b (sym same)
      | inr ne ↦ with_value-apart a l k (b l) ne ∙ agree k (not_in-cons l ls k ne out)
    ])
