-- Sizes are numbers from 1 on, and an index that is right is one of the indices of its size.
use Rattle.std.proofs.Common.{◌≡◌, ℕ, zero, suc, ◌≤◌, true, false, not, List, [], ◌∷◌, ◌++◌, Option, Some, None, ◌⊎◌, inl, inr, ⊎_elim, ℤ, pos, negsuc, int_le, refl, sym, ap, ◌∙◌, subst, arith, true≢false, unsigned_abs, if◌then◌else◌}
use Rattle.std.specs.Option.{option_map_or, option_and_then}
use Rattle.std.specs.Cmp.{first_so, second_so}
use Rattle.std.proofs.lemmas.Int.{ints}
use Rattle.rsml_syntax.specs.declared.syntax.Spec.{Spec}
use Rattle.rsml_syntax.specs.declared.syntax.Amount.{Amount}
use Rattle.rsml_syntax.specs.declared.syntax.Amount.TheVariants as amounts
use Rattle.rsml_syntax.specs.declared.syntax.Index.{Index}
use Rattle.rsml_syntax.specs.declared.syntax.Index.TheVariants as index
use Rattle.rsml_syntax.specs.declared.syntax.Decl.{Decl}
use Rattle.rsml_syntax.specs.declared.syntax.Decl.TheVariants as decl
use Rattle.rsml_syntax.specs.declared.want.Want.TheVariants as want
use Rattle.rsml_syntax.specs.text.Names.{Name, same}
use Rattle.rsml_syntax.specs.rules.Globals.{Known, Globals, signed, constant_of, constant, amount_of, up_to, indices, meaning}
use Rattle.rsml_syntax.specs.limits.Comparisons.{index_number}
use Rattle.rsml_syntax.specs.rules.Breaches.{breach}
use Rattle.rsml_syntax.specs.rules.Scopes.{Scope, size_number, is_up_to, bound_of, is_name_index, is_indexed}
use Rattle.rsml_syntax.specs.rules.Uses.{fits, is_amount, amount_used, sized}
use Rattle.rsml_syntax.specs.rules.Rules.{name_tables}
use Rattle.rsml_meaning.specs.Words.{IsOne}
use Rattle.rsml_meaning.specs.Instances.{globals_of}
use Rattle.rsml_meaning.specs.Truth.{within}
use Rattle.rsml_meaning.proofs.Globals.{in_up_to}
use Rattle.rsml_syntax.proofs.Clean.{no_front, no_back, holds}
use Rattle.rsml_meaning.proofs.rules.Mentions.{used_is}

-- Numbers.

at_least_one : (z : ℤ) → int_le (pos 1) z ≡ true → (n : ℕ) × (z ≡ pos n) × (1 ≤ n)
at_least_one (pos n) h = (n, refl, let l : 1 ≤ n = grind (arith, ints) in l)
at_least_one (negsuc n) h = absurd (let l : ⊥ = grind (arith, ints) in l)

at_most : (a b : ℕ) → int_le (pos a) (pos b) ≡ true → a ≤ b
at_most a b h = grind (arith, ints)

pub of_up_to : (n k : ℕ) → IsOne k (up_to n) → (1 ≤ k) × (k ≤ n)
of_up_to zero k m = absurd m
of_up_to (suc n) k m = ⊎_elim (λ below. let r = of_up_to n k below in let a = r.0 in let b = r.1 in (a, omega (arith, b))) (λ last. by_last last) (one_of (up_to n) (suc n) k m)
  where
    one_of : (xs : List ℕ) (y k : ℕ) → IsOne k (xs ++ (y ∷ [])) → IsOne k xs ⊎ (k ≡ y)
    one_of [] y k (inl e) = inr e
    one_of [] y k (inr m) = absurd m
    one_of (x ∷ xs) y k (inl e) = inl (inl e)
    one_of (x ∷ xs) y k (inr m) = ⊎_elim (λ l. inl (inr l)) (λ r. inr r) (one_of xs y k m)

    by_last : k ≡ suc n → (1 ≤ k) × (k ≤ suc n)
    by_last e = (omega (arith, e), omega (arith, e))

-- Sizes.

-- a size is written as a number from 1 on, or as the name of a constant with one
abbrev pub IsSized : Globals → Option Amount → Type 0
IsSized g None = Unit {0}
IsSized g (Some amount) = (n : ℕ) × (amount_of g amount ≡ Some (pos n)) × (1 ≤ n)

up_to_64 : (z : ℤ) → is_up_to (pos 64) z ≡ true → (n : ℕ) × (z ≡ pos n) × (1 ≤ n)
up_to_64 z h = at_least_one z (first_so (int_le (pos 1) z) (int_le z (pos 64)) h)

-- a name that fits a constant has a number
constant_is : (g : Globals) (name : Name) (k : Known) → meaning g name ≡ Some k → fits want.Constant k ≡ true → (z : ℤ) × (constant g name ≡ Some z)
constant_is g name k e f = by_parts k.decl k.value refl f
  where
    by_parts : (d : Decl) (o : Option ℕ) → k ≡ record { decl = d; value = o } → fits want.Constant (record { decl = d; value = o }) ≡ true → (z : ℤ) × (constant g name ≡ Some z)
    by_parts (decl.Constant n value) None q f = (signed value, ap (λ m. option_map_or constant_of m None) (e ∙ ap (λ z. Some z) q))
    by_parts d (Some v) q f = absurd (true≢false (sym f))
    by_parts (decl.Enumeration n names) None q f = absurd (true≢false (sym f))
    by_parts (decl.Range n low high) None q f = absurd (true≢false (sym f))
    by_parts (decl.Input n size kind initial) None q f = absurd (true≢false (sym f))
    by_parts (decl.Event n size) None q f = absurd (true≢false (sym f))
    by_parts (decl.Macro n size rows) None q f = absurd (true≢false (sym f))
    by_parts (decl.Function n size cases) None q f = absurd (true≢false (sym f))
    by_parts (decl.Receive n size inputs raised) None q f = absurd (true≢false (sym f))
    by_parts (decl.Send n size names cases) None q f = absurd (true≢false (sym f))

pub size_is : (s : Spec) (at : Scope) (name : Name) (size : Option Amount) → sized (name_tables s) at name size ≡ [] → IsSized (globals_of s) size
size_is s at name None h = tt
size_is s at name (Some (amounts.Number n)) h =
    let right = holds 5 name (is_amount (name_tables s) (amounts.Number n)) (no_front (breach 5 name (not (is_amount (name_tables s) (amounts.Number n)))) (amount_used (name_tables s) at (amounts.Number n)) h) in
    let r = up_to_64 (pos n) right in
    (r.0, ap (λ z. Some z) r.1, r.2)
size_is s at name (Some (amounts.Name x)) h =
    let right = holds 5 name (is_amount (name_tables s) (amounts.Name x)) (no_front (breach 5 name (not (is_amount (name_tables s) (amounts.Name x)))) (amount_used (name_tables s) at (amounts.Name x)) h) in
    let u = used_is s at want.Constant x (no_back (breach 5 name (not (is_amount (name_tables s) (amounts.Name x)))) (amount_used (name_tables s) at (amounts.Name x)) h) in
    let c = constant_is (globals_of s) x u.known u.is u.fit in
    let r = up_to_64 c.0 (subst (λ o. option_map_or (is_up_to (pos 64)) o true ≡ true) c.1 right) in
    (r.0, c.1 ∙ ap (λ z. Some z) r.1, r.2)

-- Indices.

-- the indices of a size are 1 to its number
pub indices_are : (g : Globals) (amount : Amount) (n : ℕ) → amount_of g amount ≡ Some (pos n) → indices g (Some amount) ≡ up_to n
indices_are g amount n e = ap (λ o. up_to (option_map_or unsigned_abs o 1)) e

in_size : (g : Globals) (amount : Amount) (n k : ℕ) → amount_of g amount ≡ Some (pos n) → 1 ≤ k → k ≤ n → IsOne k (indices g (Some amount))
in_size g amount n k e a b = subst (λ z. IsOne k z) (sym (indices_are g amount n e)) (in_up_to n k a b)

no_variable : (at : Scope) (x : Name) → at.variable ≡ None → bound_of at x ≡ None
no_variable at x h = ap (λ v. option_and_then (λ (w : Name × ℤ). if same w.0 x then Some w.1 else None) v) h

-- an index that is right at a name of a size, inside the instance i, is one of the indices of that size
pub index_is_in : (g : Globals) (at : Scope) (around size : Option Amount) (x : Option Index) (i : ℕ) → at.this ≡ size_number g around → at.variable ≡ None → IsSized g around → IsSized g size → IsOne i (indices g around)
    → is_indexed g at (size_number g size) x ≡ true → IsOne (index_number g (within i) x) (indices g size)
index_is_in g at around None None i t v a z m h = inl refl
index_is_in g at around None (Some x) i t v a z m h = absurd (true≢false (sym h))
index_is_in g at around (Some amount) x i t v a z m h = by_index x (subst (λ o. is_indexed g at o x ≡ true) z.1 h)
  where
    e : amount_of g amount ≡ Some (pos z.0)
    e = z.1

    of_this : (around : Option Amount) → at.this ≡ size_number g around → IsSized g around → IsOne i (indices g around) → option_map_or (λ n. int_le n (pos z.0)) at.this false ≡ true → IsOne i (indices g (Some amount))
    of_this None t a m k = absurd (true≢false (sym k ∙ ap (λ o. option_map_or (λ n. int_le n (pos z.0)) o false) t))
    of_this (Some b) t a m k =
        let l = at_most a.0 z.0 (sym (ap (λ o. option_map_or (λ n. int_le n (pos z.0)) o false) (t ∙ a.1)) ∙ k) in
        let r = of_up_to a.0 i (subst (λ ns. IsOne i ns) (indices_are g b a.0 a.1) m) in
        in_size g amount z.0 i e r.0 (let q = r.1 in omega (arith, l, q))

    of_name : (name : Name) (o : Option ℤ) → constant g name ≡ o → option_map_or (λ n. is_up_to (pos z.0) n) o false ≡ true → IsOne (option_map_or unsigned_abs (constant g name) 0) (indices g (Some amount))
    of_name name None q k = absurd (true≢false (sym k))
    of_name name (Some n) q k =
        let r = at_least_one n (first_so (int_le (pos 1) n) (int_le n (pos z.0)) k) in
        let l = at_most r.0 z.0 (subst (λ y. int_le y (pos z.0) ≡ true) r.1 (second_so (int_le (pos 1) n) (int_le n (pos z.0)) k)) in
        subst (λ y. IsOne y (indices g (Some amount))) (sym (ap (λ o. option_map_or unsigned_abs o 0) (q ∙ ap (λ y. Some y) r.1))) (in_size g amount z.0 r.0 e r.2 l)

    by_index : (x : Option Index) → is_indexed g at (Some (pos z.0)) x ≡ true → IsOne (index_number g (within i) x) (indices g (Some amount))
    by_index None k = absurd (true≢false (sym k))
    by_index (Some (index.Number n)) k =
        in_size g amount z.0 n e (at_most 1 n (first_so (int_le (pos 1) (pos n)) (int_le (pos n) (pos z.0)) k)) (at_most n z.0 (second_so (int_le (pos 1) (pos n)) (int_le (pos n) (pos z.0)) k))
    by_index (Some (index.Name name)) k = of_name name (constant g name) refl (subst (λ o. is_name_index g (pos z.0) name o ≡ true) (no_variable at name v) k)
    by_index (Some index.This) k = of_this around t a m k
