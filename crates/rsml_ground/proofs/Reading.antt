-- How a scope of the rules and the indices of a reading fit together, and that an index that is right in the scope is one of
-- the indices of what it stands at.
use Rattle.std.proofs.Common.{◌≡◌, ℕ, ◌≤◌, Bool, true, false, not, [], ◌++◌, Option, Some, None, ◌⊎◌, inl, inr, ℤ, pos, negsuc, int_le, refl, sym, ap, ◌∙◌, subst, arith, true≢false, unsigned_abs, if◌then◌else◌}
use Rattle.std.specs.Option.{option_map, option_map_or, option_and_then}
use Rattle.std.specs.Cmp.{first_so, second_so}
use Rattle.std.proofs.lemmas.Int.{ints}
use Rattle.rsml_syntax.specs.declared.syntax.Spec.{Spec}
use Rattle.rsml_syntax.specs.declared.syntax.Amount.{Amount}
use Rattle.rsml_syntax.specs.declared.syntax.Index.{Index}
use Rattle.rsml_syntax.specs.declared.syntax.Index.TheVariants as index
use Rattle.rsml_syntax.specs.declared.syntax.Simple.{Simple}
use Rattle.rsml_syntax.specs.text.Names.{Name, same}
use Rattle.rsml_syntax.specs.limits.Comparisons.{Indices, index_number, variable_value}
use Rattle.rsml_syntax.specs.rules.Globals.{Globals, amount_of, constant, many, indices}
use Rattle.rsml_syntax.specs.rules.Breaches.{breach}
use Rattle.rsml_syntax.specs.rules.Scopes.{Scope, size_number, bound_of, is_up_to, is_name_index, is_indexed}
use Rattle.rsml_syntax.specs.rules.Uses.{is_declared_before, is_amount, amount_used, sized, simple_used}
use Rattle.rsml_syntax.specs.rules.Uses as uses
use Rattle.rsml_syntax.specs.rules.Rules.{name_tables}
use Rattle.rsml_syntax.proofs.Clean.{no_front, no_back}
use Rattle.rsml_meaning.specs.Words.{IsOne}
use Rattle.rsml_meaning.specs.Instances.{globals_of}
use Rattle.rsml_meaning.specs.Truth.{within, quantified}
use Rattle.rsml_meaning.proofs.Globals.{in_up_to}
use Rattle.rsml_meaning.proofs.rules.Sizes.{IsSized, size_is, of_up_to, indices_are}
use Rattle.state_arrays.proofs.Small.{size_small}

-- Sizes.

-- there is no size, or it is a number from 1 to 64
abbrev pub IsFew : Globals → Option Amount → Type 0
IsFew g None = Unit {0}
IsFew g (Some amount) = (n : ℕ) × (amount_of g amount ≡ Some (pos n)) × (1 ≤ n) × (n ≤ 64)

pub few_sized : (g : Globals) (size : Option Amount) → IsFew g size → IsSized g size
few_sized g None f = tt
few_sized g (Some amount) f = (f.0, f.1, f.2)

pub size_few : (s : Spec) (at : Scope) (name : Name) (size : Option Amount) → sized (name_tables s) at name size ≡ [] → IsFew (globals_of s) size
size_few s at name None h = tt
size_few s at name (Some amount) h =
    let z = size_is s at name (Some amount) h in
    let small = size_small (name_tables s) at name (Some amount) h in
    (z.0, z.1, z.2, subst (λ o. option_map_or unsigned_abs o 1 ≤ 64) z.1 small.few)

-- an index of a size is at most 64
pub one_few : (g : Globals) (size : Option Amount) (k : ℕ) → IsFew g size → IsOne k (indices g size) → k ≤ 64
one_few g None k f (inl e) = omega (arith, e)
one_few g None k f (inr m) = absurd m
one_few g (Some amount) k f m =
    let below = (of_up_to f.0 k (subst (λ ns. IsOne k ns) (indices_are g amount f.0 f.1) m)).1 in
    let few = f.3 in
    omega (arith, below, few)

-- Scopes and indices.

-- The index of `this` is one of the array around, and so is that of a variable up to its bound.
pub record Reads (s : Spec) (at : Scope) (r : Indices) : Type 0 where
  pub this : (at.this ≡ None) ⊎ ((n : ℕ) × (at.this ≡ Some (pos n)) × (1 ≤ r.this) × (r.this ≤ n))
  pub variable : ((at.variable ≡ None) × (r.variable ≡ None)) ⊎ ((x : Name) × (n i : ℕ) × (at.variable ≡ Some (x, pos n)) × (r.variable ≡ Some (x, i)) × (1 ≤ i) × (i ≤ n))

-- outside of quantifiers, in an instance of what has this size
pub reads_plain : (s : Spec) (at : Scope) (around : Option Amount) (i : ℕ) → at.this ≡ size_number (globals_of s) around → at.variable ≡ None → IsSized (globals_of s) around → IsOne i (indices (globals_of s) around) → Reads s at (within i)
reads_plain s at None i t v z m = record { this = inl t; variable = inl (v, refl) }
reads_plain s at (Some amount) i t v z m =
    let k = of_up_to z.0 i (subst (λ ns. IsOne i ns) (indices_are (globals_of s) amount z.0 z.1) m) in
    record { this = inr (z.0, t ∙ z.1, k.0, k.1); variable = inl (v, refl) }

-- inside a quantifier, at a value of its variable
pub reads_within : (s : Spec) (at : Scope) (r : Indices) → Reads s at r → (x : Name) (bound : Amount) → IsFew (globals_of s) (Some bound) → (i : ℕ) → IsOne i (indices (globals_of s) (Some bound))
    → Reads s (uses.within (name_tables s) at x bound) (quantified r x i)
reads_within s at r o x bound f i m =
    let k = of_up_to f.0 i (subst (λ ns. IsOne i ns) (indices_are (globals_of s) bound f.0 f.1) m) in
    record { this = o.this; variable = inr (x, f.0, i, ap (λ b. option_map (λ n. (x, n)) b) f.1, refl, k.0, k.1) }

-- What is known of a quantified phrase: its bound, and what stands in it.
pub record IsQuantified (s : Spec) (at : Scope) (x : Name) (bound : Amount) (b : Simple) : Type 0 where
  pub few : IsFew (globals_of s) (Some bound)
  pub inner : simple_used (name_tables s) (uses.within (name_tables s) at x bound) b ≡ []

pub quantified_is : (s : Spec) (at : Scope) (x : Name) (bound : Amount) (b : Simple) → uses.quantified (name_tables s) at x bound b ≡ [] → IsQuantified s at x bound b
quantified_is s at x bound b h =
    let w = name_tables s in
    let taken = breach 1 x (is_declared_before w at x) in
    let wrong = breach 5 x (not (is_amount w bound)) in
    let named = amount_used w at bound in
    let inside = simple_used w (uses.within w at x bound) b in
    let after = no_back taken (wrong ++ (named ++ inside)) h in
    let later = no_back wrong (named ++ inside) after in
    record {
      few = size_few s at x (Some bound) (ap (λ bs. bs ++ named) (no_front wrong (named ++ inside) after) ∙ no_front named inside later);
      inner = no_back named inside later;
    }

-- Indices.

at_least_one : (z : ℤ) → int_le (pos 1) z ≡ true → (n : ℕ) × (z ≡ pos n) × (1 ≤ n)
at_least_one (pos n) h = (n, refl, let l : 1 ≤ n = grind (arith, ints) in l)
at_least_one (negsuc n) h = absurd (let l : ⊥ = grind (arith, ints) in l)

at_most : (a b : ℕ) → int_le (pos a) (pos b) ≡ true → a ≤ b
at_most a b h = grind (arith, ints)

-- an index that is right at a name of a size is one of the indices of that size
pub index_is : (s : Spec) (at : Scope) (r : Indices) → Reads s at r → (size : Option Amount) → IsSized (globals_of s) size → (x : Option Index) → is_indexed (globals_of s) at (size_number (globals_of s) size) x ≡ true
    → IsOne (index_number (globals_of s) r x) (indices (globals_of s) size)
index_is s at r o None z None h = inl refl
index_is s at r o None z (Some x) h = absurd (true≢false (sym h))
index_is s at r o (Some amount) z x h = by_index x (subst (λ q. is_indexed (globals_of s) at q x ≡ true) z.1 h)
  where
    g : Globals
    g = globals_of s

    in_size : (k : ℕ) → 1 ≤ k → k ≤ z.0 → IsOne k (indices g (Some amount))
    in_size k a b = subst (λ ns. IsOne k ns) (sym (indices_are g amount z.0 z.1)) (in_up_to z.0 k a b)

    of_this : (at.this ≡ None) ⊎ ((n : ℕ) × (at.this ≡ Some (pos n)) × (1 ≤ r.this) × (r.this ≤ n)) → option_map_or (λ n. int_le n (pos z.0)) at.this false ≡ true → IsOne r.this (indices g (Some amount))
    of_this (inl e) k = absurd (true≢false (sym k ∙ ap (λ q. option_map_or (λ n. int_le n (pos z.0)) q false) e))
    of_this (inr t) k =
        let l = at_most t.0 z.0 (sym (ap (λ q. option_map_or (λ n. int_le n (pos z.0)) q false) t.1) ∙ k) in
        let below = t.3 in
        in_size r.this t.2 (omega (arith, l, below))

    number_in : (name : Name) (o : Option ℤ) → option_map_or (λ n. is_up_to (pos z.0) n) o false ≡ true → IsOne (option_map_or unsigned_abs o 0) (indices g (Some amount))
    number_in name None k = absurd (true≢false (sym k))
    number_in name (Some n) k =
        let a = at_least_one n (first_so (int_le (pos 1) n) (int_le n (pos z.0)) k) in
        let l = at_most a.0 z.0 (subst (λ y. int_le y (pos z.0) ≡ true) a.1 (second_so (int_le (pos 1) n) (int_le n (pos z.0)) k)) in
        subst (λ y. IsOne (unsigned_abs y) (indices g (Some amount))) (sym a.1) (in_size a.0 a.2 l)

    of_constant : (name : Name) → bound_of at name ≡ None → variable_value r name ≡ None → is_name_index g (pos z.0) name (bound_of at name) ≡ true → IsOne (index_number g r (Some (index.Name name))) (indices g (Some amount))
    of_constant name e f k =
        subst (λ v. IsOne (option_map_or (λ n. n) v (option_map_or unsigned_abs (constant g name) 0)) (indices g (Some amount))) (sym f)
        (number_in name (constant g name) (subst (λ b. is_name_index g (pos z.0) name b ≡ true) e k))

    of_variable : (name : Name) (n i : ℕ) → 1 ≤ i → i ≤ n → (b : Bool) → bound_of at name ≡ (if b then Some (pos n) else None) → variable_value r name ≡ (if b then Some i else None)
        → is_name_index g (pos z.0) name (bound_of at name) ≡ true → IsOne (index_number g r (Some (index.Name name))) (indices g (Some amount))
    of_variable name n i a l true e f k =
        let m = at_most n z.0 (subst (λ b. is_name_index g (pos z.0) name b ≡ true) e k) in
        subst (λ v. IsOne (option_map_or (λ n. n) v (option_map_or unsigned_abs (constant g name) 0)) (indices g (Some amount))) (sym f) (in_size i a (omega (arith, l, m)))
    of_variable name n i a l false e f k = of_constant name e f k

    of_name : (name : Name) → ((at.variable ≡ None) × (r.variable ≡ None)) ⊎ ((x : Name) × (n i : ℕ) × (at.variable ≡ Some (x, pos n)) × (r.variable ≡ Some (x, i)) × (1 ≤ i) × (i ≤ n))
        → is_name_index g (pos z.0) name (bound_of at name) ≡ true → IsOne (index_number g r (Some (index.Name name))) (indices g (Some amount))
    of_name name (inl v) k =
        of_constant name
        (ap (λ v. option_and_then (λ (w : Name × ℤ). if same w.0 name then Some w.1 else None) v) v.0)
        (ap (λ v. option_map_or (λ (w : Name × ℕ). if same w.0 name then Some w.1 else None) v None) v.1) k
    of_name name (inr v) k =
        of_variable name v.1 v.2 v.5 v.6 (same v.0 name)
        (ap (λ v. option_and_then (λ (w : Name × ℤ). if same w.0 name then Some w.1 else None) v) v.3)
        (ap (λ v. option_map_or (λ (w : Name × ℕ). if same w.0 name then Some w.1 else None) v None) v.4) k

    by_index : (x : Option Index) → is_indexed g at (Some (pos z.0)) x ≡ true → IsOne (index_number g r x) (indices g (Some amount))
    by_index None k = absurd (true≢false (sym k))
    by_index (Some (index.Number n)) k =
        in_size n (at_most 1 n (first_so (int_le (pos 1) (pos n)) (int_le (pos n) (pos z.0)) k)) (at_most n z.0 (second_so (int_le (pos 1) (pos n)) (int_le (pos n) (pos z.0)) k))
    by_index (Some (index.Name name)) k = of_name name o.variable k
    by_index (Some index.This) k = of_this o.this k

-- such an index is at most 64
pub index_few : (s : Spec) (at : Scope) (r : Indices) → Reads s at r → (size : Option Amount) → IsFew (globals_of s) size → (x : Option Index) → is_indexed (globals_of s) at (size_number (globals_of s) size) x ≡ true
    → index_number (globals_of s) r x ≤ 64
index_few s at r o size f x h = one_few (globals_of s) size (index_number (globals_of s) r x) f (index_is s at r o size (few_sized (globals_of s) size f) x h)

-- the bound of a quantifier is 1 to 64
pub bound_small : (g : Globals) (bound : Amount) → IsFew g (Some bound) → (1 ≤ many g (Some bound)) × (many g (Some bound) ≤ 64)
bound_small g bound f =
    let is : many g (Some bound) ≡ f.0 = ap (λ z. option_map_or unsigned_abs z 1) f.1 in
    (subst (λ n. 1 ≤ n) (sym is) f.2, subst (λ n. n ≤ 64) (sym is) f.3)
