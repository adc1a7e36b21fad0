-- Lists in which at most one item passes a test, and the cells of one input.
use Rattle.std.proofs.Common.{◌≡◌, ℕ, zero, suc, ◌<◌, Bool, true, false, not, ◌&&◌, List, [], ◌∷◌, ◌++◌, map, flat_map, filter, cond, Option, Some, None, ◌||◌, nat_eq, refl, sym, ap, ◌∙◌, subst, true≢false, append_assoc, append-nil, arith}
use Rattle.std.specs.Prelude.{⊤}
use Rattle.std.specs.Cmp.{first_so, second_so}
use Rattle.std.proofs.lemmas.Bool.Decides.{nat_tests}
use Rattle.std.proofs.lemmas.Grind.{flat_map-append}
use Rattle.rsml_syntax.specs.declared.syntax.Spec.{Spec}
use Rattle.rsml_syntax.specs.declared.syntax.Decl.{Decl}
use Rattle.rsml_syntax.specs.declared.syntax.Decl.TheVariants as decl
use Rattle.rsml_syntax.specs.declared.syntax.Amount.{Amount}
use Rattle.rsml_syntax.specs.limits.Checked.{IsChecked}
use Rattle.rsml_syntax.specs.limits.Previous.{names_previous}
use Rattle.rsml_syntax.specs.text.Names.{Name, same}
use Rattle.rsml_syntax.specs.rules.Globals.{Globals, name_of, indices, many, up_to}
use Rattle.rsml_meaning.specs.Words.{Instance, Each, at, same_instance}
use Rattle.rsml_meaning.specs.Instances.{globals_of}
use Rattle.rsml_meaning.specs.Cells.{InputCell, cells, own_cells, previous_cells, as_previous}
use Rattle.rsml_meaning.proofs.Same.{name_same, nat_same}
use Rattle.rsml_meaning.proofs.Lists.{each_append, is_false}
use Rattle.state_arrays.specs.Arrays.{has_name}
use Rattle.state_arrays.specs.Made.{inputs_of}
use Rattle.state_arrays.proofs.CellLemmas.{all_inputs, own_each}
use Rattle.state_arrays.proofs.MadeLemmas.{input_arrays_by}

-- after one that passes no other does
abbrev pub Once : {A : Type 0} → (A → Bool) → List A → Type 0
Once t [] = ⊤
Once t (x ∷ xs) = (t x ≡ true → Each (λ y. t y ≡ false) xs) × Once t xs

once_front : {A : Type 0} (t : A → Bool) (xs ys : List A) → Once t xs → Each (λ y. t y ≡ false) ys → Once t ys → Once t (xs ++ ys)
once_front t [] ys h n o = o
once_front t (x ∷ xs) ys h n o = (λ e. each_append (λ y. t y ≡ false) xs ys (h.0 e) n, once_front t xs ys h.1 n o)

once_none : {A : Type 0} (t : A → Bool) (xs : List A) → Each (λ y. t y ≡ false) xs → Once t xs
once_none t [] h = tt
once_none t (x ∷ xs) h = (λ e. h.1, once_none t xs h.1)

once_back : {A : Type 0} (t : A → Bool) (xs ys : List A) → Each (λ y. t y ≡ false) xs → Once t ys → Once t (xs ++ ys)
once_back t [] ys h o = o
once_back t (x ∷ xs) ys h o = (λ e. absurd (true≢false (sym e ∙ h.0)), once_back t xs ys h.1 o)

each_less : {A : Type 0} (t u : A → Bool) (xs : List A) → ((x : A) → u x ≡ true → t x ≡ true) → Each (λ y. t y ≡ false) xs → Each (λ y. u y ≡ false) xs
each_less t u [] f h = tt
each_less t u (x ∷ xs) f h = (is_false (u x) (λ e. true≢false (sym (f x e) ∙ h.0)), each_less t u xs f h.1)

once_less : {A : Type 0} (t u : A → Bool) (xs : List A) → ((x : A) → u x ≡ true → t x ≡ true) → Once t xs → Once u xs
once_less t u [] f h = tt
once_less t u (x ∷ xs) f h = (λ e. each_less t u xs f (h.0 (f x e)), once_less t u xs f h.1)

each_of_map : {A B : Type 0} (t : B → Bool) (f : A → B) (xs : List A) → Each (λ y. t y ≡ false) (map f xs) → Each (λ x. t (f x) ≡ false) xs
each_of_map t f [] h = tt
each_of_map t f (x ∷ xs) h = (h.0, each_of_map t f xs h.1)

once_of_map : {A B : Type 0} (t : B → Bool) (f : A → B) (xs : List A) → Once t (map f xs) → Once (λ x. t (f x)) xs
once_of_map t f [] h = tt
once_of_map t f (x ∷ xs) h = (λ e. each_of_map t f xs (h.0 e), once_of_map t f xs h.1)

each_to_map : {A B : Type 0} (t : B → Bool) (f : A → B) (xs : List A) → Each (λ x. t (f x) ≡ false) xs → Each (λ y. t y ≡ false) (map f xs)
each_to_map t f [] h = tt
each_to_map t f (x ∷ xs) h = (h.0, each_to_map t f xs h.1)

once_map : {A B : Type 0} (t : B → Bool) (f : A → B) (xs : List A) → Once (λ x. t (f x)) xs → Once t (map f xs)
once_map t f [] h = tt
once_map t f (x ∷ xs) h = (λ e. each_to_map t f xs (h.0 e), once_map t f xs h.1)

each_filtered : {A : Type 0} (t k : A → Bool) (xs : List A) → Each (λ y. t y ≡ false) xs → Each (λ y. t y ≡ false) (filter k xs)
each_filtered t k [] h = tt
each_filtered {A} t k (x ∷ xs) h = by (k x) (each_filtered t k xs h.1)
  where
    by : (b : Bool) → Each (λ y. t y ≡ false) (filter k xs) → Each (λ y. t y ≡ false) (cond b (x ∷ filter k xs) (filter k xs))
    by true r = (h.0, r)
    by false r = r

once_filtered : {A : Type 0} (t k : A → Bool) (xs : List A) → Once t xs → Once t (filter k xs)
once_filtered t k [] h = tt
once_filtered {A} t k (x ∷ xs) h = by (k x) (once_filtered t k xs h.1)
  where
    by : (b : Bool) → Once t (filter k xs) → Once t (cond b (x ∷ filter k xs) (filter k xs))
    by true r = (λ e. each_filtered t k xs (h.0 e), r)
    by false r = r

-- Indices.

above_all : (k n : ℕ) → n < k → Each (λ i. nat_eq k i ≡ false) (up_to n)
above_all k zero h = tt
above_all k (suc n) h =
    each_append (λ i. nat_eq k i ≡ false) (up_to n) (suc n ∷ []) (above_all k n (omega (arith, h))) (let no : nat_eq k (suc n) ≡ false = grind (arith, nat_tests) in no, tt)

once_up_to : (k n : ℕ) → Once (nat_eq k) (up_to n)
once_up_to k zero = tt
once_up_to k (suc n) = by (nat_eq k (suc n)) refl (once_up_to k n)
  where
    by : (b : Bool) → nat_eq k (suc n) ≡ b → Once (nat_eq k) (up_to n) → Once (nat_eq k) (up_to n ++ (suc n ∷ []))
    by true e o = let same_number = nat_same k (suc n) e in once_back (nat_eq k) (up_to n) (suc n ∷ []) (above_all k n (omega (arith, same_number))) (λ q. tt, tt)
    by false e o = once_front (nat_eq k) (up_to n) (suc n ∷ []) o (e, tt) (λ q. tt, tt)

once_indices : (k : ℕ) (g : Globals) (size : Option Amount) → Once (nat_eq k) (indices g size)
once_indices k g None = (λ q. tt, tt)
once_indices k g (Some amount) = once_up_to k (many g (Some amount))

-- Instances.

once_named : (j : Instance) (name : Name) (is : List ℕ) → Once (nat_eq j.index) is → Once (same_instance j) (map (at name) is)
once_named j name is h = once_map (same_instance j) (at name) is (once_less (nat_eq j.index) (λ i. same_instance j (at name i)) is (λ i e. second_so (same j.name name) (nat_eq j.index i) e) h)

none_named : (j : Instance) (name : Name) (is : List ℕ) → same j.name name ≡ false → Each (λ y. same_instance j y ≡ false) (map (at name) is)
none_named j name [] h = tt
none_named j name (i ∷ is) h = (is_false (same_instance j (at name i)) (λ e. true≢false (sym (first_so (same j.name name) (nat_eq j.index i) e) ∙ h)), none_named j name is h)

or_first : (a b : Bool) → (a || b) ≡ false → a ≡ false
or_first true b h = absurd (true≢false h)
or_first false b h = refl

or_second : (a b : Bool) → (a || b) ≡ false → b ≡ false
or_second true b h = absurd (true≢false h)
or_second false b h = h

none_has : (j : Instance) (xs : List Instance) → has_name xs j.name ≡ false → Each (λ y. same_instance j y ≡ false) xs
none_has j [] h = tt
none_has j (x ∷ xs) h = (
  is_false (same_instance j x) (λ e. true≢false (sym (first_so (same j.name x.name) (nat_eq j.index x.index) e) ∙ or_first (same j.name x.name) (has_name xs j.name) h)),
  none_has j xs (or_second (same j.name x.name) (has_name xs j.name) h),
)

module _ (g : Globals) (j : Instance) where
  once_decl : (d : Decl) → Once (same_instance j) (inputs_of g d)
  once_decl (decl.Input name size kind initial) = once_named j name (indices g size) (once_indices j.index g size)
  once_decl (decl.Event name size) = tt
  once_decl (decl.Enumeration name values) = tt
  once_decl (decl.Range name low high) = tt
  once_decl (decl.Constant name value) = tt
  once_decl (decl.Macro name size rows) = tt
  once_decl (decl.Function name size cases) = tt
  once_decl (decl.Receive name size inputs raised) = tt
  once_decl (decl.Send name size fields cases) = tt

  none_decl : (d : Decl) → same j.name (name_of d) ≡ false → Each (λ y. same_instance j y ≡ false) (inputs_of g d)
  none_decl (decl.Input name size kind initial) h = none_named j name (indices g size) h
  none_decl (decl.Event name size) h = tt
  none_decl (decl.Enumeration name values) h = tt
  none_decl (decl.Range name low high) h = tt
  none_decl (decl.Constant name value) h = tt
  none_decl (decl.Macro name size rows) h = tt
  none_decl (decl.Function name size cases) h = tt
  none_decl (decl.Receive name size inputs raised) h = tt
  none_decl (decl.Send name size fields cases) h = tt

  once_step : (xs : List Instance) (d : Decl) → has_name xs (name_of d) ≡ false → Once (same_instance j) xs → Once (same_instance j) (xs ++ inputs_of g d)
  once_step xs d new o = by (same j.name (name_of d)) refl
    where
      by : (b : Bool) → same j.name (name_of d) ≡ b → Once (same_instance j) (xs ++ inputs_of g d)
      by true e = once_back (same_instance j) xs (inputs_of g d) (none_has j xs (ap (has_name xs) (name_same j.name (name_of d) e) ∙ new)) (once_decl d)
      by false e = once_front (same_instance j) xs (inputs_of g d) o (none_decl d e) (once_decl d)

  -- declarations before these may be followed by them
  abbrev AreNew : List Decl → List Decl → Type 0
  AreNew before after = (b : List Decl) (d : Decl) (a : List Decl) → before ++ after ≡ b ++ (d ∷ a) → has_name (flat_map (inputs_of g) b) (name_of d) ≡ false

  once_from : (before after : List Decl) → AreNew before after → Once (same_instance j) (flat_map (inputs_of g) before) → Once (same_instance j) (flat_map (inputs_of g) (before ++ after))
  once_from before [] n o = subst (λ ds. Once (same_instance j) (flat_map (inputs_of g) ds)) (sym (append-nil before)) o
  once_from before (d ∷ ds) n o =
      subst (λ es. Once (same_instance j) (flat_map (inputs_of g) es)) (append_assoc before (d ∷ []) ds)
      (once_from (before ++ (d ∷ [])) ds (λ b e a q. n b e a (sym (append_assoc before (d ∷ []) ds) ∙ q))
      (subst (Once (same_instance j)) (sym (flat_map-append (inputs_of g) before (d ∷ []) ∙ ap (λ (xs : List Instance). flat_map (inputs_of g) before ++ xs) (append-nil (inputs_of g d))))
      (once_step (flat_map (inputs_of g) before) d (n before d ds refl) o)))

-- Cells.

module _ (s : Spec) (checked : IsChecked s) (j : Instance) where
  once_input : Once (same_instance j) (flat_map (inputs_of (globals_of s)) s.decls)
  once_input =
      once_from (globals_of s) j [] s.decls (λ b d a q. let h = input_arrays_by s s s.decls (globals_of s) refl refl refl checked b d a q in h.new) tt

  once_own : Once (λ (c : InputCell). same_instance j c.input) (own_cells s)
  once_own = once_of_map (same_instance j) (λ (c : InputCell). c.input) (own_cells s) (subst (Once (same_instance j)) (sym (all_inputs s s.decls)) once_input)

  pub once_cell : Once (λ (c : InputCell). not c.previous && same_instance j c.input) (cells s)
  once_cell =
      once_front (λ (c : InputCell). not c.previous && same_instance j c.input) (own_cells s) (previous_cells s)
      (once_less (λ (c : InputCell). same_instance j c.input) (λ (c : InputCell). not c.previous && same_instance j c.input) (own_cells s) (λ c e. second_so (not c.previous) (same_instance j c.input) e) once_own)
      none (once_none (λ (c : InputCell). not c.previous && same_instance j c.input) (previous_cells s) none)
    where
      none : Each (λ (c : InputCell). (not c.previous && same_instance j c.input) ≡ false) (previous_cells s)
      none = each_to_map (λ (c : InputCell). not c.previous && same_instance j c.input) as_previous (filter (λ c. names_previous s c.input.name) (own_cells s)) (always (filter (λ c. names_previous s c.input.name) (own_cells s)))
        where
          always : (cs : List InputCell) → Each (λ (c : InputCell). false ≡ false) cs
          always [] = tt
          always (c ∷ cs) = (refl, always cs)

  pub once_previous : Once (λ (c : InputCell). c.previous && same_instance j c.input) (cells s)
  once_previous =
      once_back (λ (c : InputCell). c.previous && same_instance j c.input) (own_cells s) (previous_cells s) (none (own_cells s) (own_each s))
      (once_map (λ (c : InputCell). c.previous && same_instance j c.input) as_previous (filter (λ c. names_previous s c.input.name) (own_cells s))
      (once_filtered (λ (c : InputCell). same_instance j c.input) (λ c. names_previous s c.input.name) (own_cells s) once_own))
    where
      none : (cs : List InputCell) → Each (λ c. c.previous ≡ false) cs → Each (λ (c : InputCell). (c.previous && same_instance j c.input) ≡ false) cs
      none [] h = tt
      none (c ∷ cs) h = (ap (λ (b : Bool). b && same_instance j c.input) h.0, none cs h.1)
