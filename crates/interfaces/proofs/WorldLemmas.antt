-- What a message latches leaves a world.
use Rattle.std.proofs.Common.{◌≡◌, Bool, true, false, not, List, [], ◌∷◌, map, filter, Option, Some, None, zip, ℤ, pos, if◌then◌else◌, unwrap_or, inl, inr, refl, sym, ap, ◌∙◌, subst, true≢false, length, suc}
use Rattle.std.specs.Cmp.{first_so, second_so}
use Rattle.std.specs.Cmp.Lexicographic.{pointwise}
use Rattle.rsml_syntax.specs.declared.syntax.Spec.{Spec}
use Rattle.rsml_syntax.specs.declared.syntax.Decl.{Decl}
use Rattle.rsml_syntax.specs.declared.syntax.Decl.TheVariants as decl
use Rattle.rsml_syntax.specs.declared.world.World.{World}
use Rattle.rsml_syntax.specs.limits.Previous.{names_previous}
use Rattle.rsml_meaning.specs.Words.{Each, IsOne, Instance, same_instance, has, first_some}
use Rattle.rsml_meaning.specs.Instances.{components, globals_of, instances}
use Rattle.rsml_meaning.specs.Cells.{InputCell, cells, own_cells, previous_cells, cells_of, as_previous, new_cell, type_named, initial_number, input_type, is_of}
use Rattle.rsml_meaning.specs.Worlds.{IsWorld, is_choice, is_cell, held, cell}
use Rattle.rsml_meaning.specs.EventLines.{Message}
use Rattle.rsml_meaning.specs.Runs.{number_for, told, latched_cell, latched}
use Rattle.rsml_meaning.proofs.Same.{instance_same, instance_itself}
use Rattle.rsml_meaning.specs.Scoped.{WellScoped}
use Rattle.rsml_meaning.proofs.Lists.{both, each_append, each_flat_map, each_map, each_more, each_filter, each_one, each_ones, one_front}
use Rattle.interfaces.specs.Writes.{AreTyped}

abbrev fits : InputCell → ℤ → Bool
fits c n = is_of c.numbers n

choices_are : (s : Spec) (w : World) → IsWorld s w → pointwise is_choice (components s) w.choices ≡ true
choices_are s w h = first_so (pointwise is_choice (components s) w.choices) (pointwise fits (cells s) w.cells) h

pub cells_are : (s : Spec) (w : World) → IsWorld s w → pointwise fits (cells s) w.cells ≡ true
cells_are s w h = second_so (pointwise is_choice (components s) w.choices) (pointwise fits (cells s) w.cells) h

abbrev IsFit : Spec → Instance × ℤ → Type 0
IsFit s f = is_of (input_type (globals_of s) f.0.name) f.1 ≡ true

pub typed_fit : (s : Spec) (xs : List Instance) (ns : List ℤ) → AreTyped s xs ns → Each (IsFit s) (zip xs ns)
typed_fit s [] [] h = tt
typed_fit s [] (n ∷ ns) h = absurd h
typed_fit s (x ∷ xs) [] h = absurd h
typed_fit s (x ∷ xs) (n ∷ ns) h = (h.0, typed_fit s xs ns h.1)

pub typed_long : (s : Spec) (xs : List Instance) (ns : List ℤ) → AreTyped s xs ns → length ns ≡ length xs
typed_long s [] [] h = refl
typed_long s [] (n ∷ ns) h = absurd h
typed_long s (x ∷ xs) [] h = absurd h
typed_long s (x ∷ xs) (n ∷ ns) h = ap suc (typed_long s xs ns h.1)

pub full_cells : (cs : List InputCell) (ns : List ℤ) → pointwise fits cs ns ≡ true → length ns ≡ length cs
full_cells [] [] h = refl
full_cells [] (n ∷ ns) h = absurd (true≢false (sym h))
full_cells (c ∷ cs) [] h = absurd (true≢false (sym h))
full_cells (c ∷ cs) (n ∷ ns) h = ap suc (full_cells cs ns (second_so (fits c n) (pointwise fits cs ns) h))

-- The first that there is.

abbrev or_else : {B : Type 0} → Option B → Option B → Option B
or_else o rest = elim o [ Some y ↦ Some y | None ↦ rest ]

found_first : {A B : Type 0} (f : A → Option B) (P : B → Type 0) (d : B) (xs : List A) → ((x : A) (y : B) → IsOne x xs → f x ≡ Some y → P y) → (first_some f xs ≡ None → P d) → P (unwrap_or (first_some f xs) d)
found_first f P d [] h k = k refl
found_first {A} {B} f P d (x ∷ xs) h k = by_first (f x) refl k (found_first f P d xs (λ y z m. h y z (inr m)))
  where
    by_first : (o : Option B) → f x ≡ o → (or_else o (first_some f xs) ≡ None → P d) → ((first_some f xs ≡ None → P d) → P (unwrap_or (first_some f xs) d))
        → P (unwrap_or (or_else o (first_some f xs)) d)
    by_first (Some y) e k rest = h x y (inl refl) e
    by_first None e k rest = rest k

split_none : {B : Type 0} (o rest : Option B) → or_else o rest ≡ None → (o ≡ None) × (rest ≡ None)
split_none (Some y) rest e = cc
split_none None rest e = (refl, e)

none_found : {A B : Type 0} (f : A → Option B) (xs : List A) (x : A) → IsOne x xs → first_some f xs ≡ None → f x ≡ None
none_found f [] x m h = absurd m
none_found f (y ∷ ys) x (inl e) h = ap f e ∙ (split_none (f y) (first_some f ys) h).0
none_found f (y ∷ ys) x (inr m) h = none_found f ys x m (split_none (f y) (first_some f ys) h).1

-- Cells with their numbers.

beside_cell : (cs : List InputCell) (ns : List ℤ) → pointwise fits cs ns ≡ true → (c : InputCell) → IsOne c cs → (n : ℤ) × IsOne (c, n) (zip cs ns)
beside_cell [] ns h c m = absurd m
beside_cell (d ∷ cs) [] h c m = absurd (true≢false (sym h))
beside_cell (d ∷ cs) (n ∷ ns) h c (inl e) = (n, inl (λ i. (e i, n)))
beside_cell (d ∷ cs) (n ∷ ns) h c (inr m) = let r = beside_cell cs ns (second_so (fits d n) (pointwise fits cs ns) h) c m in (r.0, inr r.1)

-- What is known of a cell with its number.
abbrev Fits : List InputCell → InputCell × ℤ → Type 0
Fits all c = IsOne c.0 all × (fits c.0 c.1 ≡ true)

each_fits : (all cs : List InputCell) (ns : List ℤ) → ((c : InputCell) → IsOne c cs → IsOne c all) → pointwise fits cs ns ≡ true → Each (Fits all) (zip cs ns)
each_fits all [] ns f h = tt
each_fits all (c ∷ cs) [] f h = tt
each_fits all (c ∷ cs) (n ∷ ns) f h =
    ((f c (inl refl), first_so (fits c n) (pointwise fits cs ns) h), each_fits all cs ns (λ d m. f d (inr m)) (second_so (fits c n) (pointwise fits cs ns) h))

all_change : (change : InputCell × ℤ → ℤ) (cs : List InputCell) (ns : List ℤ) → ((c : InputCell) (n : ℤ) → IsOne c cs → fits c n ≡ true → fits c (change (c, n)) ≡ true) → pointwise fits cs ns ≡ true
    → pointwise fits cs (map change (zip cs ns)) ≡ true
all_change change [] [] f h = refl
all_change change (c ∷ cs) (n ∷ ns) f h =
    both (fits c (change (c, n))) (pointwise fits cs (map change (zip cs ns))) (f c n (inl refl) (first_so (fits c n) (pointwise fits cs ns) h))
    (all_change change cs ns (λ d k m. f d k (inr m)) (second_so (fits c n) (pointwise fits cs ns) h))
all_change change [] (n ∷ ns) f h = absurd (true≢false (sym h))
all_change change (c ∷ cs) [] f h = absurd (true≢false (sym h))

-- The cell of an input, for a cell or a previous cell.
record HasOwn (s : Spec) (c : InputCell) : Type 0 where
  own : InputCell
  among : IsOne own (cells s)
  plain : own.previous ≡ false
  is : own.input ≡ c.input

each_own : (s : Spec) → Each (λ c. c.previous ≡ false) (own_cells s)
each_own s = each_flat_map (λ c. c.previous ≡ false) (cells_of (globals_of s)) s.decls of_decl
  where
    of_decl : (d : Decl) → IsOne d s.decls → Each (λ c. c.previous ≡ false) (cells_of (globals_of s) d)
    of_decl (decl.Input name size kind initial) m =
        each_map (λ c. c.previous ≡ false) (new_cell (type_named (globals_of s) kind) (initial_number (globals_of s) initial)) (instances (globals_of s) name size) (λ i. refl)
    of_decl _ m = tt

each_has_own : (s : Spec) → Each (HasOwn s) (cells s)
each_has_own s =
    let mine = each_ones (λ c. IsOne c (own_cells s) × (c.previous ≡ false)) (own_cells s) (λ c m. (m, each_one (λ c. c.previous ≡ false) (own_cells s) c (each_own s) m)) in
    each_append (HasOwn s) (own_cells s) (previous_cells s)
    (each_more (λ c. IsOne c (own_cells s) × (c.previous ≡ false)) (HasOwn s) (λ c p. record { own = c; among = one_front c (own_cells s) (previous_cells s) p.0; plain = p.1; is = refl }) (own_cells s) mine)
    (each_of_map (filter (λ c. names_previous s c.input.name) (own_cells s))
    (each_more (λ c. (IsOne c (own_cells s) × (c.previous ≡ false)) × (names_previous s c.input.name ≡ true)) (λ c. IsOne c (own_cells s) × (c.previous ≡ false)) (λ c p. p.0)
    (filter (λ c. names_previous s c.input.name) (own_cells s))
    (each_filter (λ c. IsOne c (own_cells s) × (c.previous ≡ false)) (λ c. names_previous s c.input.name) (own_cells s) mine)))
  where
    each_of_map : (cs : List InputCell) → Each (λ c. IsOne c (own_cells s) × (c.previous ≡ false)) cs → Each (HasOwn s) (map as_previous cs)
    each_of_map [] h = tt
    each_of_map (c ∷ cs) h = (record { own = c; among = one_front c (own_cells s) (previous_cells s) h.0.0; plain = h.0.1; is = refl }, each_of_map cs h.1)

-- What is latched.

module _ (s : Spec) (scoped : WellScoped s) (w : World) (is_world : IsWorld s w) where
  -- cells of one input have one type
  one_type : (c d : InputCell) → IsOne c (cells s) → IsOne d (cells s) → d.input ≡ c.input → d.numbers ≡ c.numbers
  one_type c d m k e =
      each_one (λ c. c.numbers ≡ input_type (globals_of s) c.input.name) (cells s) d scoped.types k ∙ ap (λ z. input_type (globals_of s) z.name) e
      ∙ sym (each_one (λ c. c.numbers ≡ input_type (globals_of s) c.input.name) (cells s) c scoped.types m)

  held_is : (input : Instance) (d : InputCell) (n y : ℤ) → held false input (d, n) ≡ Some y → (d.input ≡ input) × (n ≡ y)
  held_is input d n y h = by_test (is_cell false input d) refl h
    where
      by_test : (b : Bool) → is_cell false input d ≡ b → (if b then Some n else None) ≡ Some y → (d.input ≡ input) × (n ≡ y)
      by_test true e k = (instance_same d.input input (second_so (not d.previous) (same_instance d.input input) e), let same : n ≡ y = cc in same)
      by_test false e k = cc

  own_held : (input : Instance) (d : InputCell) (n : ℤ) → d.previous ≡ false → d.input ≡ input → held false input (d, n) ≡ None → ⊥
  own_held input d n p e h = by_test (is_cell false input d) (both (not d.previous) (same_instance d.input input) (ap not p) (subst (λ z. same_instance d.input z ≡ true) e (instance_itself d.input))) h
    where
      by_test : (b : Bool) → b ≡ true → (if b then Some n else None) ≡ None → ⊥
      by_test true q k = cc
      by_test false q k = true≢false (sym q)

  cell_fits : (c : InputCell) → IsOne c (cells s) → fits c (cell s w false c.input) ≡ true
  cell_fits c m =
      let are = cells_are s w is_world in
      let every = each_fits (cells s) (cells s) w.cells (λ d k. k) are in
      found_first (held false c.input) (λ n. fits c n ≡ true) (pos 0) (zip (cells s) w.cells)
      (λ x y k h. let p = each_one (Fits (cells s)) (zip (cells s) w.cells) x every k in let q = held_is c.input x.0 x.1 y h in
      subst (λ n. fits c n ≡ true) q.1 (subst (λ t. is_of t x.1 ≡ true) (one_type c x.0 m p.0 q.0) p.1))
      (λ none. let o = each_one (HasOwn s) (cells s) c (each_has_own s) m in let n = beside_cell (cells s) w.cells are o.own o.among in
      absurd (own_held c.input o.own n.0 o.plain o.is (none_found (held false c.input) (zip (cells s) w.cells) (o.own, n.0) n.1 none)))

  told_fits : (message : Message) → Each (IsFit s) (zip message.receive.inputs message.numbers) → (c : InputCell) (n : ℤ) → IsOne c (cells s) → fits c n ≡ true → fits c (unwrap_or (told message c.input) n) ≡ true
  told_fits message t c n m h =
      found_first (number_for c.input) (λ k. fits c k ≡ true) n (zip message.receive.inputs message.numbers)
      (λ x y k e. by_test x y (each_one (IsFit s) (zip message.receive.inputs message.numbers) x t k) (same_instance c.input x.0) refl e)
      (λ none. h)
    where
      by_test : (x : Instance × ℤ) (y : ℤ) → IsFit s x → (b : Bool) → same_instance c.input x.0 ≡ b → (if b then Some x.1 else None) ≡ Some y → fits c y ≡ true
      by_test x y f true e k =
          let same : x.1 ≡ y = cc in
          let of = each_one (λ c. c.numbers ≡ input_type (globals_of s) c.input.name) (cells s) c scoped.types m ∙ ap (λ z. input_type (globals_of s) z.name) (instance_same c.input x.0 e) in
          subst (λ n. fits c n ≡ true) same (subst (λ z. is_of z x.1 ≡ true) (sym of) f)
      by_test x y f false e k = cc

  latched_fits : (message : Message) → Each (IsFit s) (zip message.receive.inputs message.numbers) → (c : InputCell) (n : ℤ) → IsOne c (cells s) → fits c n ≡ true → fits c (latched_cell s w message (c, n)) ≡ true
  latched_fits message t c n m h = by_kind c.previous
    where
      by_list : (b : Bool) → fits c (if b then cell s w false c.input else n) ≡ true
      by_list true = cell_fits c m
      by_list false = h

      by_kind : (b : Bool) → fits c (elim b [
        | true ↦ if has message.receive.inputs c.input then cell s w false c.input else n
        | false ↦ unwrap_or (told message c.input) n
      ]) ≡ true
      by_kind true = by_list (has message.receive.inputs c.input)
      by_kind false = told_fits message t c n m h

  pub latched_is_world : (message : Message) → Each (IsFit s) (zip message.receive.inputs message.numbers) → IsWorld s (latched s w message)
  latched_is_world message t =
      both (pointwise is_choice (components s) w.choices) (pointwise fits (cells s) (latched s w message).cells) (choices_are s w is_world)
      (all_change (latched_cell s w message) (cells s) w.cells (latched_fits message t) (cells_are s w is_world))
