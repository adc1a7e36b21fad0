-- The numbers of the cells of a world are small.
use Rattle.std.proofs.Common.{◌≡◌, ℕ, zero, suc, ◌+◌, ◌≤◌, Bool, true, false, ◌&&◌, List, [], ◌∷◌, ◌++◌, length, map, filter, flat_map, Option, Some, None, if◌then◌else◌, ℤ, pos, neg_ℤ, int_le, refl, subst, slice_get, arith}
use Rattle.std.specs.List.{All, list_all}
use Rattle.std.specs.Prelude.{nat_le}
use Rattle.std.proofs.lemmas.Bool.Decides.{nat_tests}
use Rattle.std.specs.Bool.{⊤}
use Rattle.std.specs.Option.{option_map_or}
use Rattle.std.specs.Cmp.{first_so, second_so}
use Rattle.std.specs.Cmp.Lexicographic.{pointwise}
use Rattle.std.proofs.lemmas.Int.{ints}
use Rattle.rsml_syntax.specs.declared.syntax.Spec.{Spec}
use Rattle.rsml_syntax.specs.declared.syntax.Decl.{Decl}
use Rattle.rsml_syntax.specs.declared.syntax.Decl.TheVariants as decl
use Rattle.rsml_syntax.specs.declared.syntax.Signed.{Signed}
use Rattle.rsml_syntax.specs.declared.world.World.{World}
use Rattle.rsml_syntax.specs.text.Names.{Name, place_of}
use Rattle.rsml_syntax.specs.rules.Globals.{Known, signed, globals, known_by, known_values, values_of}
use Rattle.rsml_syntax.specs.limits.Thresholds.{type_ends}
use Rattle.rsml_syntax.specs.limits.Previous.{names_previous}
use Rattle.rsml_meaning.specs.Words.{Each}
use Rattle.rsml_meaning.specs.Instances.{globals_of, instances, components}
use Rattle.rsml_meaning.specs.Cells.{InputType, InputCell, is_of, no_type, new_type, type_named, new_cell, cells_of, own_cells, as_previous, previous_cells, cells, initial_number}
use Rattle.rsml_meaning.specs.Worlds.{is_choice, IsWorld}
use Rattle.rsml_ground.specs.Rests.{IsSmall}
use Rattle.rsml_syntax.specs.limits.Checked.{IsChecked}
use Rattle.rsml_syntax.specs.text.Tokens.{greatest_number}
use Rattle.rsml_ground.specs.Truths.{Grounded}
use Rattle.rsml_ground.specs.Grounded.{IsShort, IsGrounded}
use Rattle.rsml_ground.proofs.Values.{has_few_values, few_values}
use Rattle.rsml_ground.proofs.Written.{DeclWritten, decls_written}
use Rattle.macros.proofs.Below.{each_all}

each_append : {A : Type 0} (P : A → Type 0) (xs ys : List A) → Each P xs → Each P ys → Each P (xs ++ ys)
each_append P [] ys a b = b
each_append P (x ∷ xs) ys a b = (a.0, each_append P xs ys a.1 b)

each_flat : {A B : Type 0} (P : A → Type 0) (Q : B → Type 0) (f : A → List B) → ((x : A) → P x → Each Q (f x)) → (xs : List A) → Each P xs → Each Q (flat_map f xs)
each_flat P Q f h [] e = tt
each_flat P Q f h (x ∷ xs) e = each_append Q (f x) (flat_map f xs) (h x e.0) (each_flat P Q f h xs e.1)

each_of : {A B : Type 0} (Q : B → Type 0) (f : A → B) → ((x : A) → Q (f x)) → (xs : List A) → Each Q (map f xs)
each_of Q f h [] = tt
each_of Q f h (x ∷ xs) = (h x, each_of Q f h xs)

each_kept : {A : Type 0} (P : A → Type 0) (p : A → Bool) (xs : List A) → Each P xs → Each P (filter p xs)
each_kept P p [] e = tt
each_kept P p (x ∷ xs) e = by (p x) (each_kept P p xs e.1)
  where
    by : (b : Bool) → Each P (filter p xs) → Each P (if b then x ∷ filter p xs else filter p xs)
    by true h = (e.0, h)
    by false h = h

each_at : {A : Type 0} (P : A → Type 0) (xs : List A) (k : ℕ) (x : A) → Each P xs → slice_get xs k ≡ Some x → P x
each_at P [] k x e h = absurd (let no : ⊥ = cc in no)
each_at P (y ∷ xs) zero x e h = subst P (some_same h) e.0
  where
    some_same : {A : Type 0} {a b : A} → Some a ≡ Some b → a ≡ b
    some_same h = cc
each_at P (y ∷ xs) (suc k) x e h = each_at P xs k x e.1 h

-- Types.

-- a number that a specification can write
abbrev IsSmallEnd : Signed → Type 0
IsSmallEnd n = n.digits ≤ greatest_number

-- the ends of a range are such numbers, and an enumeration has at most so many values
abbrev HasSmallEnds : Decl → Type 0
HasSmallEnds (decl.Range _ low high) = IsSmallEnd low × IsSmallEnd high
HasSmallEnds (decl.Enumeration _ values) = length values ≤ greatest_number
HasSmallEnds _ = Unit {0}

few_is : (n : ℕ) → nat_le n 1000000000 ≡ true → n ≤ 1000000000
few_is n h = grind (arith, nat_tests)

decl_small : (d : Decl) → DeclWritten d → has_few_values d ≡ true → HasSmallEnds d
decl_small (decl.Range name low high) h few = h
decl_small (decl.Enumeration name values) h few = few_is (length values) few
decl_small _ h few = tt

decls_small : (ds : List Decl) → Each DeclWritten ds → list_all has_few_values ds ≡ true → Each HasSmallEnds ds
decls_small [] h few = tt
decls_small (d ∷ ds) h few =
    (decl_small d h.0 (first_so (has_few_values d) (list_all has_few_values ds) few), decls_small ds h.1 (second_so (has_few_values d) (list_all has_few_values ds) few))

small_ends : (s : Spec) → IsChecked s → IsShort s → Each HasSmallEnds s.decls
small_ends s checked short = decls_small s.decls (decls_written s checked.well_formed) (few_values s short)

-- the ends of a type are small
abbrev SmallEnds : ℤ × ℤ → Type 0
SmallEnds ends = IsSmall ends.0 × IsSmall ends.1

abbrev SmallType : InputType → Type 0
SmallType t = IsSmall t.low × IsSmall t.high

abbrev SmallKnown : Known → Type 0
SmallKnown k = HasSmallEnds k.decl

signed_small : (n : Signed) → IsSmallEnd n → IsSmall (signed n)
signed_small n h = by n.minus
  where
    by : (b : Bool) → IsSmall (if b then neg_ℤ (pos n.digits) else pos n.digits)
    by true = grind (arith, ints)
    by false = grind (arith, ints)

ends_small : (k : Known) → SmallKnown k → SmallEnds (type_ends k)
ends_small k h = by k.decl h
  where
    by : (d : Decl) → HasSmallEnds d → SmallEnds (type_ends (record { decl = d; value = None }))
    by (decl.Range name low high) h = (signed_small low h.0, signed_small high h.1)
    by (decl.Enumeration name values) h = (refl, grind (arith, ints))
    by _ h = (refl, refl)

values_known : (d : Decl) (n : ℕ) (values : List Name) → HasSmallEnds d → Each SmallKnown (known_values d n values)
values_known d n [] h = tt
values_known d n (v ∷ values) h = (h, values_known d (n + 1) values h)

decl_known : (d : Decl) → HasSmallEnds d → Each SmallKnown (known_by d)
decl_known d h = (h, values_known d 0 (values_of d) h)

all_known : (ds : List Decl) → Each HasSmallEnds ds → Each SmallKnown (globals ds).known
all_known ds e = each_flat HasSmallEnds SmallKnown known_by decl_known ds e

type_small : (ds : List Decl) → Each HasSmallEnds ds → (name : Name) → SmallType (type_named (globals ds) name)
type_small ds e name = by_place (place_of name (globals ds).names)
  where
    by_known : (o : Option Known) → ((k : Known) → o ≡ Some k → SmallKnown k)
        → SmallType (option_map_or (λ k. new_type (type_ends k) (values_of k.decl)) o no_type)
    by_known None h = (refl, refl)
    by_known (Some k) h = ends_small k (h k refl)

    by_place : (o : Option ℕ) → SmallType (option_map_or (λ k. new_type (type_ends k) (values_of k.decl)) (option_map_or (λ place. slice_get (globals ds).known place) o None) no_type)
    by_place None = (refl, refl)
    by_place (Some place) = by_known (slice_get (globals ds).known place) (λ k h. each_at SmallKnown (globals ds).known place k (all_known ds e) h)

-- Cells.

abbrev SmallCell : InputCell → Type 0
SmallCell c = SmallType c.numbers

decl_cells : (ds : List Decl) → Each HasSmallEnds ds → (d : Decl) → ⊤ → Each SmallCell (cells_of (globals ds) d)
decl_cells ds e (decl.Input name size kind initial) h =
    each_of SmallCell (new_cell (type_named (globals ds) kind) (initial_number (globals ds) initial)) (λ i. type_small ds e kind) (instances (globals ds) name size)
decl_cells ds e _ h = tt

anything : {A : Type 0} (xs : List A) → Each (λ x. ⊤) xs
anything [] = tt
anything (x ∷ xs) = (tt, anything xs)

each_again : (xs : List InputCell) → Each SmallCell xs → Each SmallCell (map as_previous xs)
each_again [] e = tt
each_again (x ∷ xs) e = (e.0, each_again xs e.1)

cells_small : (s : Spec) → Each HasSmallEnds s.decls → Each SmallCell (cells s)
cells_small s e =
    let own : Each SmallCell (own_cells s) = each_flat (λ d. ⊤) SmallCell (cells_of (globals_of s)) (decl_cells s.decls e) s.decls (anything s.decls) in
    each_append SmallCell (own_cells s) (previous_cells s) own
    (each_again (filter (λ c. names_previous s c.input.name) (own_cells s)) (each_kept SmallCell (λ c. names_previous s c.input.name) (own_cells s) own))

-- Worlds.

between : (low high n : ℤ) → IsSmall low → IsSmall high → int_le low n && int_le n high ≡ true → IsSmall n
between low high n l h b = grind (arith, ints, first_so (int_le (neg_ℤ (pos 1000000000)) low) (int_le low (pos 1000000000)) l, second_so (int_le (neg_ℤ (pos 1000000000)) high) (int_le high (pos 1000000000)) h, first_so (int_le low n) (int_le n high) b, second_so (int_le low n) (int_le n high) b)

numbers_small : (cs : List InputCell) (ns : List ℤ) → Each SmallCell cs → pointwise (λ c n. is_of c.numbers n) cs ns ≡ true → Each IsSmall ns
numbers_small [] [] e p = tt
numbers_small [] (n ∷ ns) e p = absurd (let no : ⊥ = cc in no)
numbers_small (c ∷ cs) [] e p = absurd (let no : ⊥ = cc in no)
numbers_small (c ∷ cs) (n ∷ ns) e p = (
  between c.numbers.low c.numbers.high n e.0.0 e.0.1 (first_so (is_of c.numbers n) (pointwise (λ c n. is_of c.numbers n) cs ns) p),
  numbers_small cs ns e.1 (second_so (is_of c.numbers n) (pointwise (λ c n. is_of c.numbers n) cs ns) p),
)

world_small : (s : Spec) (w : World) → Each HasSmallEnds s.decls → IsWorld s w → All IsSmall w.cells
world_small s w h is =
    each_all IsSmall w.cells (numbers_small (cells s) w.cells (cells_small s h)
    (second_so (pointwise is_choice (components s) w.choices) (pointwise (λ c n. is_of c.numbers n) (cells s) w.cells) is))

same_many : {A B : Type 0} (f : A → B → Bool) (xs : List A) (ys : List B) → pointwise f xs ys ≡ true → length ys ≡ length xs
same_many f [] [] p = refl
same_many f [] (y ∷ ys) p = absurd (let no : ⊥ = cc in no)
same_many f (x ∷ xs) [] p = absurd (let no : ⊥ = cc in no)
same_many f (x ∷ xs) (y ∷ ys) p = omega (arith, same_many f xs ys (second_so (f x y) (pointwise f xs ys) p))

-- a world has a number for each cell
pub world_cells : (s : Spec) (w : World) → IsWorld s w → length w.cells ≡ length (cells s)
world_cells s w is =
    same_many (λ c n. is_of c.numbers n) (cells s) w.cells
    (second_so (pointwise is_choice (components s) w.choices) (pointwise (λ c n. is_of c.numbers n) (cells s) w.cells) is)

-- the numbers of the cells of a world are small
pub small_cells : (g : Grounded) → IsGrounded g → (w : World) → IsWorld g.spec w → All IsSmall w.cells
small_cells g is w world = world_small g.spec w (small_ends g.spec is.checked is.short) world
