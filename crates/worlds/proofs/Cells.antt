-- What the cells of declarations may hold, in the order of the cells.
use Rattle.std.proofs.Common.{◌≡◌, ℕ, zero, suc, ◌<◌, ◌≤◌, Bool, true, false, ◌&&◌, List, [], ◌∷◌, ◌++◌, map, flat_map, filter, cond, replicate, length, get_or, slice_get, Option, Some, None, ℤ, pos, refl, sym, ap, ◌∙◌, arith}
use Rattle.std.specs.Cmp.Lexicographic.{pointwise}
use Rattle.std.specs.Option.{option_map, option_map_or}
use Rattle.std.proofs.lemmas.List.{map-append, length-map}
use Rattle.std.proofs.lemmas.Option.{slice_get-map, slice_get_past, same_Some}
use Rattle.rsml_syntax.specs.declared.syntax.Spec.{Spec}
use Rattle.rsml_syntax.specs.declared.syntax.Decl.{Decl}
use Rattle.rsml_syntax.specs.text.Names.{Name, is_in}
use Rattle.rsml_syntax.specs.rules.Globals.{Globals, indices, many}
use Rattle.rsml_syntax.specs.limits.Previous.{names_previous}
use Rattle.rsml_names.specs.PreviousNames.{previous_names}
use Rattle.rsml_names.proofs.NamedAfter.{previous_is}
use Rattle.rsml_meaning.specs.Words.{at}
use Rattle.rsml_meaning.specs.Instances.{globals_of, instances}
use Rattle.rsml_meaning.specs.Cells.{InputType, InputCell, is_of, new_cell, cells_of, own_cells, as_previous, previous_cells, cells}
use Rattle.state_arrays.proofs.Room.{many_instances}
use Rattle.worlds.specs.declared.cell_ends.CellEnds.{CellEnds}
use Rattle.worlds.specs.Ends.{Ends, named_ends, ends_of, declared_ends, written, is_between}

all_same : (t : InputType) (n : ℤ) (name : Name) (is : List ℕ) → map ends_of (map (new_cell t n) (map (at name) is)) ≡ replicate (length (map (at name) is)) (named_ends name t n)
all_same t n name [] = refl
all_same t n name (i ∷ is) = ap (λ (xs : List Ends). named_ends name t n ∷ xs) (all_same t n name is)

-- the cells of an input all have its ends
pub input_ends : (g : Globals) (t : InputType) (n : ℤ) (name : Name) (size : _) → map ends_of (map (new_cell t n) (instances g name size)) ≡ replicate (many g size) (named_ends name t n)
input_ends g t n name size = all_same t n name (indices g size) ∙ ap (λ (k : ℕ). replicate k (named_ends name t n)) (many_instances g name size)

all_declared : (g : Globals) (ds : List Decl) → flat_map (declared_ends g) ds ≡ map ends_of (flat_map (cells_of g) ds)
all_declared g [] = refl
all_declared g (d ∷ ds) =
    ap (λ (xs : List Ends). declared_ends g d ++ xs) (all_declared g ds) ∙ sym (map-append ends_of (cells_of g d) (flat_map (cells_of g) ds))

map_filter : {A B : Type 0} (f : A → B) (t : B → Bool) (xs : List A) → map f (filter (λ x. t (f x)) xs) ≡ filter t (map f xs)
map_filter f t [] = refl
map_filter {A} {B} f t (x ∷ xs) = by (t (f x)) (map_filter f t xs)
  where
    by : (b : Bool) → map f (filter (λ y. t (f y)) xs) ≡ filter t (map f xs)
        → map f (cond b (x ∷ filter (λ y. t (f y)) xs) (filter (λ y. t (f y)) xs)) ≡ cond b (f x ∷ filter t (map f xs)) (filter t (map f xs))
    by true h = ap (λ (ys : List B). f x ∷ ys) h
    by false h = h

previous_kept : (s : Spec) (cs : List InputCell) → filter (λ (e : Ends). is_in e.0 (previous_names s)) (map ends_of cs) ≡ map ends_of (map as_previous (filter (λ c. names_previous s c.input.name) cs))
previous_kept s [] = refl
previous_kept s (c ∷ cs) = by (is_in c.input.name (previous_names s)) (names_previous s c.input.name) (previous_is s c.input.name) (previous_kept s cs)
  where
    by : (a b : Bool) → a ≡ b → filter (λ (e : Ends). is_in e.0 (previous_names s)) (map ends_of cs) ≡ map ends_of (map as_previous (filter (λ x. names_previous s x.input.name) cs))
        → cond a (ends_of c ∷ filter (λ (e : Ends). is_in e.0 (previous_names s)) (map ends_of cs)) (filter (λ (e : Ends). is_in e.0 (previous_names s)) (map ends_of cs))
        ≡ map ends_of (map as_previous (cond b (c ∷ filter (λ x. names_previous s x.input.name) cs) (filter (λ x. names_previous s x.input.name) cs)))
    by true true e h = ap (λ (ys : List Ends). ends_of c ∷ ys) h
    by false false e h = h
    by true false e h = absurd (let no : ⊥ = cc in no)
    by false true e h = absurd (let no : ⊥ = cc in no)

-- the ends of declarations, and behind them those of names after `previous`, are those of all cells
pub all_ends : (s : Spec) (es : List CellEnds) → map written es ≡ flat_map (declared_ends (globals_of s)) s.decls
    → map written (es ++ filter (λ c. is_in c.name.now (previous_names s)) es) ≡ map ends_of (cells s)
all_ends s es h =
    let own = h ∙ all_declared (globals_of s) s.decls in
    map-append written es (filter (λ c. is_in c.name.now (previous_names s)) es)
    ∙ ap (λ (xs : List Ends). xs ++ map written (filter (λ c. is_in c.name.now (previous_names s)) es)) own
    ∙ ap (λ (xs : List Ends). map ends_of (own_cells s) ++ xs)
    (map_filter written (λ (e : Ends). is_in e.0 (previous_names s)) es
    ∙ ap (λ (xs : List Ends). filter (λ (e : Ends). is_in e.0 (previous_names s)) xs) own
    ∙ previous_kept s (own_cells s))
    ∙ sym (map-append ends_of (own_cells s) (previous_cells s))

by_map : {A B : Type 0} (f : A → B) (t : B → ℤ → Bool) (xs : List A) (ns : List ℤ) → pointwise (λ x n. t (f x) n) xs ns ≡ pointwise t (map f xs) ns
by_map f t [] [] = refl
by_map f t [] (n ∷ ns) = refl
by_map f t (x ∷ xs) [] = refl
by_map f t (x ∷ xs) (n ∷ ns) = ap (λ (b : Bool). t (f x) n && b) (by_map f t xs ns)

-- numbers between the ends of cells are those that the cells may hold
pub cells_fit : (cs : List InputCell) (es : List CellEnds) (ns : List ℤ) → map written es ≡ map ends_of cs → pointwise (λ e n. is_between (written e) n) es ns ≡ pointwise (λ c n. is_of c.numbers n) cs ns
cells_fit cs es ns h =
    by_map written is_between es ns ∙ ap (λ (xs : List Ends). pointwise is_between xs ns) h ∙ sym (by_map ends_of is_between cs ns)

from_get : (es : List CellEnds) (k : ℕ) (e : CellEnds) → e ≡ get_or es k e → k < length es → slice_get es k ≡ Some e
from_get [] k e q b = absurd (omega (arith, b))
from_get (x ∷ es) zero e q b = ap Some (sym q)
from_get (x ∷ es) (suc k) e q b = from_get es k e q (omega (arith, b))

-- whether the cell at a place may hold a number
abbrev pub held_at : List InputCell → ℕ → ℤ → Bool
held_at cs k n = option_map_or (λ c. is_of c.numbers n) (slice_get cs k) false

pub may_hold_at : (cs : List InputCell) (es fs : List CellEnds) (k : ℕ) (n : ℤ) (e : CellEnds) → map written es ≡ map ends_of cs → fs ≡ es → e ≡ get_or fs k e → k < length fs → is_between (written e) n ≡ held_at cs k n
may_hold_at cs es fs k n e h same item below =
    by (slice_get cs k)
    (sym (slice_get-map ends_of cs k)
    ∙ ap (λ (xs : List Ends). slice_get xs k) (sym h)
    ∙ slice_get-map written es k
    ∙ ap (λ (xs : List CellEnds). option_map written (slice_get xs k)) (sym same)
    ∙ ap (option_map written) (from_get fs k e item below))
  where
    by : (o : Option InputCell) → option_map ends_of o ≡ Some (written e) → is_between (written e) n ≡ option_map_or (λ c. is_of c.numbers n) o false
    by None q = absurd (let no : ⊥ = cc in no)
    by (Some c) q = ap (λ (x : Ends). is_between x n) (sym (same_Some (ends_of c) (written e) q))

-- past the last cell there is none
pub none_at : (cs : List InputCell) (es fs : List CellEnds) (k : ℕ) (n : ℤ) → map written es ≡ map ends_of cs → fs ≡ es → length fs ≤ k → false ≡ held_at cs k n
none_at cs es fs k n h same past =
    let long = sym (length-map es written) ∙ ap length h ∙ length-map cs ends_of in
    let fits = ap length same in
    sym (ap (λ (o : Option InputCell). option_map_or (λ c. is_of c.numbers n) o false) (slice_get_past cs k (omega (arith, long, fits, past))))

-- The ends and the first number of a cell.

shown_at : (cs : List InputCell) (es fs : List CellEnds) (k : ℕ) (e : CellEnds) → map written es ≡ map ends_of cs → fs ≡ es → e ≡ get_or fs k e → k < length fs → option_map ends_of (slice_get cs k) ≡ Some (written e)
shown_at cs es fs k e h same item below =
    sym (slice_get-map ends_of cs k)
    ∙ ap (λ (xs : List Ends). slice_get xs k) (sym h)
    ∙ slice_get-map written es k
    ∙ ap (λ (xs : List CellEnds). option_map written (slice_get xs k)) (sym same)
    ∙ ap (option_map written) (from_get fs k e item below)

-- what is kept of a cell is that of the cell at the place
pub kept_at : (cs : List InputCell) (es fs : List CellEnds) (k : ℕ) (e : CellEnds) (c : InputCell) → map written es ≡ map ends_of cs → fs ≡ es → e ≡ get_or fs k e → k < length fs → slice_get cs k ≡ Some c → written e ≡ ends_of c
kept_at cs es fs k e c h same item below at =
    sym (same_Some (ends_of c) (written e) (sym (ap (option_map ends_of) at) ∙ shown_at cs es fs k e h same item below))

-- there are as many ends as cells
pub as_many : (cs : List InputCell) (es : List CellEnds) → map written es ≡ map ends_of cs → length es ≡ length cs
as_many cs es h = sym (length-map es written) ∙ ap length h ∙ length-map cs ends_of

-- the first numbers that are kept are those of the cells
pub first_numbers : (cs : List InputCell) (es : List CellEnds) → map written es ≡ map ends_of cs → map (λ e. e.initial) es ≡ map (λ c. c.initial) cs
first_numbers [] [] h = refl
first_numbers [] (e ∷ es) h = absurd (let no : ⊥ = cc in no)
first_numbers (c ∷ cs) [] h = absurd (let no : ⊥ = cc in no)
first_numbers (c ∷ cs) (e ∷ es) h =
    let here = ap (λ (xs : List Ends). head_number xs) h in
    let there = first_numbers cs es (ap (λ (xs : List Ends). later xs) h) in
    λ i. here i ∷ there i
  where
    head_number : List Ends → ℤ
    head_number [] = pos 0
    head_number (x ∷ xs) = x.2

    later : List Ends → List Ends
    later [] = []
    later (x ∷ xs) = xs
