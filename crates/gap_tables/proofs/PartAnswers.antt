-- What an encoder answers of a part.
use Rattle.std.proofs.Common.{◌≡◌, ◌↔◌, ◌<◌, ◌∙◌, ℕ, suc, Bool, true, false, ◌&&◌, not, List, [], ◌∷◌, ◌++◌, length, Option, Some, None, refl, sym, ap, subst, true≢false, ◌-ℤ◌, ◌≤ℤ◌, ℤ, int_le, pos, arith, slice_get, slice_index_or, IsTrue, lt-ltb}
use Rattle.std.specs.Prelude.{nat_lt}
use Rattle.std.specs.Cmp.{first_so, second_so}
use Rattle.std.specs.Option.{option_map_or}
use Rattle.std.proofs.lemmas.Bool.{and_from}
use Rattle.std.proofs.lemmas.Int.{ints}
use Rattle.std.proofs.lemmas.List.{length_push}
use Rattle.rsml_syntax.specs.declared.syntax.Spec.{Spec}
use Rattle.rsml_syntax.specs.declared.world.World.{World}
use Rattle.rsml_syntax.specs.text.Names.{Name}
use Rattle.rsml_meaning.specs.Cells.{InputCell, InputType, cells, is_of}
use Rattle.rsml_meaning.specs.Worlds.{IsWorld}
use Rattle.guard_encode.specs.declared.reading.ReadParts.{ReadParts}
use Rattle.guard_encode.specs.Encoding.{Encoding, Grows, IsOfCell, Keeps, Tells}
use Rattle.guard_encode.proofs.CellLemmas.{of_cell_as}
use Rattle.guard_encode.proofs.FindLemmas.{found_on}
use Rattle.guard_encode.proofs.StepLemmas.{told_as, told_on}
use Rattle.group_verdicts.proofs.Keeping.{on_new, on_old}
use Rattle.group_verdicts.proofs.Parts.{number_above, number_below}
use Rattle.world_columns.specs.declared.column.Column.{Column}
use Rattle.world_columns.specs.declared.column.Span.{Span}
use Rattle.world_columns.specs.Columns.{all_of, in_span, is_allowed, only, span}
use Rattle.world_columns.specs.Gaps.{IsSpanOf, IsWholeOrOne, IsWidestChild, IsWidestSpan, any, one, whole}
use Rattle.gap_tables.specs.Widening.{AreAs, Begun, FindsLater, IsBegun, IsHighestEnd, IsLowestEnd, IsNowhere, IsOfParts, NoneComes, NoneWithin, TellsOf, and_child, and_span, begins_with, child_at, children_alone, number_at}
use Rattle.gap_tables.proofs.Growing.{grown_new}
use Rattle.gap_tables.proofs.Places.{get_index}
use Rattle.gap_tables.proofs.Ends.{through}
use Rattle.gap_tables.proofs.Steps.{asked_from, asked_to, begins_child, begins_span, next_child, next_span, of_parts, own_comes, span_as, unread_child, unread_span, widest_as}

and_true : (b : Bool) → (b && true) ≡ b
and_true true = refl
and_true false = refl

and_assoc : (a b c : Bool) → ((a && b) && c) ≡ (a && (b && c))
and_assoc true b c = refl
and_assoc false b c = refl

-- What stays.

pub tells_of_on : (a b : Encoding) (truth : World → Bool) (r : ℕ) → Keeps a b → TellsOf a truth r → TellsOf b truth r
tells_of_on a b truth r keeps of = record { told = of.told; tells = told_on a b of.told r keeps of.tells; same = on_new (λ s. (v : World) → IsWorld s v → of.told v ≡ truth v) a b keeps of.same }

pub tells_as : (e : Encoding) (first other : World → Bool) (r : ℕ) → ((v : World) → first v ≡ other v) → TellsOf e first r → TellsOf e other r
tells_as e first other r same of = record { told = of.told; tells = of.tells; same = λ v is. of.same v is ∙ same v }

pub later_on : (a b : Encoding) (read : ReadParts) (w : World) (m n r : ℕ) → Keeps a b → FindsLater a read w m n r → FindsLater b read w m n r
later_on a b read w m n r keeps later = record {
  later = later.later;
  finds = found_on a b later.later r keeps later.finds;
  exact = on_new (λ s. (v : World) → IsWorld s v → IsTrue (later.later v) ↔ AreAs read w m n v) a b keeps later.exact;
}

-- Numbers.

above_is : (number n : ℤ) → not (int_le n (number -ℤ pos 1)) ≡ int_le number n
above_is number n = by (int_le n (number -ℤ pos 1)) (int_le number n) refl refl
  where
    both_so : int_le n (number -ℤ pos 1) ≡ true → int_le number n ≡ true → ⊥
    both_so a b = grind (arith, ints, a, b)

    neither_so : int_le n (number -ℤ pos 1) ≡ false → int_le number n ≡ false → ⊥
    neither_so a b = grind (arith, ints, a, b)

    by : (x y : Bool) → int_le n (number -ℤ pos 1) ≡ x → int_le number n ≡ y → not x ≡ y
    by true true a b = absurd (both_so a b)
    by true false a b = refl
    by false true a b = refl
    by false false a b = absurd (neither_so a b)

pub above_told : (e : Encoding) (cell : ℕ) (number : ℤ) (r : ℕ) → Tells e (λ w. not (int_le (number_at cell w) (number -ℤ pos 1))) r → TellsOf e (λ w. int_le number (number_at cell w)) r
above_told e cell number r told = record { told = λ w. not (int_le (number_at cell w) (number -ℤ pos 1)); tells = told; same = λ v is. above_is number (number_at cell v) }

up_from : (number low n : ℤ) → int_le number low ≡ true → int_le low n ≡ true → true ≡ int_le number n
up_from number low n a b = let e : int_le number n ≡ true = grind (arith, ints, a, b) in sym e

pub all_told : (e : Encoding) (cell : ℕ) (number low : ℤ) (c : InputCell) (r : ℕ) → slice_get (cells e.machine.base.spec) cell ≡ Some c → low ≡ c.numbers.low → int_le number low ≡ true
    → Tells e (λ w. true) r → TellsOf e (λ w. int_le number (number_at cell w)) r
all_told e cell number low c r at own less told = record {
  told = λ w. true;
  tells = told;
  same = λ v is. up_from number low (number_at cell v) less (ap (λ (z : ℤ). int_le z (number_at cell v)) own ∙ number_above e.machine.base.spec v is cell c at);
}

-- the numbers between two are those from the one on and up to the other
pub between_is : (b e : Encoding) (truth up : World → Bool) (cell : ℕ) (low high : ℤ) → Grows b e → ((v : World) → IsWorld b.machine.base.spec v → up v ≡ int_le low (number_at cell v))
    → (v : World) → IsWorld e.machine.base.spec v → ((truth v && up v) && int_le (number_at cell v) high) ≡ (truth v && in_span (span low high) (number_at cell v))
between_is b e truth up cell low high keeps same v is =
    ap (λ x. (truth v && x) && int_le (number_at cell v) high) (grown_new (λ s. (v : World) → IsWorld s v → up v ≡ int_le low (number_at cell v)) b e keeps same v is)
    ∙ and_assoc (truth v) (int_le low (number_at cell v)) (int_le (number_at cell v) high)

pub all_from : (e : Encoding) (cell : ℕ) (number low : ℤ) (c : InputCell) (r : ℕ) (truth : World → Bool) → slice_get (cells e.machine.base.spec) cell ≡ Some c → low ≡ c.numbers.low
    → int_le number low ≡ true → IsOfCell e cell truth r → IsOfCell e cell (λ w. truth w && int_le number (number_at cell w)) r
all_from e cell number low c r truth at own less of =
    of_cell_as e cell truth (λ w. truth w && int_le number (number_at cell w)) r
    (λ w is.
    sym (and_true (truth w))
    ∙ ap (λ b. truth w && b) (up_from number low (number_at cell w) less (ap (λ (z : ℤ). int_le z (number_at cell w)) own ∙ number_above e.machine.base.spec w is cell c at))) of

pub above_from : (e : Encoding) (cell : ℕ) (number : ℤ) (r : ℕ) (truth : World → Bool) → IsOfCell e cell (λ w. truth w && not (int_le (number_at cell w) (number -ℤ pos 1))) r
    → IsOfCell e cell (λ w. truth w && int_le number (number_at cell w)) r
above_from e cell number r truth of =
    of_cell_as e cell (λ w. truth w && not (int_le (number_at cell w) (number -ℤ pos 1))) (λ w. truth w && int_le number (number_at cell w)) r
    (λ w is. ap (λ b. truth w && b) (above_is number (number_at cell w))) of

was_false : (b : Bool) → not b ≡ true → b ≡ false
was_false false e = refl
was_false true e = absurd (true≢false (sym e))

pub none_between : (a b : Encoding) (truth : World → Bool) (cell : ℕ) (low high : ℤ) (may : Bool) → Keeps a b
    → ((may ≡ false) ↔ ((w : World) → IsWorld b.machine.base.spec w → ((truth w && int_le low (number_at cell w)) && int_le (number_at cell w) high) ≡ false))
    → IsTrue (not may) ↔ NoneWithin a.machine.base.spec truth cell (span low high)
none_between a b truth cell low high may keeps asked = (
  λ so. on_old (λ s. NoneWithin s truth cell (span low high)) a b keeps (λ w is. sym (same w) ∙ asked.0 (was_false may so) w is),
  λ none. ap not (asked.1 (λ w is. same w ∙ on_new (λ s. NoneWithin s truth cell (span low high)) a b keeps none w is)),
)
  where
    same : (w : World) → ((truth w && int_le low (number_at cell w)) && int_le (number_at cell w) high) ≡ (truth w && in_span (span low high) (number_at cell w))
    same w = and_assoc (truth w) (int_le low (number_at cell w)) (int_le (number_at cell w) high)

-- A child.

pub any_child : (s : Spec) (truth : World → Bool) (k own : ℕ) → IsNowhere s truth → IsWidestChild (λ x. IsNowhere s (λ v. truth v && is_allowed x (child_at k v))) own None
any_child s truth k own none = any (λ v is. and_true (truth v) ∙ none v is)

pub own_child : (s : Spec) (truth : World → Bool) (k own : ℕ) → (IsNowhere s truth → ⊥) → IsWidestChild (λ x. IsNowhere s (λ v. truth v && is_allowed x (child_at k v))) own (Some own)
own_child s truth k own some = one (λ none. some (λ v is. sym (and_true (truth v)) ∙ none v is))

pub is_not : (b : Bool) (P : Type 0) → (IsTrue b ↔ P) → b ≡ false → P → ⊥
is_not b P decides not p = true≢false (sym (decides.1 p) ∙ not)

-- the worlds that would come in, by what finds and tells them
abbrev pub bad_worlds : (e : Encoding) (read : ReadParts) (w : World) (m n after others inside : ℕ) (out in_it : World → Bool)
    → FindsLater e read w m n after → TellsOf e out others → TellsOf e in_it inside → World → Bool
bad_worlds e read w m n after others inside out in_it later other in_column v = (later.later v && other.told v) && in_column.told v

-- the child that is found goes to the column
pub child_widest : (e : Encoding) (read : ReadParts) (w : World) (set : World → Bool) (cs : List (Option ℕ)) (own after others inside : ℕ) (x : Option ℕ)
    → (later : FindsLater e read w (suc (length cs)) 0 after) (other : TellsOf e (λ v. not (set v)) others) (in_it : TellsOf e (begins_with (children_alone cs)) inside)
    → IsWidestChild (λ x. IsNowhere e.machine.base.spec (λ v. bad_worlds e read w (suc (length cs)) 0 after others inside (λ v. not (set v)) (begins_with (children_alone cs)) later other in_it v && is_allowed x (child_at (length cs) v))) own x
    → IsWidestChild (λ y. NoneComes e.machine.base.spec read set w (children_alone (cs ++ y ∷ []))) own x
child_widest e read w set cs own after others inside x later other in_it widest =
    widest_as
    (λ y none. asked_from s read set w c (and_child c y) later.later (λ v. is_allowed y (child_at (length cs) v)) (exact y) (begins_child c y) (λ v is. sym (same y v is) ∙ none v is))
    (λ y none. λ v is. same y v is ∙ asked_to s read set w c (and_child c y) later.later (λ v. is_allowed y (child_at (length cs) v)) (exact y) (begins_child c y) none v is)
    own x widest
  where
    s : Spec
    s = e.machine.base.spec

    c : Column
    c = children_alone cs

    next : (y : Option ℕ) → suc (length cs) ≡ length (cs ++ y ∷ [])
    next y = let f = length_push cs y in omega (arith, f)

    exact : (y : Option ℕ) (v : World) → IsWorld e.machine.base.spec v → IsTrue (later.later v) ↔ AreAs read w (length (cs ++ y ∷ [])) 0 v
    exact y v is = subst (λ n. IsTrue (later.later v) ↔ AreAs read w n 0 v) (next y) (later.exact v is)

    same : (y : Option ℕ) (v : World) → IsWorld e.machine.base.spec v
        → (((later.later v && other.told v) && in_it.told v) && is_allowed y (child_at (length cs) v))
        ≡ (((later.later v && not (set v)) && begins_with (children_alone cs) v) && is_allowed y (child_at (length cs) v))
    same y v is = λ i. ((later.later v && other.same v is i) && in_it.same v is i) && is_allowed y (child_at (length cs) v)

-- and the worlds that have it are told
pub told_child : (a d : Encoding) (cs : List (Option ℕ)) (child : Option ℕ) (r inside : ℕ) → Keeps a d → (of : TellsOf a (begins_with (children_alone cs)) inside)
    → Tells d (λ v. of.told v && is_allowed child (child_at (length cs) v)) r → TellsOf d (begins_with (children_alone (cs ++ child ∷ []))) r
told_child a d cs child r inside keeps of told = record {
  told = λ v. of.told v && is_allowed child (child_at (length cs) v);
  tells = told;
  same = λ v is.
      ap (λ b. b && is_allowed child (child_at (length cs) v)) (on_new (λ s. (v : World) → IsWorld s v → of.told v ≡ begins_with (children_alone cs) v) a d keeps of.same v is)
      ∙ sym (begins_child (children_alone cs) child v);
}

pub told_any : (e : Encoding) (cs : List (Option ℕ)) (inside : ℕ) → TellsOf e (begins_with (children_alone cs)) inside → TellsOf e (begins_with (children_alone (cs ++ None ∷ []))) inside
told_any e cs inside of =
    tells_as e (begins_with (children_alone cs)) (begins_with (children_alone (cs ++ None ∷ []))) inside
    (λ v. sym (and_true (begins_with (children_alone cs) v)) ∙ sym (begins_child (children_alone cs) None v)) of

-- the column goes on with it
pub begun_child : (a d : Encoding) (read : ReadParts) (w : World) (set : World → Bool) (cs : List (Option ℕ)) (x : Option ℕ) → Keeps a d → IsWorld a.machine.base.spec w → IsOfParts a.machine.base.spec read set
    → length cs < length w.choices → IsBegun a.machine.base.spec read set w (children_alone cs)
    → IsWidestChild (λ y. NoneComes a.machine.base.spec read set w (children_alone (cs ++ y ∷ []))) (child_at (length cs) w) x
    → IsBegun d.machine.base.spec read set w (children_alone (cs ++ x ∷ []))
begun_child a d read w set cs x keeps is of less begun widest =
    on_new (λ s. IsBegun s read set w (children_alone (cs ++ x ∷ []))) a d keeps
    (next_child a.machine.base.spec read set w cs (child_at (length cs) w) x is of (get_index w.choices (length cs) 0 less) begun widest)

pub unread_widest : (s : Spec) (read : ReadParts) (set : World → Bool) (w : World) (cs : List (Option ℕ)) → slice_index_or read.choices (length cs) true ≡ false → IsBegun s read set w (children_alone cs)
    → IsWidestChild (λ y. NoneComes s read set w (children_alone (cs ++ y ∷ []))) (child_at (length cs) w) None
unread_widest s read set w cs not begun = unread_child s read set w cs (child_at (length cs) w) not begun.none_comes

pub told_and_true : (e : Encoding) (truth : World → Bool) (r : ℕ) → Tells e truth r → Tells e (λ v. truth v && true) r
told_and_true e truth r told = told_as e truth (λ v. truth v && true) r (λ v. sym (and_true (truth v))) told

-- A span.

pub own_of : (s : Spec) (w : World) (cell : ℕ) (i : InputCell) → IsWorld s w → slice_get (cells s) cell ≡ Some i → IsTrue (is_of i.numbers (number_at cell w))
own_of s w cell i is at =
    and_from (int_le i.numbers.low (number_at cell w)) (int_le (number_at cell w) i.numbers.high) (number_above s w is cell i at) (number_below s w is cell i at)

pub whole_asked : (s : Spec) (truth : World → Bool) (cell : ℕ) (i : InputCell) (own : ℤ) (x : Span) → x ≡ all_of i.numbers → IsNowhere s truth → IsWholeOrOne (NoneWithin s truth cell) i.numbers own x
whole_asked s truth cell i own x all none =
    subst (IsWholeOrOne (NoneWithin s truth cell) i.numbers own) (sym all) (whole (λ v is. ap (λ b. b && in_span (all_of i.numbers) (number_at cell v)) (none v is)))

pub one_asked : (s : Spec) (truth : World → Bool) (cell : ℕ) (i : InputCell) (own : ℤ) → slice_get (cells s) cell ≡ Some i → (IsNowhere s truth → ⊥) → IsWholeOrOne (NoneWithin s truth cell) i.numbers own (only own)
one_asked s truth cell i own at some =
    one (λ none. some (λ v is. sym (and_true (truth v)) ∙ ap (λ b. truth v && b) (sym (own_of s v cell i is at)) ∙ none v is))

pub range_asked : (s : Spec) (truth : World → Bool) (cell : ℕ) (i : InputCell) (own low high : ℤ) → IsTrue (is_of i.numbers own)
    → IsHighestEnd (λ n. NoneWithin s truth cell (span own n)) own i.numbers.high high high → IsLowestEnd (λ n. NoneWithin s truth cell (span n high)) i.numbers.low own low low
    → IsWidestSpan (NoneWithin s truth cell) i.numbers own (span low high)
range_asked s truth cell i own low high of up down =
    let from = first_so (int_le i.numbers.low own) (int_le own i.numbers.high) of in
    let to = second_so (int_le i.numbers.low own) (int_le own i.numbers.high) of in
    record {
      around = and_from (int_le low own) (int_le own high) down.order.2 up.order.0;
      of_type = (
        and_from (int_le i.numbers.low low) (int_le low i.numbers.high) down.order.0 (through low own i.numbers.high down.order.2 to),
        and_from (int_le i.numbers.low high) (int_le high i.numbers.high) (through i.numbers.low own high from up.order.0) up.order.2,
      );
      lies = down.holds;
      highest = λ n above within h. up.most n above within h;
      lowest = λ n within below h. down.least n within below h;
    }

-- a cell has an enumeration exactly where its type has names
span_named : (names : List Name) (Lies : Span → Type 0) (t : InputType) (own : ℤ) (x : Span) → nat_lt 0 (length names) ≡ true → IsWholeOrOne Lies t own x → IsSpanOf names Lies t own x
span_named [] Lies t own x some h = absurd (true≢false (sym some))
span_named (name ∷ names) Lies t own x some h = h

span_unnamed : (names : List Name) (Lies : Span → Type 0) (t : InputType) (own : ℤ) (x : Span) → nat_lt 0 (length names) ≡ false → IsWidestSpan Lies t own x → IsSpanOf names Lies t own x
span_unnamed [] Lies t own x none h = h
span_unnamed (name ∷ names) Lies t own x none h = absurd (true≢false (sym (lt-ltb 0 (length (name ∷ names)) (omega arith)) ∙ none))

-- whether a cell has an enumeration
abbrev pub has_names : Spec → ℕ → Bool
has_names s cell = option_map_or (λ c. nat_lt 0 (length c.numbers.names)) (slice_get (cells s) cell) false

names_at : (s : Spec) (cell : ℕ) (i : InputCell) → slice_get (cells s) cell ≡ Some i → has_names s cell ≡ nat_lt 0 (length i.numbers.names)
names_at s cell i at = ap (λ (found : Option InputCell). option_map_or (λ c. nat_lt 0 (length c.numbers.names)) found false) at

pub of_names : (s : Spec) (cell : ℕ) (i : InputCell) (Lies : Span → Type 0) (own : ℤ) (x : Span) → slice_get (cells s) cell ≡ Some i → has_names s cell ≡ true
    → IsWholeOrOne Lies i.numbers own x → IsSpanOf i.numbers.names Lies i.numbers own x
of_names s cell i Lies own x at some h = span_named i.numbers.names Lies i.numbers own x (sym (names_at s cell i at) ∙ some) h

pub of_range : (s : Spec) (cell : ℕ) (i : InputCell) (Lies : Span → Type 0) (own : ℤ) (x : Span) → slice_get (cells s) cell ≡ Some i → has_names s cell ≡ false
    → IsWidestSpan Lies i.numbers own x → IsSpanOf i.numbers.names Lies i.numbers own x
of_range s cell i Lies own x at none h = span_unnamed i.numbers.names Lies i.numbers own x (sym (names_at s cell i at) ∙ none) h

below_so : (m n : ℤ) → int_le m n ≡ true → m ≤ℤ n
below_so m n h = grind (arith, ints, h)

-- a number of a cell is between its least and its greatest
pub up_to_last : (t : InputType) (own last : ℤ) → last ≡ t.high → IsTrue (is_of t own) → own ≤ℤ last
up_to_last t own last is of = below_so own last (ap (λ (n : ℤ). int_le own n) is ∙ second_so (int_le t.low own) (int_le own t.high) of)

pub from_first : (t : InputType) (own first : ℤ) → first ≡ t.low → IsTrue (is_of t own) → first ≤ℤ own
from_first t own first is of = below_so first own (ap (λ (n : ℤ). int_le n own) is ∙ first_so (int_le t.low own) (int_le own t.high) of)

-- the span that is found goes to the column
pub span_widest : (e : Encoding) (read : ReadParts) (w : World) (set : World → Bool) (cs : List (Option ℕ)) (xs : List Span) (names : List Name) (t : InputType) (own : ℤ) (after others inside : ℕ) (x : Span)
    → (later : FindsLater e read w (length cs) (suc (length xs)) after) (other : TellsOf e (λ v. not (set v)) others) (in_it : TellsOf e (begins_with (of_parts cs xs)) inside)
    → IsSpanOf names (NoneWithin e.machine.base.spec (bad_worlds e read w (length cs) (suc (length xs)) after others inside (λ v. not (set v)) (begins_with (of_parts cs xs)) later other in_it) (length xs)) t own x
    → IsSpanOf names (λ y. NoneComes e.machine.base.spec read set w (of_parts cs (xs ++ y ∷ []))) t own x
span_widest e read w set cs xs names t own after others inside x later other in_it widest =
    span_as
    (λ y none. asked_from e.machine.base.spec read set w c (and_span c y) later.later (λ v. in_span y (number_at (length xs) v)) (exact y) (begins_span c y) (λ v is. sym (same y v is) ∙ none v is))
    (λ y none. λ v is. same y v is ∙ asked_to e.machine.base.spec read set w c (and_span c y) later.later (λ v. in_span y (number_at (length xs) v)) (exact y) (begins_span c y) none v is)
    names t own x widest
  where
    c : Column
    c = of_parts cs xs

    next : (y : Span) → suc (length xs) ≡ length (xs ++ y ∷ [])
    next y = let f = length_push xs y in omega (arith, f)

    exact : (y : Span) (v : World) → IsWorld e.machine.base.spec v → IsTrue (later.later v) ↔ AreAs read w (length cs) (length (xs ++ y ∷ [])) v
    exact y v is = subst (λ n. IsTrue (later.later v) ↔ AreAs read w (length cs) n v) (next y) (later.exact v is)

    same : (y : Span) (v : World) → IsWorld e.machine.base.spec v
        → (((later.later v && other.told v) && in_it.told v) && in_span y (number_at (length xs) v))
        ≡ (((later.later v && not (set v)) && begins_with (of_parts cs xs) v) && in_span y (number_at (length xs) v))
    same y v is = λ i. ((later.later v && other.same v is i) && in_it.same v is i) && in_span y (number_at (length xs) v)

-- no world with the number of w comes in
pub none_own : (e : Encoding) (read : ReadParts) (w : World) (set : World → Bool) (cs : List (Option ℕ)) (xs : List Span) (own : ℤ) (after others inside : ℕ)
    → (later : FindsLater e read w (length cs) (suc (length xs)) after) (other : TellsOf e (λ v. not (set v)) others) (in_it : TellsOf e (begins_with (of_parts cs xs)) inside)
    → slice_get w.cells (length xs) ≡ Some own → NoneComes e.machine.base.spec read set w (of_parts cs xs)
    → NoneWithin e.machine.base.spec (bad_worlds e read w (length cs) (suc (length xs)) after others inside (λ v. not (set v)) (begins_with (of_parts cs xs)) later other in_it) (length xs) (span own own)
none_own e read w set cs xs own after others inside later other in_it at none = λ v is.
    same v is
    ∙ asked_to e.machine.base.spec read set w c (and_span c (only own)) later.later (λ v. in_span (only own) (number_at (length xs) v)) exact (begins_span c (only own))
    (own_comes e.machine.base.spec read set w cs xs own at none) v is
  where
    c : Column
    c = of_parts cs xs

    next : suc (length xs) ≡ length (xs ++ only own ∷ [])
    next = let f = length_push xs (only own) in omega (arith, f)

    exact : (v : World) → IsWorld e.machine.base.spec v → IsTrue (later.later v) ↔ AreAs read w (length cs) (length (xs ++ only own ∷ [])) v
    exact v is = subst (λ n. IsTrue (later.later v) ↔ AreAs read w (length cs) n v) next (later.exact v is)

    same : (v : World) → IsWorld e.machine.base.spec v
        → (((later.later v && other.told v) && in_it.told v) && in_span (only own) (number_at (length xs) v))
        ≡ (((later.later v && not (set v)) && begins_with (of_parts cs xs) v) && in_span (only own) (number_at (length xs) v))
    same v is = λ i. ((later.later v && other.same v is i) && in_it.same v is i) && in_span (only own) (number_at (length xs) v)

pub told_span : (a d : Encoding) (cs : List (Option ℕ)) (xs : List Span) (x : Span) (r inside : ℕ) → Grows a d → (of : TellsOf a (begins_with (of_parts cs xs)) inside)
    → TellsOf d (λ v. of.told v && in_span x (number_at (length xs) v)) r → TellsOf d (begins_with (of_parts cs (xs ++ x ∷ []))) r
told_span a d cs xs x r inside keeps of h = record {
  told = h.told;
  tells = h.tells;
  same = λ v is.
      h.same v is
      ∙ ap (λ b. b && in_span x (number_at (length xs) v)) (grown_new (λ s. (v : World) → IsWorld s v → of.told v ≡ begins_with (of_parts cs xs) v) a d keeps of.same v is)
      ∙ sym (begins_span (of_parts cs xs) x v);
}

-- all numbers of a cell
pub told_all : (e : Encoding) (cs : List (Option ℕ)) (xs : List Span) (i : InputCell) (x : Span) (inside : ℕ) → slice_get (cells e.machine.base.spec) (length xs) ≡ Some i → x ≡ all_of i.numbers
    → TellsOf e (begins_with (of_parts cs xs)) inside → TellsOf e (begins_with (of_parts cs (xs ++ x ∷ []))) inside
told_all e cs xs i x inside at all of = record {
  told = of.told;
  tells = of.tells;
  same = λ v is.
      of.same v is
      ∙ sym (and_true (begins_with (of_parts cs xs) v))
      ∙ ap (λ b. begins_with (of_parts cs xs) v && b) (sym (own_of e.machine.base.spec v (length xs) i is at))
      ∙ ap (λ (y : Span). begins_with (of_parts cs xs) v && in_span y (number_at (length xs) v)) (sym all)
      ∙ sym (begins_span (of_parts cs xs) x v);
}

pub begun_span : (a d : Encoding) (read : ReadParts) (w : World) (set : World → Bool) (cs : List (Option ℕ)) (xs : List Span) (i : InputCell) (x : Span) → Grows a d → IsWorld a.machine.base.spec w → IsOfParts a.machine.base.spec read set
    → length cs ≡ length w.choices → length xs < length w.cells → slice_get (cells a.machine.base.spec) (length xs) ≡ Some i → IsBegun a.machine.base.spec read set w (of_parts cs xs)
    → IsSpanOf i.numbers.names (λ y. NoneComes a.machine.base.spec read set w (of_parts cs (xs ++ y ∷ []))) i.numbers (number_at (length xs) w) x
    → IsBegun d.machine.base.spec read set w (of_parts cs (xs ++ x ∷ []))
begun_span a d read w set cs xs i x keeps is of many less at begun widest =
    grown_new (λ s. IsBegun s read set w (of_parts cs (xs ++ x ∷ []))) a d keeps
    (next_span a.machine.base.spec read set w cs xs i (number_at (length xs) w) x is of many at (get_index w.cells (length xs) (pos 0) less) begun widest)

pub span_unread : (a : Encoding) (read : ReadParts) (w : World) (set : World → Bool) (cs : List (Option ℕ)) (xs : List Span) (i : InputCell) (x : Span) (inside : ℕ) → IsWorld a.machine.base.spec w → IsOfParts a.machine.base.spec read set
    → length cs ≡ length w.choices → length xs < length w.cells → slice_get (cells a.machine.base.spec) (length xs) ≡ Some i → x ≡ all_of i.numbers → slice_index_or read.cells (length xs) true ≡ false
    → Begun a read set w (of_parts cs xs) inside → Begun a read set w (of_parts cs (xs ++ x ∷ [])) inside
span_unread a read w set cs xs i x inside is of many less at all not begun =
    let s = a.machine.base.spec in
    let own = number_at (length xs) w in (
      next_span s read set w cs xs i own x is of many at (get_index w.cells (length xs) (pos 0) less) begun.0
          (subst (λ (y : Span). IsSpanOf i.numbers.names (λ z. NoneComes s read set w (of_parts cs (xs ++ z ∷ []))) i.numbers own y) (sym all)
          (unread_span s read set w cs xs i own not (own_of s w (length xs) i is at) begun.0.none_comes)),
      told_all a cs xs i x inside at all begun.1,
    )
