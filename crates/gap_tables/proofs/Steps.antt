-- A column that begins with some parts goes on with one more.
use Rattle.std.proofs.Common.{◌≡◌, inl, inr, ◌↔◌, ◌≤◌, ◌<◌, ◌+◌, ◌∙◌, ℕ, zero, suc, Bool, true, false, ◌&&◌, not, List, [], ◌∷◌, ◌++◌, length, map, take, drop, Option, Some, None, refl, sym, ap, subst, true≢false, ℤ, int_le, pos, arith, append_assoc, append-nil, slice_get, slice_index_or, IsTrue}
use Rattle.std.specs.Cmp.{first_so, second_so}
use Rattle.std.proofs.lemmas.Bool.{and_from, cases_lt}
use Rattle.std.proofs.lemmas.Int.{ints}
use Rattle.std.proofs.lemmas.List.{length_push, drop_all, length-map}
use Rattle.rsml_syntax.specs.declared.syntax.Spec.{Spec}
use Rattle.rsml_syntax.specs.declared.world.World.{World}
use Rattle.rsml_syntax.specs.text.Names.{Name}
use Rattle.rsml_meaning.specs.Cells.{InputCell, InputType, cells, is_of}
use Rattle.rsml_meaning.specs.Worlds.{IsWorld}
use Rattle.guard_encode.specs.declared.reading.ReadParts.{ReadParts}
use Rattle.world_columns.specs.declared.column.Span.{Span}
use Rattle.world_columns.specs.declared.column.Column.{Column}
use Rattle.world_columns.specs.Columns.{LiesIn, all_of, in_span, is_allowed, only, passes_from, span}
use Rattle.world_columns.specs.Gaps.{IsSpanOf, IsWholeOrOne, IsWidestChild, IsWidestSpan, any, one, whole, with_child, with_span}
use Rattle.world_columns.proofs.Passing.{in_two}
use Rattle.gap_tables.specs.Widening.{AreAs, IsBegun, IsNowhere, IsOfParts, NoneComes, and_child, and_span, begins_with, child_at, children_alone, number_at}
use Rattle.gap_tables.proofs.Places.{before_or_last, index_of}
use Rattle.gap_tables.proofs.Questions.{going_on, lies_so, none_so, same_child, same_number}

-- Booleans.

set_so : (l s b a : Bool) → l ≡ true → b ≡ true → a ≡ true → (((l && not s) && b) && a) ≡ false → s ≡ true
set_so l true b a e f g h = refl
set_so true false true true e f g h = absurd (true≢false h)
set_so true false true false e f g h = absurd (true≢false (sym g))
set_so true false false a e f g h = absurd (true≢false (sym f))
set_so false false b a e f g h = absurd (true≢false (sym e))

nowhere_so : (l s b a : Bool) → (l ≡ true → b ≡ true → a ≡ true → s ≡ true) → (((l && not s) && b) && a) ≡ false
nowhere_so false s b a h = refl
nowhere_so true true b a h = refl
nowhere_so true false false a h = refl
nowhere_so true false true false h = refl
nowhere_so true false true true h = sym (h refl refl refl)

swap_last : (a b c : Bool) → ((a && b) && c) ≡ ((a && c) && b)
swap_last false b c = refl
swap_last true true true = refl
swap_last true true false = refl
swap_last true false true = refl
swap_last true false false = refl

and_assoc : (a b c : Bool) → (a && (b && c)) ≡ ((a && b) && c)
and_assoc true b c = refl
and_assoc false b c = refl

-- The worlds that begin with one more part.

pub begins_child : (c : Column) (x : Option ℕ) (v : World) → begins_with (and_child c x) v ≡ (begins_with c v && is_allowed x (child_at (length c.children) v))
begins_child c x v =
    let children = passes_from is_allowed 0 0 c.children v.choices in
    let numbers = passes_from in_span (pos 0) 0 c.spans v.cells in
    let e : 0 + length c.children ≡ length c.children = omega arith in
    ap (λ b. b && numbers) (in_two is_allowed 0 0 c.children (x ∷ []) v.choices ∙ ap (λ n. children && passes_from is_allowed 0 n (x ∷ []) v.choices) e)
    ∙ swap_last children (is_allowed x (child_at (length c.children) v)) numbers

pub begins_span : (c : Column) (x : Span) (v : World) → begins_with (and_span c x) v ≡ (begins_with c v && in_span x (number_at (length c.spans) v))
begins_span c x v =
    let children = passes_from is_allowed 0 0 c.children v.choices in
    let numbers = passes_from in_span (pos 0) 0 c.spans v.cells in
    let e : 0 + length c.spans ≡ length c.spans = omega arith in
    ap (λ b. children && b) (in_two in_span (pos 0) 0 c.spans (x ∷ []) v.cells ∙ ap (λ n. numbers && passes_from in_span (pos 0) n (x ∷ []) v.cells) e)
    ∙ and_assoc children numbers (in_span x (number_at (length c.spans) v))

-- What is asked.

pub asked_from : (s : Spec) (read : ReadParts) (set : World → Bool) (w : World) (c d : Column) (later test : World → Bool)
    → ((v : World) → IsWorld s v → IsTrue (later v) ↔ AreAs read w (length d.children) (length d.spans) v)
    → ((v : World) → begins_with d v ≡ (begins_with c v && test v))
    → IsNowhere s (λ v. ((later v && not (set v)) && begins_with c v) && test v) → NoneComes s read set w d
asked_from s read set w c d later test exact more none = λ v world alike begins.
    let both = sym (more v) ∙ begins in
    set_so (later v) (set v) (begins_with c v) (test v) ((exact v world).1 alike) (first_so (begins_with c v) (test v) both) (second_so (begins_with c v) (test v) both) (none v world)

pub asked_to : (s : Spec) (read : ReadParts) (set : World → Bool) (w : World) (c d : Column) (later test : World → Bool)
    → ((v : World) → IsWorld s v → IsTrue (later v) ↔ AreAs read w (length d.children) (length d.spans) v)
    → ((v : World) → begins_with d v ≡ (begins_with c v && test v))
    → NoneComes s read set w d → IsNowhere s (λ v. ((later v && not (set v)) && begins_with c v) && test v)
asked_to s read set w c d later test exact more none = λ v world.
    nowhere_so (later v) (set v) (begins_with c v) (test v)
    (λ l b a. none v world ((exact v world).0 l) (more v ∙ and_from (begins_with c v) (test v) b a))

-- Widest parts of what is the same.

pub widest_as : {A B : Option ℕ → Type 0} → ((x : Option ℕ) → A x → B x) → ((x : Option ℕ) → B x → A x) → (own : ℕ) (x : Option ℕ) → IsWidestChild A own x → IsWidestChild B own x
widest_as to from own x (any h) = any (to None h)
widest_as to from own x (one h) = one (λ g. h (from None g))

whole_as : {A B : Span → Type 0} → ((x : Span) → A x → B x) → ((x : Span) → B x → A x) → (t : InputType) (own : ℤ) (x : Span) → IsWholeOrOne A t own x → IsWholeOrOne B t own x
whole_as to from t own x (whole h) = whole (to (all_of t) h)
whole_as to from t own x (one h) = one (λ g. h (from (all_of t) g))

range_as : {A B : Span → Type 0} → ((x : Span) → A x → B x) → ((x : Span) → B x → A x) → (t : InputType) (own : ℤ) (x : Span) → IsWidestSpan A t own x → IsWidestSpan B t own x
range_as to from t own x h = record {
  around = h.around;
  of_type = h.of_type;
  lies = to x h.lies;
  highest = λ high up within g. h.highest high up within (from (span own high) g);
  lowest = λ low within down g. h.lowest low within down (from (span low x.high) g);
}

pub span_as : {A B : Span → Type 0} → ((x : Span) → A x → B x) → ((x : Span) → B x → A x) → (names : List Name) (t : InputType) (own : ℤ) (x : Span)
    → IsSpanOf names A t own x → IsSpanOf names B t own x
span_as to from [] t own x h = range_as to from t own x h
span_as to from (name ∷ names) t own x h = whole_as to from t own x h

-- A child more.

going_child : (cs : List (Option ℕ)) (x y : Option ℕ) (w : World) (k : ℕ) → k ≡ length cs → take k (cs ++ x ∷ []) ≡ cs
    → going_on (children_alone (cs ++ y ∷ [])) w ≡ with_child (children_alone (cs ++ x ∷ [])) w k y
going_child cs x y w k place first =
    let ms = map Some w.choices in
    let n : length (cs ++ y ∷ []) ≡ suc k = let e = length_push cs y in omega (arith, e, place) in
    let e : ((cs ++ y ∷ []) ++ drop (length (cs ++ y ∷ [])) ms) ≡ (take k (cs ++ x ∷ []) ++ y ∷ drop (suc k) ms) =
    append_assoc cs (y ∷ []) (drop (length (cs ++ y ∷ [])) ms) ∙ ap (λ m. cs ++ y ∷ drop m ms) n ∙ ap (λ (zs : List (Option ℕ)). zs ++ y ∷ drop (suc k) ms) (sym first) in
    λ i. record { children = e i; spans = (going_on (children_alone (cs ++ y ∷ [])) w).spans }

there_less : {A : Type 0} (xs : List A) (k : ℕ) (x : A) → slice_get xs k ≡ Some x → k < length xs
there_less [] k x at = absurd (let no : ⊥ = cc in no)
there_less (y ∷ xs) zero x at = omega arith
there_less (y ∷ xs) (suc k) x at = let e = there_less xs k x at in omega (arith, e)

-- the later parts that are read are also as in w from one part earlier on
pub earlier_child : (read : ReadParts) (w v : World) (k m n : ℕ) → m ≡ suc k → (slice_index_or read.choices k true ≡ true → child_at k v ≡ child_at k w) → AreAs read w m n v → AreAs read w k n v
earlier_child read w v k m n next here alike = record {
  children = λ j from within is. elim (cases_lt k j) [
    | inl less ↦ alike.children j (omega (arith, less, next)) within is
    | inr past ↦
        let e : k ≡ j = omega (arith, from, past) in
        subst (λ i. child_at i v ≡ child_at i w) e (here (ap (λ i. slice_index_or read.choices i true) e ∙ is))
  ];
  numbers = alike.numbers;
}

chosen_comes : (s : Spec) (read : ReadParts) (set : World → Bool) (w : World) (cs : List (Option ℕ)) (own : ℕ) (x : Option ℕ) → slice_get w.choices (length cs) ≡ Some own
    → NoneComes s read set w (children_alone cs) → IsWidestChild (λ y. NoneComes s read set w (children_alone (cs ++ y ∷ []))) own x
    → NoneComes s read set w (children_alone (cs ++ x ∷ []))
chosen_comes s read set w cs own x at before (any h) = h
chosen_comes s read set w cs own x at before (one h) = λ v world alike begins.
    let c = children_alone cs in
    let both = sym (begins_child c (Some own) v) ∙ begins in
    let next : length (cs ++ Some own ∷ []) ≡ suc (length cs) = let e = length_push cs (Some own) in omega (arith, e) in
    before v world
    (earlier_child read w v (length cs) (length (cs ++ Some own ∷ [])) 0 next
    (λ is. same_child own (child_at (length cs) v) (second_so (begins_with c v) (is_allowed (Some own) (child_at (length cs) v)) both) ∙ sym (index_of w.choices (length cs) own 0 at)) alike)
    (first_so (begins_with c v) (is_allowed (Some own) (child_at (length cs) v)) both)

pub next_child : (s : Spec) (read : ReadParts) (set : World → Bool) (w : World) (cs : List (Option ℕ)) (own : ℕ) (x : Option ℕ) → IsWorld s w → IsOfParts s read set
    → slice_get w.choices (length cs) ≡ Some own → IsBegun s read set w (children_alone cs)
    → IsWidestChild (λ y. NoneComes s read set w (children_alone (cs ++ y ∷ []))) own x → IsBegun s read set w (children_alone (cs ++ x ∷ []))
next_child s read set w cs own x is of at begun widest = record {
  none_comes = chosen_comes s read set w cs own x at begun.none_comes widest;
  child = λ k o y own_at there. elim (before_or_last cs x y k there) [
    | inl h ↦ subst (λ first. IsWidestChild (λ z. LiesIn s set (record { children = first ++ z ∷ drop (suc k) (map Some w.choices); spans = (with_child (children_alone cs) w k z).spans })) o y)
        (sym h.first) (begun.child k o y own_at h.at)
    | inr h ↦
        let less : length cs < length w.choices = there_less w.choices (length cs) own at in
        let many : (z : Option ℕ) → length (cs ++ z ∷ []) ≤ length w.choices = λ z. let e = length_push cs z in omega (arith, e, less) in
        let same : own ≡ o = sym (index_of w.choices (length cs) own 0 at) ∙ ap (λ i. child_at i w) (sym h.place) ∙ index_of w.choices k o 0 own_at in
        subst (λ m. IsWidestChild (λ z. LiesIn s set (with_child (children_alone (cs ++ x ∷ [])) w k z)) m y) same
        (subst (λ z. IsWidestChild (λ z. LiesIn s set (with_child (children_alone (cs ++ x ∷ [])) w k z)) own z) h.item
        (widest_as
        (λ z none. subst (LiesIn s set) (going_child cs x z w k h.place h.first) (lies_so s read set w (children_alone (cs ++ z ∷ [])) (many z) (omega arith) none))
        (λ z lies. none_so s read set w (children_alone (cs ++ z ∷ [])) (many z) (omega arith) is of (subst (LiesIn s set) (sym (going_child cs x z w k h.place h.first)) lies))
        own x widest))
  ];
  numbers = λ k o i y cell own_at there. absurd (let no : ⊥ = cc in no);
}

pub unread_child : (s : Spec) (read : ReadParts) (set : World → Bool) (w : World) (cs : List (Option ℕ)) (own : ℕ) → slice_index_or read.choices (length cs) true ≡ false
    → NoneComes s read set w (children_alone cs) → IsWidestChild (λ y. NoneComes s read set w (children_alone (cs ++ y ∷ []))) own None
unread_child s read set w cs own not before =
    any (λ v world alike begins.
    let c = children_alone cs in
    let both = sym (begins_child c None v) ∙ begins in
    let next : length (cs ++ None ∷ []) ≡ suc (length cs) = let e = length_push cs None in omega (arith, e) in
    before v world (earlier_child read w v (length cs) (length (cs ++ None ∷ [])) 0 next (λ is. absurd (true≢false (sym is ∙ not))) alike)
    (first_so (begins_with c v) true both))

-- A span more.

-- the column of these parts
abbrev pub of_parts : List (Option ℕ) → List Span → Column
of_parts cs xs = record { children = cs; spans = xs }

going_span : (cs : List (Option ℕ)) (xs : List Span) (x y : Span) (w : World) (k : ℕ) → length cs ≡ length w.choices → k ≡ length xs → take k (xs ++ x ∷ []) ≡ xs
    → going_on (of_parts cs (xs ++ y ∷ [])) w ≡ with_span (of_parts cs (xs ++ x ∷ [])) w k y
going_span cs xs x y w k many place first =
    let ms = map only w.cells in
    let n : length (xs ++ y ∷ []) ≡ suc k = let e = length_push xs y in omega (arith, e, place) in
    let e : ((xs ++ y ∷ []) ++ drop (length (xs ++ y ∷ [])) ms) ≡ (take k (xs ++ x ∷ []) ++ y ∷ drop (suc k) ms) =
    append_assoc xs (y ∷ []) (drop (length (xs ++ y ∷ [])) ms) ∙ ap (λ m. xs ++ y ∷ drop m ms) n ∙ ap (λ (zs : List Span). zs ++ y ∷ drop (suc k) ms) (sym first) in
    let long = length-map w.choices Some in
    let f : (cs ++ drop (length cs) (map Some w.choices)) ≡ cs = ap (λ (zs : List (Option ℕ)). cs ++ zs) (drop_all (length cs) (map Some w.choices) (omega (arith, many, long))) ∙ append-nil cs in
    λ i. record { children = f i; spans = e i }

pub earlier_cell : (read : ReadParts) (w v : World) (k m n : ℕ) → m ≡ suc k → (slice_index_or read.cells k true ≡ true → number_at k v ≡ number_at k w) → AreAs read w n m v → AreAs read w n k v
earlier_cell read w v k m n next here alike = record {
  children = alike.children;
  numbers = λ j from within is. elim (cases_lt k j) [
    | inl less ↦ alike.numbers j (omega (arith, less, next)) within is
    | inr past ↦
        let e : k ≡ j = omega (arith, from, past) in
        subst (λ i. number_at i v ≡ number_at i w) e (here (ap (λ i. slice_index_or read.cells i true) e ∙ is))
  ];
}

pub own_comes : (s : Spec) (read : ReadParts) (set : World → Bool) (w : World) (cs : List (Option ℕ)) (xs : List Span) (own : ℤ) → slice_get w.cells (length xs) ≡ Some own
    → NoneComes s read set w (of_parts cs xs) → NoneComes s read set w (of_parts cs (xs ++ only own ∷ []))
own_comes s read set w cs xs own at before = λ v world alike begins.
    let c = of_parts cs xs in
    let both = sym (begins_span c (only own) v) ∙ begins in
    let next : length (xs ++ only own ∷ []) ≡ suc (length xs) = let e = length_push xs (only own) in omega (arith, e) in
    before v world
    (earlier_cell read w v (length xs) (length (xs ++ only own ∷ [])) (length cs) next
    (λ is. same_number own (number_at (length xs) v) (second_so (begins_with c v) (in_span (only own) (number_at (length xs) v)) both) ∙ sym (index_of w.cells (length xs) own (pos 0) at)) alike)
    (first_so (begins_with c v) (in_span (only own) (number_at (length xs) v)) both)

held_comes : (s : Spec) (read : ReadParts) (set : World → Bool) (w : World) (cs : List (Option ℕ)) (xs : List Span) (t : InputType) (own : ℤ) (x : Span) → slice_get w.cells (length xs) ≡ Some own
    → NoneComes s read set w (of_parts cs xs) → IsWholeOrOne (λ y. NoneComes s read set w (of_parts cs (xs ++ y ∷ []))) t own x
    → NoneComes s read set w (of_parts cs (xs ++ x ∷ []))
held_comes s read set w cs xs t own x at before (whole h) = h
held_comes s read set w cs xs t own x at before (one h) = own_comes s read set w cs xs own at before

span_comes : (s : Spec) (read : ReadParts) (set : World → Bool) (w : World) (cs : List (Option ℕ)) (xs : List Span) (names : List Name) (t : InputType) (own : ℤ) (x : Span) → slice_get w.cells (length xs) ≡ Some own
    → NoneComes s read set w (of_parts cs xs) → IsSpanOf names (λ y. NoneComes s read set w (of_parts cs (xs ++ y ∷ []))) t own x
    → NoneComes s read set w (of_parts cs (xs ++ x ∷ []))
span_comes s read set w cs xs [] t own x at before h = h.lies
span_comes s read set w cs xs (name ∷ names) t own x at before h = held_comes s read set w cs xs t own x at before h

pub next_span : (s : Spec) (read : ReadParts) (set : World → Bool) (w : World) (cs : List (Option ℕ)) (xs : List Span) (i : InputCell) (own : ℤ) (x : Span) → IsWorld s w → IsOfParts s read set
    → length cs ≡ length w.choices → slice_get (cells s) (length xs) ≡ Some i → slice_get w.cells (length xs) ≡ Some own → IsBegun s read set w (of_parts cs xs)
    → IsSpanOf i.numbers.names (λ y. NoneComes s read set w (of_parts cs (xs ++ y ∷ []))) i.numbers own x → IsBegun s read set w (of_parts cs (xs ++ x ∷ []))
next_span s read set w cs xs i own x is of many cell at begun widest = record {
  none_comes = span_comes s read set w cs xs i.numbers.names i.numbers own x at begun.none_comes widest;
  child = begun.child;
  numbers = λ k o j y cell_at own_at there. elim (before_or_last xs x y k there) [
    | inl h ↦ subst (λ first. IsSpanOf j.numbers.names (λ z. LiesIn s set (record { children = cs; spans = first ++ z ∷ drop (suc k) (map only w.cells) })) j.numbers o y)
        (sym h.first) (begun.numbers k o j y cell_at own_at h.at)
    | inr h ↦
        let less : length xs < length w.cells = there_less w.cells (length xs) own at in
        let as_many : (z : Span) → length (xs ++ z ∷ []) ≤ length w.cells = λ z. let e = length_push xs z in omega (arith, e, less) in
        let within : length cs ≤ length w.choices = omega (arith, many) in
        let same : own ≡ o = sym (index_of w.cells (length xs) own (pos 0) at) ∙ ap (λ m. number_at m w) (sym h.place) ∙ index_of w.cells k o (pos 0) own_at in
        let cell_is : i ≡ j = sym (index_of (cells s) (length xs) i i cell) ∙ ap (λ m. slice_index_or (cells s) m i) (sym h.place) ∙ index_of (cells s) k j i cell_at in
        subst (λ (c : InputCell). IsSpanOf c.numbers.names (λ z. LiesIn s set (with_span (of_parts cs (xs ++ x ∷ [])) w k z)) c.numbers o y) cell_is
        (subst (λ m. IsSpanOf i.numbers.names (λ z. LiesIn s set (with_span (of_parts cs (xs ++ x ∷ [])) w k z)) i.numbers m y) same
        (subst (λ z. IsSpanOf i.numbers.names (λ z. LiesIn s set (with_span (of_parts cs (xs ++ x ∷ [])) w k z)) i.numbers own z) h.item
        (span_as
        (λ z none. subst (LiesIn s set) (going_span cs xs x z w k many h.place h.first) (lies_so s read set w (of_parts cs (xs ++ z ∷ [])) within (as_many z) none))
        (λ z lies. none_so s read set w (of_parts cs (xs ++ z ∷ [])) within (as_many z) is of (subst (LiesIn s set) (sym (going_span cs xs x z w k many h.place h.first)) lies))
        i.numbers.names i.numbers own x widest)))
  ];
}

reaches : (n : ℤ) → int_le n n ≡ true
reaches n = grind (arith, ints)

all_is : (names : List Name) (Lies : Span → Type 0) (t : InputType) (own : ℤ) → is_of t own ≡ true → Lies (all_of t) → IsSpanOf names Lies t own (all_of t)
all_is [] Lies t own of h =
    let low = first_so (int_le t.low own) (int_le own t.high) of in
    let high = second_so (int_le t.low own) (int_le own t.high) of in
    let ends : int_le t.low t.high ≡ true = grind (arith, ints, low, high) in
    record {
      around = of;
      of_type = (and_from (int_le t.low t.low) (int_le t.low t.high) (reaches t.low) ends, and_from (int_le t.low t.high) (int_le t.high t.high) ends (reaches t.high));
      lies = h;
      highest = λ n up within g. within;
      lowest = λ n within down g. within;
    }
all_is (name ∷ names) Lies t own of h = whole h

pub unread_span : (s : Spec) (read : ReadParts) (set : World → Bool) (w : World) (cs : List (Option ℕ)) (xs : List Span) (i : InputCell) (own : ℤ) → slice_index_or read.cells (length xs) true ≡ false
    → is_of i.numbers own ≡ true → NoneComes s read set w (of_parts cs xs) → IsSpanOf i.numbers.names (λ y. NoneComes s read set w (of_parts cs (xs ++ y ∷ []))) i.numbers own (all_of i.numbers)
unread_span s read set w cs xs i own not of before =
    all_is i.numbers.names (λ y. NoneComes s read set w (of_parts cs (xs ++ y ∷ []))) i.numbers own of (λ v world alike begins.
    let c = of_parts cs xs in
    let x = all_of i.numbers in
    let both = sym (begins_span c x v) ∙ begins in
    let next : length (xs ++ x ∷ []) ≡ suc (length xs) = let e = length_push xs x in omega (arith, e) in
    before v world (earlier_cell read w v (length xs) (length (xs ++ x ∷ [])) (length cs) next (λ is. absurd (true≢false (sym is ∙ not))) alike)
    (first_so (begins_with c v) (in_span x (number_at (length xs) v)) both))
