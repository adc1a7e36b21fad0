-- A set has one column from one of its worlds.
use Rattle.std.proofs.Common.{◌≡◌, ℕ, suc, Bool, true, List, [], ◌∷◌, ◌++◌, map, take, drop, Option, refl, sym, subst, ℤ, int_le, arith}
use Rattle.std.specs.Cmp.{first_so, second_so}
use Rattle.std.specs.Cmp.Lexicographic.{pointwise}
use Rattle.std.proofs.lemmas.Int.{ints}
use Rattle.rsml_syntax.specs.declared.syntax.Spec.{Spec}
use Rattle.rsml_syntax.specs.declared.world.World.{World}
use Rattle.rsml_syntax.specs.text.Names.{Name}
use Rattle.rsml_meaning.specs.Cells.{InputType, cells, is_of}
use Rattle.rsml_meaning.specs.Worlds.{IsWorld}
use Rattle.world_columns.specs.declared.column.Span.{Span}
use Rattle.world_columns.specs.declared.column.Column.{Column}
use Rattle.world_columns.specs.Columns.{LiesIn, alone, in_span, is_allowed, only, span}
use Rattle.world_columns.specs.Gaps.{IsColumn, IsSpanOf, IsWholeOrOne, IsWidestChild, IsWidestSpan, with_child, with_span, any, one, whole}
use Rattle.world_columns.proofs.Lists.{alike, beside, both, lets_pass}
use Rattle.world_columns.proofs.Inside.{cells_are}

one_child : (Lies : Option ℕ → Type 0) (own : ℕ) (x y : Option ℕ) → IsWidestChild Lies own x → IsWidestChild Lies own y → x ≡ y
one_child Lies own x y (any h) (any k) = refl
one_child Lies own x y (any h) (one k) = absurd (k h)
one_child Lies own x y (one h) (any k) = absurd (h k)
one_child Lies own x y (one h) (one k) = refl

one_enumeration : (Lies : Span → Type 0) (t : InputType) (own : ℤ) (x y : Span) → IsWholeOrOne Lies t own x → IsWholeOrOne Lies t own y → x ≡ y
one_enumeration Lies t own x y (whole h) (whole k) = refl
one_enumeration Lies t own x y (whole h) (one k) = absurd (k h)
one_enumeration Lies t own x y (one h) (whole k) = absurd (h k)
one_enumeration Lies t own x y (one h) (one k) = refl

-- a span that begins later holds fewer numbers
abbrev pub Narrows : (Span → Type 0) → Type 0
Narrows Lies = (low own high : ℤ) → int_le low own ≡ true → Lies (span low high) → Lies (span own high)

same_end : (m n : ℤ) → int_le m n ≡ true → int_le n m ≡ true → m ≡ n
same_end m n a b = let e : m ≡ n = grind (arith, ints, a, b) in e

as_high : (Lies : Span → Type 0) → Narrows Lies → (t : InputType) (own : ℤ) (x y : Span) → IsWidestSpan Lies t own x → IsWidestSpan Lies t own y
    → int_le x.high y.high ≡ true
as_high Lies narrow t own x y h k =
    k.highest x.high (second_so (int_le x.low own) (int_le own x.high) h.around)
    (second_so (int_le t.low x.high) (int_le x.high t.high) h.of_type.1)
    (narrow x.low own x.high (first_so (int_le x.low own) (int_le own x.high) h.around) h.lies)

as_low : (Lies : Span → Type 0) (t : InputType) (own : ℤ) (x y : Span) → x.high ≡ y.high → IsWidestSpan Lies t own x → IsWidestSpan Lies t own y
    → int_le y.low x.low ≡ true
as_low Lies t own x y same h k =
    k.lowest x.low (first_so (int_le t.low x.low) (int_le x.low t.high) h.of_type.0)
    (first_so (int_le x.low own) (int_le own x.high) h.around)
    (subst (λ high. Lies (span x.low high)) same h.lies)

one_range : (Lies : Span → Type 0) → Narrows Lies → (t : InputType) (own : ℤ) (x y : Span) → IsWidestSpan Lies t own x → IsWidestSpan Lies t own y → x ≡ y
one_range Lies narrow t own x y h k =
    let high : x.high ≡ y.high = same_end x.high y.high (as_high Lies narrow t own x y h k) (as_high Lies narrow t own y x k h) in
    let low : x.low ≡ y.low = same_end x.low y.low (as_low Lies t own y x (sym high) k h) (as_low Lies t own x y high h k) in
    λ i. record { low = low i; high = high i }

one_span : (names : List Name) (Lies : Span → Type 0) → Narrows Lies → (t : InputType) (own : ℤ) (x y : Span)
    → IsSpanOf names Lies t own x → IsSpanOf names Lies t own y → x ≡ y
one_span [] Lies narrow t own x y h k = one_range Lies narrow t own x y h k
one_span (name ∷ names) Lies narrow t own x y h k = one_enumeration Lies t own x y h k

later_holds : (low own high n : ℤ) → int_le low own ≡ true → in_span (span own high) n ≡ true → in_span (span low high) n ≡ true
later_holds low own high n up h =
    let a = first_so (int_le own n) (int_le n high) h in
    both (int_le low n) (int_le n high) (let e : int_le low n ≡ true = grind (arith, ints, up, a) in e) (second_so (int_le own n) (int_le n high) h)

-- a column with a narrower span lies where it lay
narrower : (s : Spec) (set : World → Bool) (c : Column) (w : World) (k : ℕ) → Narrows (λ y. LiesIn s set (with_span c w k y))
narrower s set c w k low own high up lies = λ v world inside.
    let before = take k c.spans in
    let after = drop (suc k) (map only w.cells) in
    lies v world (both (pointwise is_allowed c.children v.choices) (pointwise in_span (before ++ span low high ∷ after) v.cells)
    (first_so (pointwise is_allowed c.children v.choices) (pointwise in_span (before ++ span own high ∷ after) v.cells) inside)
    (lets_pass in_span before after (span own high) (span low high) v.cells (λ n. later_holds low own high n up)
    (second_so (pointwise is_allowed c.children v.choices) (pointwise in_span (before ++ span own high ∷ after) v.cells) inside)))

-- Whole columns.

same_children : (s : Spec) (set : World → Bool) (w : World) (c d : Column) → IsColumn s set w c → IsColumn s set w d → c.children ≡ d.children
same_children s set w c d h k =
    alike c.children d.children w.choices h.children k.children
    (λ n x y own at there own_at same.
    one_child (λ child. LiesIn s set (with_child d w n child)) own x y
    (subst (λ first. IsWidestChild (λ child. LiesIn s set (record { children = first ++ child ∷ drop (suc n) (alone w).children; spans = (alone w).spans })) own x) same
    (h.child n own x own_at at))
    (k.child n own y own_at there))

same_spans : (s : Spec) (set : World → Bool) (w : World) (c d : Column) → IsWorld s w → c.children ≡ d.children → IsColumn s set w c → IsColumn s set w d
    → c.spans ≡ d.spans
same_spans s set w c d world children h k =
    alike c.spans d.spans w.cells h.spans k.spans
    (λ n x y own at there own_at same.
    let i = beside (λ i n. is_of i.numbers n) (cells s) w.cells (cells_are s w world) n own own_at in
    one_span i.0.numbers.names (λ z. LiesIn s set (with_span d w n z)) (narrower s set d w n) i.0.numbers own x y
    (subst (λ first. IsSpanOf i.0.numbers.names (λ z. LiesIn s set (record { children = d.children; spans = first ++ z ∷ drop (suc n) (alone w).spans })) i.0.numbers own x) same
    (subst (λ ones. IsSpanOf i.0.numbers.names (λ z. LiesIn s set (record { children = ones; spans = take n c.spans ++ z ∷ drop (suc n) (alone w).spans })) i.0.numbers own x) children
    (h.numbers n own i.0 x i.1 own_at at)))
    (k.numbers n own i.0 y i.1 own_at there))

-- a set has one column from one of its worlds
pub one_column : (s : Spec) (set : World → Bool) (w : World) (c d : Column) → IsWorld s w → IsColumn s set w c → IsColumn s set w d → c ≡ d
one_column s set w c d world h k =
    let children = same_children s set w c d h k in
    let spans = same_spans s set w c d world children h k in
    λ i. record { children = children i; spans = spans i }
