-- The column of a set from one of its worlds lies in the set.
use Rattle.std.proofs.Common.{◌≡◌, ◌==◌, ℕ, Bool, true, List, [], ◌∷◌, map, Option, Some, refl, sym, subst, true≢false, ℤ, int_le, IsTrue, arith}
use Rattle.std.specs.Cmp.{first_so, second_so}
use Rattle.std.specs.Cmp.Lexicographic.{pointwise}
use Rattle.std.proofs.lemmas.Bool.Decides.{nat_tests}
use Rattle.std.proofs.lemmas.Int.{ints}
use Rattle.rsml_syntax.specs.declared.syntax.Spec.{Spec}
use Rattle.rsml_syntax.specs.declared.world.World.{World}
use Rattle.rsml_syntax.specs.text.Names.{Name}
use Rattle.rsml_meaning.specs.Instances.{components}
use Rattle.rsml_meaning.specs.Cells.{InputType, cells, is_of}
use Rattle.rsml_meaning.specs.Worlds.{IsWorld, is_choice}
use Rattle.world_columns.specs.declared.column.Span.{Span}
use Rattle.world_columns.specs.declared.column.Column.{Column}
use Rattle.world_columns.specs.Columns.{LiesIn, alone, in_span, is_allowed, lies_in, only}
use Rattle.world_columns.specs.Gaps.{IsColumn, IsSpanOf, IsWholeOrOne, IsWidestChild, with_child, with_span, any, one, whole}
use Rattle.world_columns.proofs.Lists.{beside, changed}

-- A world alone.

same_child : (m n : ℕ) → (n == m) ≡ true → m ≡ n
same_child m n h = grind (arith, nat_tests, h)

same_number : (m n : ℤ) → in_span (only m) n ≡ true → m ≡ n
same_number m n h =
    let up = first_so (int_le m n) (int_le n m) h in
    let down = second_so (int_le m n) (int_le n m) h in
    let e : m ≡ n = grind (arith, ints, up, down) in e

same_items : {A B : Type 0} (t : A → B → Bool) (f : B → A) → ((m n : B) → t (f m) n ≡ true → m ≡ n)
    → (ms ns : List B) → pointwise t (map f ms) ns ≡ true → ms ≡ ns
same_items t f same [] [] h = refl
same_items t f same [] (n ∷ ns) h = absurd (true≢false (sym h))
same_items t f same (m ∷ ms) [] h = absurd (true≢false (sym h))
same_items t f same (m ∷ ms) (n ∷ ns) h =
    let here : m ≡ n = same m n (first_so (t (f m) n) (pointwise t (map f ms) ns) h) in
    let rest : ms ≡ ns = same_items t f same ms ns (second_so (t (f m) n) (pointwise t (map f ms) ns) h) in
    λ i. here i ∷ rest i

alone_is : (w v : World) → lies_in (alone w) v ≡ true → w ≡ v
alone_is w v h =
    let choices : w.choices ≡ v.choices = same_items is_allowed Some same_child w.choices v.choices
    (first_so (pointwise is_allowed (map Some w.choices) v.choices) (pointwise in_span (map only w.cells) v.cells) h) in
    let numbers : w.cells ≡ v.cells = same_items in_span only same_number w.cells v.cells
    (second_so (pointwise is_allowed (map Some w.choices) v.choices) (pointwise in_span (map only w.cells) v.cells) h) in
    λ i. record { choices = choices i; cells = numbers i }

pub alone_lies : (s : Spec) (set : World → Bool) (w : World) → IsTrue (set w) → LiesIn s set (alone w)
alone_lies s set w is = λ v world inside. subst (λ u. IsTrue (set u)) (alone_is w v inside) is

-- Part by part.

child_kept : (Lies : Option ℕ → Type 0) (own : ℕ) (x : Option ℕ) → IsWidestChild Lies own x → Lies (Some own) → Lies x
child_kept Lies own x (any h) q = h
child_kept Lies own x (one h) q = q

whole_kept : (Lies : Span → Type 0) (t : InputType) (own : ℤ) (x : Span) → IsWholeOrOne Lies t own x → Lies (only own) → Lies x
whole_kept Lies t own x (whole h) q = h
whole_kept Lies t own x (one h) q = q

span_kept : (names : List Name) (Lies : Span → Type 0) (t : InputType) (own : ℤ) (x : Span) → IsSpanOf names Lies t own x → Lies (only own) → Lies x
span_kept [] Lies t own x h q = h.lies
span_kept (name ∷ names) Lies t own x h q = whole_kept Lies t own x h q

pub cells_are : (s : Spec) (w : World) → IsWorld s w → pointwise (λ c n. is_of c.numbers n) (cells s) w.cells ≡ true
cells_are s w h = second_so (pointwise is_choice (components s) w.choices) (pointwise (λ c n. is_of c.numbers n) (cells s) w.cells) h

-- the column of a set from one of its worlds lies in the set
pub column_lies : (s : Spec) (set : World → Bool) (w : World) (c : Column) → IsWorld s w → IsTrue (set w) → IsColumn s set w c → LiesIn s set c
column_lies s set w c world is h =
    changed (λ spans. LiesIn s set (record { children = c.children; spans = spans })) only c.spans w.cells h.spans
    (λ k x own at there q.
    let i = beside (λ i n. is_of i.numbers n) (cells s) w.cells (cells_are s w world) k own there in
    span_kept i.0.numbers.names (λ y. LiesIn s set (with_span c w k y)) i.0.numbers own x (h.numbers k own i.0 x i.1 there at) q)
    (changed (λ children. LiesIn s set (record { children = children; spans = (alone w).spans })) Some c.children w.choices h.children
    (λ k x own at there q. child_kept (λ child. LiesIn s set (with_child c w k child)) own x (h.child k own x there at) q)
    (alone_lies s set w is))
