-- Whether a column that begins with some parts, and goes on as one world, lies in a set.
use Rattle.std.proofs.Common.{◌≡◌, ◌==◌, ◌≤◌, ◌∙◌, ℕ, Bool, true, ◌++◌, length, map, drop, Some, sym, ℤ, int_le, pos, arith}
use Rattle.std.specs.Cmp.{first_so, second_so}
use Rattle.std.specs.Cmp.Lexicographic.{pointwise}
use Rattle.std.proofs.lemmas.Bool.{and_from}
use Rattle.std.proofs.lemmas.Bool.Decides.{nat_tests}
use Rattle.std.proofs.lemmas.Int.{ints}
use Rattle.rsml_syntax.specs.declared.syntax.Spec.{Spec}
use Rattle.rsml_syntax.specs.declared.world.World.{World}
use Rattle.rsml_meaning.specs.Worlds.{IsWorld}
use Rattle.guard_encode.specs.declared.reading.ReadParts.{ReadParts}
use Rattle.group_verdicts.specs.Narrowing.{lowered}
use Rattle.group_verdicts.proofs.Parts.{many_cells, many_choices}
use Rattle.world_columns.specs.declared.column.Column.{Column}
use Rattle.world_columns.specs.Columns.{LiesIn, in_span, is_allowed, only, passes_from}
use Rattle.gap_tables.specs.Widening.{IsOfParts, NoneComes}
use Rattle.gap_tables.proofs.Places.{first_pass, lowered_as, rest_as, skipping, still_unread}
use Rattle.gap_tables.proofs.Unread.{mixed, mixed_is_world, unread}

-- the parts of a column, and after them those of one world alone
abbrev pub going_on : Column → World → Column
going_on c w = record {
  children = c.children ++ drop (length c.children) (map Some w.choices);
  spans = c.spans ++ drop (length c.spans) (map only w.cells);
}

pub same_child : (m n : ℕ) → (n == m) ≡ true → n ≡ m
same_child m n h = grind (arith, nat_tests, h)

child_itself : (n : ℕ) → (n == n) ≡ true
child_itself n = grind (arith, nat_tests)

pub same_number : (m n : ℤ) → in_span (only m) n ≡ true → n ≡ m
same_number m n h =
    let up = first_so (int_le m n) (int_le n m) h in
    let down = second_so (int_le m n) (int_le n m) h in
    let e : n ≡ m = grind (arith, ints, up, down) in e

reaches_itself : (n : ℤ) → int_le n n ≡ true
reaches_itself n = grind (arith, ints)

pub number_itself : (n : ℤ) → in_span (only n) n ≡ true
number_itself n = and_from (int_le n n) (int_le n n) (reaches_itself n) (reaches_itself n)

-- It does where no world comes in.
pub lies_so : (s : Spec) (read : ReadParts) (set : World → Bool) (w : World) (c : Column) → length c.children ≤ length w.choices → length c.spans ≤ length w.cells
    → NoneComes s read set w c → LiesIn s set (going_on c w)
lies_so s read set w c children spans none = λ v world inside.
    let all = pointwise is_allowed (c.children ++ drop (length c.children) (map Some w.choices)) v.choices in
    let numbers = pointwise in_span (c.spans ++ drop (length c.spans) (map only w.cells)) v.cells in
    none v world (record {
      children = λ k from within is. rest_as is_allowed Some 0 same_child c.children w.choices v.choices children (first_so all numbers inside) k from within;
      numbers = λ k from within is. rest_as in_span only (pos 0) same_number c.spans w.cells v.cells spans (second_so all numbers inside) k from within;
    })
    (and_from (passes_from is_allowed 0 0 c.children v.choices) (passes_from in_span (pos 0) 0 c.spans v.cells)
    (first_pass is_allowed Some 0 c.children w.choices v.choices children (first_so all numbers inside))
    (first_pass in_span only (pos 0) c.spans w.cells v.cells spans (second_so all numbers inside)))

-- And where it does, none comes in, with any values in the parts that are not read.
pub none_so : (s : Spec) (read : ReadParts) (set : World → Bool) (w : World) (c : Column) → length c.children ≤ length w.choices → length c.spans ≤ length w.cells
    → IsWorld s w → IsOfParts s read set → LiesIn s set (going_on c w) → NoneComes s read set w c
none_so s read set w c children spans is of lies = λ v world alike begins.
    let choices = skipping c.children read.choices in
    let marks = skipping c.spans read.cells in
    let first = passes_from is_allowed 0 0 c.children v.choices in
    let numbers = passes_from in_span (pos 0) 0 c.spans v.cells in
    sym (unread s read set choices marks w v of (still_unread c.children read.choices) (still_unread c.spans read.cells) is world)
    ∙ lies (mixed choices marks w v) (mixed_is_world s choices marks w v is world)
    (and_from (pointwise is_allowed (c.children ++ drop (length c.children) (map Some w.choices)) (lowered choices w.choices v.choices))
    (pointwise in_span (c.spans ++ drop (length c.spans) (map only w.cells)) (lowered marks w.cells v.cells))
    (lowered_as is_allowed Some 0 child_itself c.children read.choices w.choices v.choices (many_choices s v world ∙ sym (many_choices s w is)) children (first_so first numbers begins) alike.children)
    (lowered_as in_span only (pos 0) number_itself c.spans read.cells w.cells v.cells (many_cells s v world ∙ sym (many_cells s w is)) spans (second_so first numbers begins) alike.numbers))
