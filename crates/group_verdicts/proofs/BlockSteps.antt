-- Low worlds narrowed down to those in which blocks of cells have their least numbers.
use Rattle.std.proofs.Common.{◌≡◌, ℕ, ◌+◌, ◌-◌, ◌<◌, ◌≤◌, ◌↔◌, Bool, true, false, ◌&&◌, List, [], ◌∷◌, ◌++◌, map, take, drop, length, Option, Some, None, IfSome, refl, sym, ap, ◌∙◌, subst, true≢false, slice_get, slice_index_or, int_le, pos, ℤ, IsTrue, inl, inr, arith}
use Rattle.std.specs.Cmp.{first_so, second_so}
use Rattle.std.specs.Cmp.Lexicographic.{slice_cmp}
use Rattle.std.specs.Ordering.{int_cmp}
use Rattle.std.proofs.lemmas.Bool.{cases_lt}
use Rattle.std.proofs.lemmas.Int.{ints}
use Rattle.std.proofs.lemmas.List.{length-append, length_push}
use Rattle.std.proofs.lemmas.Option.{same_Some}
use Rattle.rsml_syntax.specs.declared.syntax.Spec.{Spec}
use Rattle.rsml_syntax.specs.declared.world.World.{World}
use Rattle.rsml_meaning.specs.Cells.{InputCell, cells}
use Rattle.rsml_meaning.specs.Worlds.{IsWorld}
use Rattle.guard_encode.specs.declared.reading.ReadParts.{ReadParts}
use Rattle.guard_encode.specs.Encoding.{Encoding, Finds, Keeps, Tells}
use Rattle.guard_encode.proofs.FindLemmas.{found_on}
use Rattle.guard_encode.proofs.StepLemmas.{keeps_on}
use Rattle.group_verdicts.specs.Narrowing.{IsOfNone, Narrows, IsLow, IsOfRead, AreLeast, low_of, lows}
use Rattle.group_verdicts.specs.Finding.{FindsPassing, IsLeastPart, NarrowedLow, NarrowedOn, NarrowedTo, TellsLeast}
use Rattle.group_verdicts.proofs.LowBlocks.{block_narrows, blocks_fixed, lows_length}
use Rattle.group_verdicts.proofs.Keeping.{on_new, on_old, some_on}
use Rattle.group_verdicts.proofs.ListSteps.{least_part, narrowed_all, narrowed_more}
use Rattle.group_verdicts.proofs.Low.{is_low, low_is_world, read_value}
use Rattle.group_verdicts.proofs.LowSteps.{alike}
use Rattle.group_verdicts.proofs.Parts.{many_cells, number_above}

-- What is told of a block.

-- that of no cell
pub no_cells : (e : Encoding) (read : ReadParts) (from r : ℕ) → Tells e (λ w. true) r → TellsLeast e read from from r
no_cells e read from r told = record {
  test = λ w. true;
  told = told;
  exact = λ w is. (λ _ k c after less. absurd (omega (arith, after, less)), λ _. refl);
}

-- one cell more
least_more : (s : Spec) (read : ReadParts) (from place : ℕ) (w : World) → AreLeast s read from place w
    → ((c : InputCell) → slice_get (cells s) place ≡ Some c → slice_index_or read.cells place true ≡ true → slice_index_or w.cells place (pos 0) ≡ c.numbers.low)
    → AreLeast s read from (place + 1) w
least_more s read from place w before here = λ k c after less at is.
    elim (cases_lt k place) [
      | inl l ↦ before k c after l at is
      | inr l ↦ let e : place ≡ k = omega (arith, l, less) in
          subst (λ (n : ℕ). slice_get (cells s) n ≡ Some c → slice_index_or read.cells n true ≡ true → slice_index_or w.cells n (pos 0) ≡ c.numbers.low) e (here c) at is
    ]

least_fewer : (s : Spec) (read : ReadParts) (from place : ℕ) (w : World) → AreLeast s read from (place + 1) w → AreLeast s read from place w
least_fewer s read from place w h = λ k c after less at is. h k c after (omega (arith, less)) at is

-- a cell that is not read
pub unread_cell : (e : Encoding) (read : ReadParts) (from place r : ℕ) → slice_index_or read.cells place true ≡ false
    → TellsLeast e read from place r → TellsLeast e read from (place + 1) r
unread_cell e read from place r not h = record {
  test = h.test;
  told = h.told;
  exact = λ w is. (
    λ k. least_more e.machine.base.spec read from place w ((h.exact w is).0 k) (λ c at is. absurd (true≢false (sym is ∙ not))),
    λ k. (h.exact w is).1 (least_fewer e.machine.base.spec read from place w k),
  );
}

-- a number at most the least is the least
at_least : (low n : ℤ) → int_le low n ≡ true → int_le n low ≡ true → n ≡ low
at_least low n a b = grind (arith, ints)

itself : (low n : ℤ) → n ≡ low → int_le n low ≡ true
itself low n e = grind (arith, ints)

-- a cell that is read
pub read_cell : (a b : Encoding) (read : ReadParts) (c : InputCell) (from place : ℕ) (low : ℤ) (f r : ℕ) → Keeps a b
    → from ≤ place → slice_get (cells a.machine.base.spec) place ≡ Some c → low ≡ c.numbers.low → slice_index_or read.cells place true ≡ true
    → (h : TellsLeast a read from place f) → Tells b (λ w. h.test w && int_le (slice_index_or w.cells place (pos 0)) low) r
    → TellsLeast b read from (place + 1) r
read_cell a b read c from place low f r ab order at is_low is h told = record {
  test = λ w. h.test w && int_le (slice_index_or w.cells place (pos 0)) low;
  told = told;
  exact = on_new (λ s. (w : World) → IsWorld s w → IsTrue (h.test w && int_le (slice_index_or w.cells place (pos 0)) low) ↔ AreLeast s read from (place + 1) w) a b ab
      (λ w own. (to w own, back w own));
}
  where
    lows_are : (d : InputCell) → slice_get (cells a.machine.base.spec) place ≡ Some d → low ≡ d.numbers.low
    lows_are d there = is_low ∙ ap (λ (x : InputCell). x.numbers.low) (same_Some c d (sym at ∙ there))

    to : (w : World) → IsWorld a.machine.base.spec w → IsTrue (h.test w && int_le (slice_index_or w.cells place (pos 0)) low) → AreLeast a.machine.base.spec read from (place + 1) w
    to w own k =
        least_more a.machine.base.spec read from place w
        ((h.exact w own).0 (first_so (h.test w) (int_le (slice_index_or w.cells place (pos 0)) low) k))
        (λ d there _.
        at_least d.numbers.low (slice_index_or w.cells place (pos 0)) (number_above a.machine.base.spec w own place d there)
        (ap (λ z. int_le (slice_index_or w.cells place (pos 0)) z) (sym (lows_are d there)) ∙ second_so (h.test w) (int_le (slice_index_or w.cells place (pos 0)) low) k))

    back : (w : World) → IsWorld a.machine.base.spec w → AreLeast a.machine.base.spec read from (place + 1) w → IsTrue (h.test w && int_le (slice_index_or w.cells place (pos 0)) low)
    back w own k = λ i.
        (h.exact w own).1 (least_fewer a.machine.base.spec read from place w k) i
        && itself low (slice_index_or w.cells place (pos 0)) (k place c order (omega arith) at is ∙ sym is_low) i

-- What is narrowed down.

-- whether cells that are read have their least numbers, a world tells as the low one does
low_alike : (s : Spec) (read : ReadParts) (from to : ℕ) (test : World → Bool)
    → ((w : World) → IsWorld s w → IsTrue (test w) ↔ AreLeast s read from to w) → IsOfRead s read test
low_alike s read from to test exact w is =
    alike (test (low_of s read w)) (test w)
    (λ k. (exact w is).1 (λ j c after less at own. sym (same j own) ∙ (exact (low_of s read w) (low_is_world s read w is)).0 k j c after less at own))
    (λ k. (exact (low_of s read w) (low_is_world s read w is)).1 (λ j c after less at own. same j own ∙ (exact w is).0 k j c after less at own))
  where
    same : (j : ℕ) → slice_index_or read.cells j true ≡ true → slice_index_or (low_of s read w).cells j (pos 0) ≡ slice_index_or w.cells j (pos 0)
    same j own = read_value read.cells (map (λ c. c.numbers.low) (cells s)) w.cells j (pos 0) own

-- the worlds in which the cells of a block have their least numbers, where there are some
pub low_block : (a b c : Encoding) (read : ReadParts) (from to f test : ℕ) (found : Option ℕ) → Keeps a b → Keeps b c → from ≤ to → to ≤ length (cells a.machine.base.spec)
    → TellsLeast b read from to test → ((passes : World → Bool) → Tells b passes test → FindsPassing b c passes f found)
    → IfSome found (NarrowedLow a c read (slice_cmp int_cmp) (λ w. take (to - from) (drop from w.cells)) (lows a.machine.base.spec from to) f)
low_block a b c read from to f test None ab bc order within h passing = tt
low_block a b c read from to f test (Some r) ab bc order within h passing = λ truth found of_read some.
    let s = a.machine.base.spec in
    let exact = on_old (λ z. (w : World) → IsWorld z w → IsTrue (h.test w) ↔ AreLeast z read from to w) a b ab h.exact in
    let ac = keeps_on a b c ab bc in
    let p = passing h.test h.told truth (found_on a b truth f ab found) (some_on a b truth ab (λ none. some (λ w is. none w is.is_world))) in
    let next : World → Bool = λ w. truth w && h.test w in
    let test_of_read = low_alike s read from to h.test exact in
    let next_of_read : IsOfRead s read next = λ w is i. of_read w is i && test_of_read w is i in
    record {
      next = next;
      found = p.0;
      of_read = on_new (λ z. IsOfRead z read next) a c ac next_of_read;
      narrows = on_new (λ z. Narrows (IsLow z read) (slice_cmp int_cmp) (λ w. take (to - from) (drop from w.cells)) (lows s from to) truth next) a c ac
          (block_narrows s read from to truth next order within
          (λ none. p.1 (on_new (λ z. IsOfNone (IsWorld z) next) a c ac (λ w is. sym (next_of_read w is) ∙ none (low_of s read w) (is_low s read w is))))
          (λ w is k. (first_so (truth w) (h.test w) k, (exact w is.is_world).0 (second_so (truth w) (h.test w) k)))
          (λ w is k least i. k i && (exact w is.is_world).1 least i));
    }

-- One step after another.

-- no more numbers
pub on_still : (a b : Encoding) (read : ReadParts) (xs : List ℤ) (f : ℕ) → Keeps a b → NarrowedOn a b read xs xs f f
on_still a b read xs f ab = λ first g fa before truth found of_read some.
    let t = before truth found of_read some in
    record {
      next = t.next;
      found = found_on a b t.next f ab t.found;
      of_read = on_new (λ s. IsOfRead s read t.next) a b ab t.of_read;
      narrows = on_new (λ s. Narrows (IsLow s read) (slice_cmp int_cmp) (λ w. take (length xs) w.cells) xs truth t.next) a b ab t.narrows;
    }

-- the same worlds, found by another function
pub on_again : (a b c : Encoding) (read : ReadParts) (xs ys : List ℤ) (f g r : ℕ) → Keeps b c → NarrowedOn a b read xs ys f g
    → ((truth : World → Bool) → Finds b truth g → Finds c truth r) → NarrowedOn a c read xs ys f r
on_again a b c read xs ys f g r bc on again = λ first h fa before truth found of_read some.
    let t = on first h fa before truth found of_read some in
    record {
      next = t.next;
      found = again t.next t.found;
      of_read = on_new (λ s. IsOfRead s read t.next) b c bc t.of_read;
      narrows = on_new (λ s. Narrows (IsLow s read) (slice_cmp int_cmp) (λ w. take (length ys) w.cells) ys truth t.next) b c bc t.narrows;
    }

-- more numbers, and then more
pub on_both : (a b c : Encoding) (read : ReadParts) (xs ys zs : List ℤ) (f g r : ℕ) → Keeps a b → NarrowedOn a b read xs ys f g → NarrowedOn b c read ys zs g r
    → NarrowedOn a c read xs zs f r
on_both a b c read xs ys zs f g r ab one other = λ first h fa before. other first h (keeps_on first a b fa ab) (one first h fa before)

-- the number of one more cell
pub on_one : (a b : Encoding) (read : ReadParts) (xs : List ℤ) (n : ℕ) (x : ℤ) (f r : ℕ) → Keeps a b → length xs ≡ n → n < length (cells a.machine.base.spec)
    → NarrowedLow a b read int_cmp (λ w. slice_index_or w.cells n (pos 0)) x f r → NarrowedOn a b read xs (xs ++ x ∷ []) f r
on_one a b read xs n x f r ab long less h = λ first g fa before.
    let s = first.machine.base.spec in
    let room : n < length (cells s) = on_old (λ z. n < length (cells z)) first a fa less in
    subst (λ (k : ℕ). NarrowedLow first b read (slice_cmp int_cmp) (λ w. take k w.cells) (xs ++ x ∷ []) g r) (sym (length_push xs x ∙ ap (λ k. k + 1) long))
    (narrowed_more first a b read int_cmp (λ w. w.cells) (pos 0) n (length (cells s)) (many_cells s) fa ab room xs long x g f r
    (subst (λ (k : ℕ). NarrowedLow first a read (slice_cmp int_cmp) (λ w. take k w.cells) xs g f) long before) h)

-- the numbers of a block
pub on_block : (a b : Encoding) (read : ReadParts) (xs : List ℤ) (from to f r : ℕ) → Keeps a b → length xs ≡ from → from ≤ to
    → to ≤ length (cells a.machine.base.spec)
    → NarrowedLow a b read (slice_cmp int_cmp) (λ w. take (to - from) (drop from w.cells)) (lows a.machine.base.spec from to) f r
    → NarrowedOn a b read xs (xs ++ lows a.machine.base.spec from to) f r
on_block a b read xs from to f r ab long order within h = λ first g fa before truth found of_read some.
    let ys = lows a.machine.base.spec from to in
    let t = before truth found of_read some in
    let u = h t.next t.found t.of_read t.narrows.some in
    let so_many : from + (to - from) ≡ length (xs ++ ys) =
    (let l = lows_length a.machine.base.spec from to within in let m = length-append xs ys in omega (arith, order, long, l, m)) in
    record {
      next = u.next;
      found = u.found;
      of_read = u.of_read;
      narrows = subst (λ (k : ℕ). Narrows (IsLow b.machine.base.spec read) (slice_cmp int_cmp) (λ w. take k w.cells) (xs ++ ys) truth u.next) so_many
          (blocks_fixed (IsLow b.machine.base.spec read) int_cmp (λ w. w.cells) from (to - from) room xs ys long truth t.next u.next
          (on_new (λ s. Narrows (IsLow s read) (slice_cmp int_cmp) (λ w. take from w.cells) xs truth t.next) a b ab
          (subst (λ (k : ℕ). Narrows (IsLow a.machine.base.spec read) (slice_cmp int_cmp) (λ w. take k w.cells) xs truth t.next) long t.narrows))
          u.narrows);
    }
  where
    room : (w : World) → IsLow b.machine.base.spec read w → from ≤ length w.cells
    room w is =
        let l = many_cells b.machine.base.spec w is.is_world in
        let m : to ≤ length (cells b.machine.base.spec) = on_new (λ s. to ≤ length (cells s)) a b ab within in
        omega (arith, order, l, m)

-- all numbers
pub all_numbers : (a b : Encoding) (read : ReadParts) (xs : List ℤ) (f r : ℕ) → Keeps a b → length xs ≡ length (cells a.machine.base.spec)
    → NarrowedTo a b read xs f r → IsLeastPart a read (slice_cmp int_cmp) (λ w. w.cells) xs f
all_numbers a b read xs f r ab long h =
    let s = a.machine.base.spec in
    least_part a b read (slice_cmp int_cmp) (λ w. w.cells) xs f r ab
    (narrowed_all a b read int_cmp (λ w. w.cells) (length xs) (length (cells s)) long (many_cells s) ab xs f r h)
