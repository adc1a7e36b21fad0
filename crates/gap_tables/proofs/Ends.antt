-- The ends of a span, by halving.
use Rattle.std.proofs.Common.{◌≡◌, ◌↔◌, ℕ, Bool, true, false, ◌&&◌, refl, sym, ◌∙◌, true≢false, ◌+ℤ◌, ◌-ℤ◌, ◌≤ℤ◌, ◌<ℤ◌, ℤ, pos, int_le, arith, IsTrue}
use Rattle.std.specs.Cmp.{first_so, second_so}
use Rattle.std.proofs.lemmas.Bool.{and_from}
use Rattle.std.proofs.lemmas.Int.{ints}
use Rattle.rsml_syntax.specs.declared.syntax.Spec.{Spec}
use Rattle.rsml_syntax.specs.declared.world.World.{World}
use Rattle.guard_encode.specs.Encoding.{Encoding, IsOfCell, Keeps}
use Rattle.guard_encode.proofs.CellLemmas.{of_cell_on}
use Rattle.group_verdicts.proofs.Keeping.{on_new, on_old}
use Rattle.world_columns.specs.declared.column.Span.{Span}
use Rattle.world_columns.specs.Columns.{in_span, span}
use Rattle.gap_tables.specs.Widening.{HighestEnd, IsHighestEnd, IsLowestEnd, LowestEnd, NoneWithin, number_at}

-- Numbers.

itself : (n : ℤ) → int_le n n ≡ true
itself n = grind (arith, ints)

pub at_most_is : (m n : ℤ) → m ≤ℤ n → int_le m n ≡ true
at_most_is m n h = grind (arith, ints, h)

below_is : (m n : ℤ) → m <ℤ n → int_le m n ≡ true
below_is m n h = grind (arith, ints, h)

pub through : (a b c : ℤ) → int_le a b ≡ true → int_le b c ≡ true → int_le a c ≡ true
through a b c h k = grind (arith, ints, h, k)

not_below : (m n : ℤ) → (m <ℤ n → ⊥) → int_le n m ≡ true
not_below m n h = by (int_le n m) refl
  where
    so : int_le n m ≡ false → m <ℤ n
    so e = grind (arith, ints, e)

    by : (b : Bool) → int_le n m ≡ b → b ≡ true
    by true e = refl
    by false e = absurd (h (so e))

one_below : (n middle : ℤ) → (int_le middle n ≡ true → ⊥) → int_le n (middle -ℤ pos 1) ≡ true
one_below n middle never = by (int_le middle n) (int_le n (middle -ℤ pos 1)) refl refl
  where
    neither : int_le middle n ≡ false → int_le n (middle -ℤ pos 1) ≡ false → ⊥
    neither a b = grind (arith, ints, a, b)

    by : (x y : Bool) → int_le middle n ≡ x → int_le n (middle -ℤ pos 1) ≡ y → y ≡ true
    by true y a b = absurd (never a)
    by false true a b = refl
    by false false a b = absurd (neither a b)

one_above : (n middle : ℤ) → (int_le n middle ≡ true → ⊥) → int_le (middle +ℤ pos 1) n ≡ true
one_above n middle never = by (int_le n middle) (int_le (middle +ℤ pos 1) n) refl refl
  where
    neither : int_le n middle ≡ false → int_le (middle +ℤ pos 1) n ≡ false → ⊥
    neither a b = grind (arith, ints, a, b)

    by : (x y : Bool) → int_le n middle ≡ x → int_le (middle +ℤ pos 1) n ≡ y → y ≡ true
    by true y a b = absurd (never a)
    by false true a b = refl
    by false false a b = absurd (neither a b)

less_one : (from middle : ℤ) → from <ℤ middle → int_le from (middle -ℤ pos 1) ≡ true
less_one from middle less = grind (arith, ints, less)

one_less : (middle to : ℤ) → middle ≤ℤ to → int_le (middle -ℤ pos 1) to ≡ true
one_less middle to most = grind (arith, ints, most)

one_more : (from middle : ℤ) → from ≤ℤ middle → int_le from (middle +ℤ pos 1) ≡ true
one_more from middle least = grind (arith, ints, least)

more_one : (middle to : ℤ) → middle <ℤ to → int_le (middle +ℤ pos 1) to ≡ true
more_one middle to less = grind (arith, ints, less)

-- Ends of what holds.

-- it holds of all numbers below one of which it does, or above
abbrev pub Downward : (ℤ → Type 0) → Type 0
Downward Holds = (m n : ℤ) → int_le m n ≡ true → Holds n → Holds m

abbrev pub Upward : (ℤ → Type 0) → Type 0
Upward Holds = (m n : ℤ) → int_le m n ≡ true → Holds m → Holds n

pub highest_first : (Holds : ℤ → Type 0) (own high : ℤ) → own ≤ℤ high → Holds own → IsHighestEnd Holds own high own high
highest_first Holds own high order h = record { order = (itself own, at_most_is own high order, itself high); holds = h; most = λ n first last k. last }

pub highest_up : (Holds : ℤ → Type 0) (own high from middle to : ℤ) → from <ℤ middle → middle ≤ℤ to → Holds middle → IsHighestEnd Holds own high from to → IsHighestEnd Holds own high middle to
highest_up Holds own high from middle to less most h before = record {
  order = (through own from middle before.order.0 (below_is from middle less), at_most_is middle to most, before.order.2);
  holds = h;
  most = before.most;
}

pub highest_down : (Holds : ℤ → Type 0) (own high from middle to : ℤ) → Downward Holds → from <ℤ middle → middle ≤ℤ to → (Holds middle → ⊥) → IsHighestEnd Holds own high from to
    → IsHighestEnd Holds own high from (middle -ℤ pos 1)
highest_down Holds own high from middle to down less most never before = record {
  order = (before.order.0, less_one from middle less, through (middle -ℤ pos 1) to high (one_less middle to most) before.order.2);
  holds = before.holds;
  most = λ n first last h. one_below n middle (λ up. never (down middle n up h));
}

pub highest_met : (Holds : ℤ → Type 0) (own high from to : ℤ) → (from <ℤ to → ⊥) → IsHighestEnd Holds own high from to → IsHighestEnd Holds own high from from
highest_met Holds own high from to met before = record {
  order = (before.order.0, itself from, through from to high before.order.1 before.order.2);
  holds = before.holds;
  most = λ n first last h. through n to from (before.most n first last h) (not_below from to met);
}

pub lowest_first : (Holds : ℤ → Type 0) (low own : ℤ) → low ≤ℤ own → Holds own → IsLowestEnd Holds low own low own
lowest_first Holds low own order h = record { order = (itself low, at_most_is low own order, itself own); holds = h; least = λ n first last k. first }

pub lowest_down : (Holds : ℤ → Type 0) (low own from middle to : ℤ) → from ≤ℤ middle → middle <ℤ to → Holds middle → IsLowestEnd Holds low own from to → IsLowestEnd Holds low own from middle
lowest_down Holds low own from middle to least less h before = record {
  order = (before.order.0, at_most_is from middle least, through middle to own (below_is middle to less) before.order.2);
  holds = h;
  least = before.least;
}

pub lowest_up : (Holds : ℤ → Type 0) (low own from middle to : ℤ) → Upward Holds → from ≤ℤ middle → middle <ℤ to → (Holds middle → ⊥) → IsLowestEnd Holds low own from to
    → IsLowestEnd Holds low own (middle +ℤ pos 1) to
lowest_up Holds low own from middle to up least less never before = record {
  order = (through low from (middle +ℤ pos 1) before.order.0 (one_more from middle least), more_one middle to less, before.order.2);
  holds = before.holds;
  least = λ n first last h. one_above n middle (λ below. never (up n middle below h));
}

pub lowest_met : (Holds : ℤ → Type 0) (low own from to : ℤ) → (from <ℤ to → ⊥) → IsLowestEnd Holds low own from to → IsLowestEnd Holds low own to to
lowest_met Holds low own from to met before = record {
  order = (through low from to before.order.0 before.order.1, itself to, before.order.2);
  holds = before.holds;
  least = λ n first last h. through to from n (not_below from to met) (before.least n first last h);
}

-- Spans.

less_false : (t a b : Bool) → (b ≡ true → a ≡ true) → (t && a) ≡ false → (t && b) ≡ false
less_false false a b f h = refl
less_false true a false f h = refl
less_false true a true f h = sym (f refl) ∙ h

none_narrower : (s : Spec) (truth : World → Bool) (cell : ℕ) (x y : Span) → ((n : ℤ) → in_span y n ≡ true → in_span x n ≡ true) → NoneWithin s truth cell x → NoneWithin s truth cell y
none_narrower s truth cell x y within none v is =
    less_false (truth v) (in_span x (number_at cell v)) (in_span y (number_at cell v)) (within (number_at cell v)) (none v is)

pub none_up_to : (s : Spec) (truth : World → Bool) (cell : ℕ) (own : ℤ) → Downward (λ n. NoneWithin s truth cell (span own n))
none_up_to s truth cell own m n less = none_narrower s truth cell (span own n) (span own m)
    (λ k is. and_from (int_le own k) (int_le k n) (first_so (int_le own k) (int_le k m) is) (through k m n (second_so (int_le own k) (int_le k m) is) less))

pub none_from : (s : Spec) (truth : World → Bool) (cell : ℕ) (high : ℤ) → Upward (λ n. NoneWithin s truth cell (span n high))
none_from s truth cell high m n less = none_narrower s truth cell (span m high) (span n high)
    (λ k is. and_from (int_le m k) (int_le k high) (through m n k less (first_so (int_le n k) (int_le k high) is)) (second_so (int_le n k) (int_le k high) is))

-- what tells whether no world has a number of a span
abbrev pub Asked : Encoding → ℕ → ℕ → Span → Bool → Type 0
Asked e cell r x is = (truth : World → Bool) → IsOfCell e cell truth r → IsTrue is ↔ NoneWithin e.machine.base.spec truth cell x

asked_on : (a b : Encoding) (cell r : ℕ) (x : Span) (is : Bool) → Keeps a b → Asked b cell r x is → Asked a cell r x is
asked_on a b cell r x is keeps asked = λ truth of.
    let q = asked truth (of_cell_on a b cell truth r keeps of) in
    (λ so. on_old (λ s. NoneWithin s truth cell x) a b keeps (q.0 so), λ none. q.1 (on_new (λ s. NoneWithin s truth cell x) a b keeps none))

never_so : (b : Bool) → b ≡ false → b ≡ true → ⊥
never_so b e f = true≢false (sym f ∙ e)

-- The halves.

pub first_high : (e : Encoding) (cell r : ℕ) (own high : ℤ) → own ≤ℤ high → HighestEnd e cell r own high own high
first_high e cell r own high order = λ truth of none. highest_first (λ n. NoneWithin e.machine.base.spec truth cell (span own n)) own high order none

pub higher_half : (a b : Encoding) (cell r : ℕ) (own high from middle to : ℤ) (is : Bool) → Keeps a b → from <ℤ middle → middle ≤ℤ to → Asked b cell r (span own middle) is → is ≡ true
    → HighestEnd a cell r own high from to → HighestEnd a cell r own high middle to
higher_half a b cell r own high from middle to is keeps less most asked so before = λ truth of none.
    highest_up (λ n. NoneWithin a.machine.base.spec truth cell (span own n)) own high from middle to less most
    ((asked_on a b cell r (span own middle) is keeps asked truth of).0 so) (before truth of none)

pub not_higher : (a b : Encoding) (cell r : ℕ) (own high from middle to : ℤ) (is : Bool) → Keeps a b → from <ℤ middle → middle ≤ℤ to → Asked b cell r (span own middle) is → is ≡ false
    → HighestEnd a cell r own high from to → HighestEnd a cell r own high from (middle -ℤ pos 1)
not_higher a b cell r own high from middle to is keeps less most asked not before = λ truth of none.
    highest_down (λ n. NoneWithin a.machine.base.spec truth cell (span own n)) own high from middle to (none_up_to a.machine.base.spec truth cell own) less most
    (λ h. never_so is not ((asked_on a b cell r (span own middle) is keeps asked truth of).1 h)) (before truth of none)

pub last_high : (e : Encoding) (cell r : ℕ) (own high from to : ℤ) → (from <ℤ to → ⊥) → HighestEnd e cell r own high from to → HighestEnd e cell r own high from from
last_high e cell r own high from to met before = λ truth of none.
    highest_met (λ n. NoneWithin e.machine.base.spec truth cell (span own n)) own high from to met (before truth of none)

pub first_low : (e : Encoding) (cell r : ℕ) (low own high : ℤ) → low ≤ℤ own → LowestEnd e cell r low own high low own
first_low e cell r low own high order = λ truth of none. lowest_first (λ n. NoneWithin e.machine.base.spec truth cell (span n high)) low own order none

pub lower_half : (a b : Encoding) (cell r : ℕ) (low own high from middle to : ℤ) (is : Bool) → Keeps a b → from ≤ℤ middle → middle <ℤ to → Asked b cell r (span middle high) is → is ≡ true
    → LowestEnd a cell r low own high from to → LowestEnd a cell r low own high from middle
lower_half a b cell r low own high from middle to is keeps least less asked so before = λ truth of none.
    lowest_down (λ n. NoneWithin a.machine.base.spec truth cell (span n high)) low own from middle to least less
    ((asked_on a b cell r (span middle high) is keeps asked truth of).0 so) (before truth of none)

pub not_lower : (a b : Encoding) (cell r : ℕ) (low own high from middle to : ℤ) (is : Bool) → Keeps a b → from ≤ℤ middle → middle <ℤ to → Asked b cell r (span middle high) is → is ≡ false
    → LowestEnd a cell r low own high from to → LowestEnd a cell r low own high (middle +ℤ pos 1) to
not_lower a b cell r low own high from middle to is keeps least less asked not before = λ truth of none.
    lowest_up (λ n. NoneWithin a.machine.base.spec truth cell (span n high)) low own from middle to (none_from a.machine.base.spec truth cell high) least less
    (λ h. never_so is not ((asked_on a b cell r (span middle high) is keeps asked truth of).1 h)) (before truth of none)

pub last_low : (e : Encoding) (cell r : ℕ) (low own high from to : ℤ) → (from <ℤ to → ⊥) → LowestEnd e cell r low own high from to → LowestEnd e cell r low own high to to
last_low e cell r low own high from to met before = λ truth of none.
    lowest_met (λ n. NoneWithin e.machine.base.spec truth cell (span n high)) low own from to met (before truth of none)
