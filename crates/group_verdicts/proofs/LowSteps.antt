-- One part narrowed down among low worlds.
use Rattle.std.proofs.Common.{◌≡◌, ℕ, zero, suc, Bool, true, false, IsTrue, List, [], ◌∷◌, map, Some, refl, sym, ap, ◌∙◌, subst, true≢false, slice_get, slice_index_or, pos, ℤ}
use Rattle.std.specs.Bool.{⊤}
use Rattle.std.specs.Cmp.{int_cmp_is, nat_cmp_is}
use Rattle.std.specs.Ordering.{MatchOrdering, int_cmp, nat_cmp}
use Rattle.std.specs.declared.cmp.Ordering.{Ordering}
use Rattle.std.specs.declared.cmp.Ordering.TheVariants.{Equal}
use Rattle.rsml_syntax.specs.declared.world.World.{World}
use Rattle.rsml_meaning.specs.Instances.{Component, components}
use Rattle.rsml_meaning.specs.Cells.{InputCell, cells}
use Rattle.rsml_meaning.specs.Worlds.{IsWorld}
use Rattle.guard_encode.specs.declared.reading.ReadParts.{ReadParts}
use Rattle.guard_encode.specs.Encoding.{Encoding, Keeps}
use Rattle.group_verdicts.specs.Narrowing.{IsLow, low_of}
use Rattle.group_verdicts.specs.Finding.{Narrowed, NarrowedLow}
use Rattle.group_verdicts.proofs.Keeping.{on_new}
use Rattle.group_verdicts.proofs.Low.{is_low, low_is_world, read_value}

-- what has no mark is read
pub unmarked : (marks : List Bool) (k : ℕ) → slice_index_or marks k true ≡ false → slice_get marks k ≡ Some false
unmarked [] k not = absurd (true≢false not)
unmarked (m ∷ marks) zero not = ap Some not
unmarked (m ∷ marks) (suc k) not = unmarked marks k not

pub alike : (a b : Bool) → (a ≡ true → b ≡ true) → (b ≡ true → a ≡ true) → a ≡ b
alike true b to from = sym (to refl)
alike false true to from = from refl
alike false false to from = refl

-- a part that is not read has its least value in all low worlds
pub low_already : {A : Type 0} (e : Encoding) (read : ReadParts) (cmp : A → A → Ordering) (part : World → A) (least : A) (f : ℕ)
    → cmp least least ≡ Equal
    → ((w : World) → IsLow e.machine.base.spec read w → part w ≡ least) → NarrowedLow e e read cmp part least f f
low_already e read cmp part least f itself same = λ truth found of_read some. record {
  next = truth;
  found = found;
  of_read = of_read;
  narrows = record {
    some = some;
    kept = λ w is k. (k, same w is);
    order = λ w is k. subst (λ (o : Ordering). MatchOrdering o ⊥ (IsTrue (truth w)) ⊤) (sym (ap (λ x. cmp x least) (same w is) ∙ itself)) k;
  };
}

-- a part that is read, narrowed down among all worlds
pub low_too : {A : Type 0} (a b : Encoding) (read : ReadParts) (cmp : A → A → Ordering) (part : World → A) (least : A) (f r : ℕ) → Keeps a b
    → cmp least least ≡ Equal
    → ((w : World) → part (low_of b.machine.base.spec read w) ≡ part w) → Narrowed a b cmp part least f r
    → NarrowedLow a b read cmp part least f r
low_too a b read cmp part least f r keeps itself same h = λ truth found of_read some.
    let t = h truth found (λ none. some (λ w is. none w is.is_world)) in
    let s = b.machine.base.spec in
    let still = on_new (λ s. (w : World) → IsWorld s w → truth (low_of s read w) ≡ truth w) a b keeps of_read in
    let passes : (w : World) → IsWorld s w → IsTrue (truth w) → part w ≡ least → IsTrue (t.next w) =
    λ w is k own. subst (λ (o : Ordering). MatchOrdering o ⊥ (IsTrue (t.next w)) ⊤) (ap (λ x. cmp x least) own ∙ itself) (t.narrows.order w is k) in
    let next_of_read : (w : World) → IsWorld s w → t.next (low_of s read w) ≡ t.next w =
    λ w is. alike (t.next (low_of s read w)) (t.next w)
    (λ k. let v = t.narrows.kept (low_of s read w) (low_is_world s read w is) k in passes w is (sym (still w is) ∙ v.0) (sym (same w) ∙ v.1))
    (λ k. let v = t.narrows.kept w is k in passes (low_of s read w) (low_is_world s read w is) (still w is ∙ v.0) (same w ∙ v.1)) in
    record {
      next = t.next;
      found = t.found;
      of_read = next_of_read;
      narrows = record {
        some = λ none. t.narrows.some (λ w is. sym (next_of_read w is) ∙ none (low_of s read w) (is_low s read w is));
        kept = λ w is k. t.narrows.kept w is.is_world k;
        order = λ w is k. t.narrows.order w is.is_world k;
      };
    }

nat_itself : (x : ℕ) → nat_cmp x x ≡ Equal
nat_itself x = sym (nat_cmp_is x x Equal refl)

int_itself : (x : ℤ) → int_cmp x x ≡ Equal
int_itself x = sym (int_cmp_is x x Equal refl)

-- a component that is not read has its first child
pub child_unread : (e : Encoding) (read : ReadParts) (c : Component) (component f : ℕ)
    → slice_get (components e.machine.base.spec) component ≡ Some c → slice_index_or read.choices component true ≡ false
    → NarrowedLow e e read nat_cmp (λ w. slice_index_or w.choices component 0) 0 f f
child_unread e read c component f at not =
    low_already e read nat_cmp (λ w. slice_index_or w.choices component 0) 0 f (nat_itself 0) (λ w is. is.first component c (unmarked read.choices component not) at)

-- one that is read keeps its child
pub child_read : (a b : Encoding) (read : ReadParts) (component place f r : ℕ) → Keeps a b
    → slice_index_or read.choices component true ≡ true
    → Narrowed a b nat_cmp (λ w. slice_index_or w.choices component 0) place f r
    → NarrowedLow a b read nat_cmp (λ w. slice_index_or w.choices component 0) place f r
child_read a b read component place f r keeps is h =
    low_too a b read nat_cmp (λ w. slice_index_or w.choices component 0) place f r keeps (nat_itself place)
    (λ w. read_value read.choices (map (λ c. 0) (components b.machine.base.spec)) w.choices component 0 is) h

-- a cell that is not read has its least number
pub number_unread : (e : Encoding) (read : ReadParts) (c : InputCell) (cell : ℕ) (low : ℤ) (f : ℕ)
    → slice_get (cells e.machine.base.spec) cell ≡ Some c → low ≡ c.numbers.low
    → slice_index_or read.cells cell true ≡ false → NarrowedLow e e read int_cmp (λ w. slice_index_or w.cells cell (pos 0)) low f f
number_unread e read c cell low f at is_low not =
    low_already e read int_cmp (λ w. slice_index_or w.cells cell (pos 0)) low f (int_itself low) (λ w is. is.least cell c (unmarked read.cells cell not) at ∙ sym is_low)

-- one that is read keeps its number
pub number_read : (a b : Encoding) (read : ReadParts) (cell : ℕ) (number : ℤ) (f r : ℕ) → Keeps a b
    → slice_index_or read.cells cell true ≡ true
    → Narrowed a b int_cmp (λ w. slice_index_or w.cells cell (pos 0)) number f r
    → NarrowedLow a b read int_cmp (λ w. slice_index_or w.cells cell (pos 0)) number f r
number_read a b read cell number f r keeps is h =
    low_too a b read int_cmp (λ w. slice_index_or w.cells cell (pos 0)) number f r keeps (int_itself number)
    (λ w. read_value read.cells (map (λ c. c.numbers.low) (cells b.machine.base.spec)) w.cells cell (pos 0) is) h
