-- What the parts of components and cells tell of worlds.
use Rattle.std.proofs.Common.{◌≡◌, ℕ, ◌<◌, ◌≤◌, ◌^◌, leb, eqb, false, length, sym, ◌∙◌, ap, subst, arith, All, List, ℤ, pos, ◌+ℤ◌, ◌-ℤ◌, ◌<ℤ◌, int_le, Some, slice_get, slice_index_or}
use Rattle.std.proofs.lemmas.Int.{ints}
use Rattle.std.proofs.lemmas.Bool.Decides.{leb_tells}
use Rattle.std.proofs.lemmas.List.Elements.{All-weaker}
use Rattle.rsml_meaning.specs.Instances.{components}
use Rattle.rsml_meaning.specs.Cells.{InputCell, cells}
use Rattle.bdd_core.specs.Diagram.{Diagram}
use Rattle.bdd_core.specs.Calls.{Represents}
use Rattle.spelled_numbers.specs.declared.weighted.Weighted.{Weighted}
use Rattle.spelled_numbers.specs.Sums.{weight_sum, total_weight, AreLevels, AddOnly}
use Rattle.spelled_numbers.specs.declared.slot.Slot.{Slot}
use Rattle.spelled_numbers.specs.Spelling.{total, number}
use Rattle.spelled_numbers.specs.Bits.{bits_of}
use Rattle.spelled_numbers.proofs.BitLemmas.{weights, totals, levels}
use Rattle.world_levels.specs.Spelling.{WorldLevels, world_of, cell_part}
use Rattle.phrase_diagrams.proofs.WorldLemmas.{choice_at, item_at, cell_at}
use Rattle.phrase_diagrams.proofs.BitLemmas.{bits_add}

-- levels of the layout are levels of an arena that has as many
pub are_levels : (d : Diagram) (slots : List Slot) (terms : List Weighted) → d.levels ≡ length slots → All (λ (t : Weighted). t.level < length slots) terms → AreLevels d terms
are_levels d slots terms e all = All-weaker (λ (t : Weighted). t.level < length slots) (λ (t : Weighted). t.level < d.levels) (λ t h. omega (arith, h, e)) terms all

-- the levels of a part are
pub part_levels : (d : Diagram) (p : ℕ) (slots : List Slot) (terms : List Weighted) → terms ≡ bits_of p false slots 0 → d.levels ≡ length slots → AreLevels d terms
part_levels d p slots terms is e = subst (AreLevels d) (sym is) (are_levels d slots (bits_of p false slots 0) e (levels p false slots))

-- the weights of a part add
pub part_adds : (p : ℕ) (slots : List Slot) (terms : List Weighted) → terms ≡ bits_of p false slots 0 → AddOnly terms
part_adds p slots terms is = subst AddOnly (sym is) (bits_add p slots)

-- the weights of a part are few
pub part_small : (p : ℕ) (slots : List Slot) (terms : List Weighted) → terms ≡ bits_of p false slots 0 → total p slots ≤ 2000000000 → total_weight terms < 2 ^ 64
part_small p slots terms is small = omega (arith, ap total_weight is, totals p false slots 0, small)

-- where a component's part has this number
pub choice_tells : (d : Diagram) (l : WorldLevels) (k place n r : ℕ) (terms : List Weighted) → k < length (components l.spec) → terms ≡ bits_of k false l.slots 0 → n ≡ place
    → Represents d (λ v. eqb (weight_sum v terms) n) r
    → Represents d (λ v. eqb (slice_index_or (world_of l.spec l.slots v).choices k 0) place) r
choice_tells d l k place n r terms less is e h = record {
  is_ref = h.is_ref;
  means = λ v. h.means v ∙ ap (eqb (weight_sum v terms)) e ∙ ap (λ ts. eqb (weight_sum v ts) place) is
      ∙ ap (λ m. eqb m place) (weights k l.slots v 0 ∙ sym (choice_at l.spec l.slots v k less));
}

above_low : (n most : ℕ) (low number : ℤ) → pos most ≡ number -ℤ low → leb n most ≡ int_le (low +ℤ pos n) number
above_low n most low number e = grind (arith, ints, leb_tells n most)

below_low : (n : ℕ) (low number : ℤ) → number <ℤ low → false ≡ int_le (low +ℤ pos n) number
below_low n low number e = grind (arith, ints)

-- where a cell's part is at most the number above its least
pub bound_tells : (d : Diagram) (l : WorldLevels) (k most r : ℕ) (low n : ℤ) (terms : List Weighted) → k < length (cells l.spec)
    → ((c : InputCell) → slice_get (cells l.spec) k ≡ Some c → low ≡ c.numbers.low) → terms ≡ bits_of (cell_part l.spec k) false l.slots 0 → pos most ≡ n -ℤ low
    → Represents d (λ v. leb (weight_sum v terms) most) r
    → Represents d (λ v. int_le (slice_index_or (world_of l.spec l.slots v).cells k (pos 0)) n) r
bound_tells d l k most r low n terms less low_is is e h =
    let there = item_at (cells l.spec) k less in
    record {
      is_ref = h.is_ref;
      means = λ v. h.means v ∙ ap (λ ts. leb (weight_sum v ts) most) is ∙ ap (λ m. leb m most) (weights (cell_part l.spec k) l.slots v 0)
          ∙ above_low (number (cell_part l.spec k) l.slots v 0) most low n e
          ∙ ap (λ z. int_le z n) (ap (λ z. z +ℤ pos (number (cell_part l.spec k) l.slots v 0)) (low_is there.0 there.1) ∙ sym (cell_at l.spec l.slots v k there.0 there.1));
    }

-- no number of the cell is below its least
pub never_below : (d : Diagram) (l : WorldLevels) (k r : ℕ) (low n : ℤ) → k < length (cells l.spec)
    → ((c : InputCell) → slice_get (cells l.spec) k ≡ Some c → low ≡ c.numbers.low) → n <ℤ low
    → Represents d (λ v. false) r → Represents d (λ v. int_le (slice_index_or (world_of l.spec l.slots v).cells k (pos 0)) n) r
never_below d l k r low n less low_is below h =
    let there = item_at (cells l.spec) k less in
    record {
      is_ref = h.is_ref;
      means = λ v. h.means v ∙ below_low (number (cell_part l.spec k) l.slots v 0) low n below
          ∙ ap (λ z. int_le z n) (ap (λ z. z +ℤ pos (number (cell_part l.spec k) l.slots v 0)) (low_is there.0 there.1) ∙ sym (cell_at l.spec l.slots v k there.0 there.1));
    }
