-- What functions tell of one cell.
use Rattle.std.proofs.Common.{◌≡◌, ℕ, zero, suc, ◌+◌, ◌==◌, Bool, true, false, ◌&&◌, ◌||◌, if◌then◌else◌, List, [], ◌∷◌, ◌++◌, map, ◌↔◌, refl, sym, ap, ◌∙◌, subst, arith, slice_index_or, option_to_list, Some, None, ℤ, pos, ◌+ℤ◌, int_le}
use Rattle.std.proofs.lemmas.Bool.{eq-eqb}
use Rattle.rsml_syntax.specs.declared.world.World.{World}
use Rattle.rsml_meaning.specs.Cells.{InputCell, cells}
use Rattle.rsml_meaning.specs.Worlds.{IsWorld}
use Rattle.rsml_ground.specs.Truths.{Grounded}
use Rattle.bdd_core.specs.Diagram.{Diagram, meaning}
use Rattle.bdd_core.specs.Calls.{Represents}
use Rattle.spelled_numbers.specs.declared.weighted.Weighted.{Weighted}
use Rattle.spelled_numbers.specs.declared.slot.Slot.{Slot}
use Rattle.spelled_numbers.specs.declared.slot.Slot.TheVariants.{Part, Free}
use Rattle.spelled_numbers.specs.Spelling.{number}
use Rattle.spelled_numbers.specs.Bits.{bits_of}
use Rattle.world_levels.specs.Spelling.{WorldLevels, cell_part, numbers_from, world_of}
use Rattle.phrase_diagrams.specs.Tells as exact
use Rattle.elaborate.specs.Machine.{GroundMachine}
use Rattle.free_levels.specs.Values.{is_in}
use Rattle.keyed_levels.specs.Keyed.{KeyedWorlds}
use Rattle.settled_worlds.specs.Settled.{DependsOn, IsProjected, IsSameLawfully, cell_levels}
use Rattle.guard_encode.specs.Encoding.{Encoding, IsOfCell, Keeps, encoding_of, is_at_most, passes, worlds_of}
use Rattle.guard_encode.proofs.DecidedLemmas.{same_worlds}

abbrev pub level_list : List Weighted → List ℕ
level_list ts = map (λ t. t.level) ts

abbrev pub one_bit : Bool → ℕ → ℕ → List Weighted
one_bit b w k = option_to_list (if b then Some (record { minus = false; level = k; weight = w }) else None)

or_right : (a b : Bool) → b ≡ true → (a || b) ≡ true
or_right true b e = refl
or_right false b e = e

zero_if : (b : Bool) → ◌≡◌ {A = ℕ} (if b then 0 else 0) 0
zero_if true = refl
zero_if false = refl

pub later : (b : Bool) (wt p : ℕ) (ss : List Slot) (k level : ℕ) → is_in (level_list (bits_of p false ss (k + 1))) level ≡ true
    → is_in (level_list (one_bit b wt k ++ bits_of p false ss (k + 1))) level ≡ true
later true wt p ss k level e = or_right (level == k) (is_in (level_list (bits_of p false ss (k + 1))) level) e
later false wt p ss k level e = e

-- one slot of a part, or of another
same_slot : (b : Bool) (wt p : ℕ) (ss : List Slot) (v w : ℕ → Bool) (k : ℕ)
    → ((level : ℕ) → is_in (level_list (one_bit b wt k ++ bits_of p false ss (k + 1))) level ≡ true → v level ≡ w level)
    → number p ss v (k + 1) ≡ number p ss w (k + 1)
    → ((if v k then (if b then wt else 0) else 0) + number p ss v (k + 1)) ≡ ((if w k then (if b then wt else 0) else 0) + number p ss w (k + 1))
same_slot true wt p ss v w k same rest =
    let here : ((k == k) || is_in (level_list (bits_of p false ss (k + 1))) k) ≡ true = ap (λ b. b || is_in (level_list (bits_of p false ss (k + 1))) k) (eq-eqb k k refl) in
    λ i. (if same k here i then wt else 0) + rest i
same_slot false wt p ss v w k same rest = λ i. (zero_if (v k) ∙ sym (zero_if (w k))) i + rest i

-- the number of a part depends on its levels alone
same_number : (p : ℕ) (slots : List Slot) (v w : ℕ → Bool) (k : ℕ) → ((level : ℕ) → is_in (level_list (bits_of p false slots k)) level ≡ true → v level ≡ w level)
    → number p slots v k ≡ number p slots w k
same_number p [] v w k same = refl
same_number p (Free ∷ ss) v w k same = λ i. (zero_if (v k) ∙ sym (zero_if (w k))) i + same_number p ss v w (k + 1) same i
same_number p (Part q wt ∷ ss) v w k same =
    same_slot (q == p) wt p ss v w k same (same_number p ss v w (k + 1) (λ level e. same level (later (q == p) wt p ss k level e)))

-- and so does the number of a cell
same_at : (slots : List Slot) (v w : ℕ → Bool) (p i : ℕ) (cs : List InputCell) → number (p + i) slots v 0 ≡ number (p + i) slots w 0
    → slice_index_or (numbers_from slots v p cs) i (pos 0) ≡ slice_index_or (numbers_from slots w p cs) i (pos 0)
same_at slots v w p i [] same = refl
same_at slots v w p zero (c ∷ cs) same =
    let e : p + 0 ≡ p = omega arith in
    ap (λ n. c.numbers.low +ℤ pos n) (subst (λ q. number q slots v 0 ≡ number q slots w 0) e same)
same_at slots v w p (suc i) (c ∷ cs) same =
    let e : p + suc i ≡ suc p + i = omega arith in
    same_at slots v w (suc p) i cs (subst (λ q. number q slots v 0 ≡ number q slots w 0) e same)

pub depends : (k : KeyedWorlds) (cell : ℕ) (test : ℤ → Bool) → DependsOn (cell_levels k cell) (passes test k cell)
depends k cell test one other same =
    ap test (same_at k.slots one other _ cell (cells k.base.spec) (same_number (cell_part k.base.spec cell) k.slots one other 0 same))

-- it still is, in an arena that has grown
pub of_cell_on : (e n : Encoding) (cell : ℕ) (truth : World → Bool) (r : ℕ) → Keeps e n → IsOfCell e cell truth r → IsOfCell n cell truth r
of_cell_on e n cell truth r keeps of = record {
  is_ref = omega (arith, of.is_ref, keeps.diagram.longer);
  same = λ test. subst
      (λ (k : KeyedWorlds). ((values : ℕ → Bool) → (meaning n.diagram r values && passes test k cell values) ≡ false)
      ↔ ((w : World) → IsWorld k.base.spec w → (truth w && test (slice_index_or w.cells cell (pos 0))) ≡ false))
      (sym (same_worlds e n keeps)) (
        λ never. (of.same test).0 (λ v. ap (λ b. b && passes test (worlds_of e) cell v) (sym (keeps.diagram.meanings_stay r v of.is_ref)) ∙ never v),
        λ never v. ap (λ b. b && passes test (worlds_of e) cell v) (keeps.diagram.meanings_stay r v of.is_ref) ∙ (of.same test).1 never v,
      );
}

-- it tells what is the same of all worlds
pub of_cell_as : (e : Encoding) (cell : ℕ) (first other : World → Bool) (r : ℕ) → ((w : World) → IsWorld e.machine.base.spec w → first w ≡ other w) → IsOfCell e cell first r → IsOfCell e cell other r
of_cell_as e cell first other r same of = record {
  is_ref = of.is_ref;
  same = λ test. (
    λ never w is. ap (λ b. b && test (slice_index_or w.cells cell (pos 0))) (sym (same w is)) ∙ (of.same test).0 never w is,
    λ never. (of.same test).1 (λ w is. ap (λ b. b && test (slice_index_or w.cells cell (pos 0))) (same w is) ∙ never w is),
  );
}

and_assoc : (a b c : Bool) → ((a && b) && c) ≡ (a && (b && c))
and_assoc true b c = refl
and_assoc false b c = refl

-- and where besides its number passes a test
pub of_cell_with : (e n : Encoding) (cell : ℕ) (truth : World → Bool) (has : ℤ → Bool) (f r : ℕ) → Keeps e n → Represents n.diagram (λ v. meaning e.diagram f v && passes has (worlds_of e) cell v) r
    → IsOfCell e cell truth f → IsOfCell n cell (λ w. truth w && has (slice_index_or w.cells cell (pos 0))) r
of_cell_with e n cell truth has f r keeps h of = record {
  is_ref = h.is_ref;
  same = λ test. subst
      (λ (k : KeyedWorlds). ((values : ℕ → Bool) → (meaning n.diagram r values && passes test k cell values) ≡ false)
      ↔ ((w : World) → IsWorld k.base.spec w → ((truth w && has (slice_index_or w.cells cell (pos 0))) && test (slice_index_or w.cells cell (pos 0))) ≡ false))
      (sym (same_worlds e n keeps))
      (let both = of.same (λ z. has z && test z) in
      let at : (v : ℕ → Bool) → (meaning n.diagram r v && passes test (worlds_of e) cell v) ≡ (meaning e.diagram f v && passes (λ z. has z && test z) (worlds_of e) cell v) =
      λ v. ap (λ b. b && passes test (worlds_of e) cell v) (h.means v) ∙ and_assoc (meaning e.diagram f v) (passes has (worlds_of e) cell v) (passes test (worlds_of e) cell v) in (
        λ never w is. and_assoc (truth w) (has (slice_index_or w.cells cell (pos 0))) (test (slice_index_or w.cells cell (pos 0))) ∙ both.0 (λ v. sym (at v) ∙ never v) w is,
        λ never v. at v ∙ both.1 (λ w is. sym (and_assoc (truth w) (has (slice_index_or w.cells cell (pos 0))) (test (slice_index_or w.cells cell (pos 0)))) ∙ never w is) v,
      ));
}

-- what is projected over an encoder's own levels
pub own_projected : (m : GroundMachine) (k : KeyedWorlds) (d new : Diagram) (cell f r : ℕ) → k.base ≡ m.base → IsProjected d new k (cell_levels k cell) f r
    → IsProjected d new (worlds_of (encoding_of m k d)) (cell_levels (worlds_of (encoding_of m k d)) cell) f r
own_projected m k d new cell f r same projected =
    subst (λ (g : Grounded). IsProjected d new (record k { base = g }) (cell_levels (record k { base = g }) cell) f r) same projected

-- what is the same at lawful values of an encoder's own levels
pub own_same : (m : GroundMachine) (k : KeyedWorlds) (d new : Diagram) (f r : ℕ) → k.base ≡ m.base → IsSameLawfully d new k f r
    → IsSameLawfully d new (worlds_of (encoding_of m k d)) f r
own_same m k d new f r same lawfully = subst (λ (g : Grounded). IsSameLawfully d new (record k { base = g }) f r) same lawfully

-- a cell has at most a number, at all values of the levels
pub below_told : (m : GroundMachine) (k : KeyedWorlds) (levels : WorldLevels) (d first : Diagram) (cell : ℕ) (n : ℤ) (r : ℕ) → k.base ≡ m.base → levels.spec ≡ k.base.spec → levels.slots ≡ k.slots
    → exact.Tells d levels (λ w. int_le (slice_index_or w.cells cell (pos 0)) n) r → Represents d (is_at_most (worlds_of (encoding_of m k first)) cell n) r
below_told m k levels d first cell n r same spec slots told = record {
  is_ref = told.is_ref;
  means = λ v. told.means v ∙ (λ i. int_le (slice_index_or (world_of ((spec ∙ ap (λ (g : Grounded). g.spec) same) i) (slots i) v).cells cell (pos 0)) n);
}
