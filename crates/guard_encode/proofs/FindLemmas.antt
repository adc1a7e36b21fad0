-- What functions find.
use Rattle.std.proofs.Common.{◌≡◌, ℕ, ◌==◌, ◌↔◌, Bool, true, false, ◌&&◌, length, refl, sym, ap, ◌∙◌, subst, true≢false, arith, slice_index_or, ℤ, pos}
use Rattle.std.specs.Ordering.{int_eq}
use Rattle.std.proofs.lemmas.Bool.Decides.{nat_tests}
use Rattle.std.proofs.lemmas.Int.{ints}
use Rattle.rsml_syntax.specs.declared.world.World.{World}
use Rattle.rsml_meaning.specs.Worlds.{IsWorld}
use Rattle.bdd_core.specs.Diagram.{Diagram, meaning}
use Rattle.bdd_core.specs.Calls as arena
use Rattle.bdd_core.specs.Calls.{Represents}
use Rattle.world_levels.specs.Spelling.{spelled_world}
use Rattle.world_levels.specs.Laws.{EachWorldIsSpelled, FreeLevelsStay}
use Rattle.elaborate.specs.Machine.{GroundMachine}
use Rattle.keyed_levels.specs.Keyed.{KeyedWorlds, AreKeyed, Lawful, world_at}
use Rattle.keyed_levels.specs.Laws.{EachWorldIsSpelledLawfully, LawfulValuesSpellWorlds}
use Rattle.settled_worlds.specs.Settled.{IsProjected, IsSameLawfully, IsSettled, cell_levels}
use Rattle.guard_encode.specs.Encoding.{Encoding, Finds, FindsAt, FindsExactly, IsOfCell, Keeps, Tells, encoding_of, passes, worlds_of}
use Rattle.guard_encode.specs.Spelling.{IsNumber}
use Rattle.guard_encode.proofs.CellLemmas.{depends}
use Rattle.guard_encode.proofs.DecidedLemmas.{same_worlds, still_keyed}
use Rattle.guard_encode.proofs.ReadLemmas.{lawfully_spelled}

-- what is told is found
pub found_told : (e : Encoding) (truth : World → Bool) (r : ℕ) → Tells e truth r → Finds e truth r
found_told e truth r told = record {
  is_ref = told.is_ref;
  spelled = λ w free is lawful. told.means (spelled_world e.machine.base.spec e.slots w free) lawful;
  others = λ v lawful not. told.means v lawful ∙ not;
}

found_at_on : (old new : Diagram) (k : KeyedWorlds) (truth : World → Bool) (r : ℕ) → arena.Keeps old new → FindsAt old k truth r → FindsAt new k truth r
found_at_on old new k truth r keeps found = record {
  is_ref = omega (arith, keeps.longer, found.is_ref);
  spelled = λ w free is lawful. keeps.meanings_stay r (spelled_world k.base.spec k.slots w free) found.is_ref ∙ found.spelled w free is lawful;
  others = λ v lawful not. keeps.meanings_stay r v found.is_ref ∙ found.others v lawful not;
}

-- it still is, in an arena that has grown
pub found_on : (old new : Encoding) (truth : World → Bool) (r : ℕ) → Keeps old new → Finds old truth r → Finds new truth r
found_on old new truth r keeps found =
    subst (λ (k : KeyedWorlds). FindsAt new.diagram k truth r) (sym (same_worlds old new keeps)) (found_at_on old.diagram new.diagram (worlds_of old) truth r keeps.diagram found)

-- and so is a function that is the same at lawful values
pub found_same : (old new : Encoding) (truth : World → Bool) (f r : ℕ) → Keeps old new → IsSameLawfully old.diagram new.diagram (worlds_of old) f r → Finds old truth f → Finds new truth r
found_same old new truth f r keeps same found =
    subst (λ (k : KeyedWorlds). FindsAt new.diagram k truth r) (sym (same_worlds old new keeps)) (record {
      is_ref = same.is_ref;
      spelled = λ w free is lawful. same.same (spelled_world old.machine.base.spec old.slots w free) lawful ∙ found.spelled w free is lawful;
      others = λ v lawful not. same.same v lawful ∙ found.others v lawful not;
    })

and_false : (b : Bool) → (b && false) ≡ false
and_false true = refl
and_false false = refl

never_and : (a b : Bool) → a ≡ false → (a && b) ≡ false
never_and a b e = ap (λ t. t && b) e

-- it is true with a test of worlds at some lawful values exactly where both are of some world
pub found_with : EachWorldIsSpelled → FreeLevelsStay → EachWorldIsSpelledLawfully → LawfulValuesSpellWorlds → (d : Diagram) (k : KeyedWorlds) (truth test : World → Bool) (r : ℕ) → AreKeyed k → FindsAt d k truth r
    → ((values : ℕ → Bool) → Lawful k values → (meaning d r values && test (world_at k values)) ≡ false) ↔ ((w : World) → IsWorld k.base.spec w → (truth w && test w) ≡ false)
found_with each stay lawfully spell d k truth test r keyed found = (to, from)
  where
    to : ((values : ℕ → Bool) → Lawful k values → (meaning d r values && test (world_at k values)) ≡ false) → (w : World) → IsWorld k.base.spec w → (truth w && test w) ≡ false
    to never w is =
        let s = lawfully_spelled each stay lawfully k keyed w is in
        let v : ℕ → Bool = spelled_world k.base.spec k.slots w s.0 in
        let spells : world_at k v ≡ w = each k.base.spec k.slots keyed.layout w is s.0 in
        subst (λ (x : World). (truth x && test x) ≡ false) spells (ap (λ b. b && test (world_at k v)) (sym (found.spelled w s.0 is s.1)) ∙ never v s.1)

    from : ((w : World) → IsWorld k.base.spec w → (truth w && test w) ≡ false) → (values : ℕ → Bool) → Lawful k values → (meaning d r values && test (world_at k values)) ≡ false
    from never v lawful = by (truth (world_at k v)) refl (never (world_at k v) (spell k keyed v))
      where
        by : (b : Bool) → truth (world_at k v) ≡ b → (b && test (world_at k v)) ≡ false → (meaning d r v && test (world_at k v)) ≡ false
        by true e h = ap (λ t. meaning d r v && t) h ∙ and_false (meaning d r v)
        by false e h = never_and (meaning d r v) (test (world_at k v)) (found.others v lawful e)

and_true : (b : Bool) → (b && true) ≡ b
and_true true = refl
and_true false = refl

-- it is false at all lawful values exactly where what it finds is true of no world
pub nowhere_found : EachWorldIsSpelled → FreeLevelsStay → EachWorldIsSpelledLawfully → LawfulValuesSpellWorlds → (e : Encoding) (truth : World → Bool) (r : ℕ) → AreKeyed (worlds_of e) → Finds e truth r
    → ((values : ℕ → Bool) → Lawful (worlds_of e) values → meaning e.diagram r values ≡ false) ↔ ((w : World) → IsWorld e.machine.base.spec w → truth w ≡ false)
nowhere_found each stay lawfully spell e truth r keyed found =
    let both = found_with each stay lawfully spell e.diagram (worlds_of e) truth (λ w. true) r keyed found in (
      λ never w is. sym (and_true (truth w)) ∙ both.0 (λ v lawful. and_true (meaning e.diagram r v) ∙ never v lawful) w is,
      λ never v lawful. sym (and_true (meaning e.diagram r v)) ∙ both.1 (λ w is. and_true (truth w) ∙ never w is) v lawful,
    )

-- Functions that find no world.

-- with no keys all values are lawful
pub found_unkeyed : EachWorldIsSpelled → FreeLevelsStay → EachWorldIsSpelledLawfully → LawfulValuesSpellWorlds → (e : Encoding) (truth : World → Bool) (f : ℕ) → AreKeyed (worlds_of e) → (length e.keyed == 0) ≡ true
    → Finds e truth f → FindsExactly e truth f
found_unkeyed each stay lawfully spell e truth f keyed empty found =
    let both = nowhere_found each stay lawfully spell e truth f keyed found in
    let none : length e.keyed ≡ 0 = grind (arith, nat_tests, empty) in
    record {
      found = found;
      none = (λ never. both.0 (λ v lawful. never v), λ never v. both.1 never v (λ i less. absurd (omega (arith, less, none))));
    }

-- a function that is false everywhere
pub found_false : EachWorldIsSpelled → FreeLevelsStay → EachWorldIsSpelledLawfully → LawfulValuesSpellWorlds → (e : Encoding) (truth : World → Bool) (f : ℕ) → AreKeyed (worlds_of e)
    → ((values : ℕ → Bool) → meaning e.diagram f values ≡ false) → Finds e truth f → FindsExactly e truth f
found_false each stay lawfully spell e truth f keyed is_false found = record {
  found = found;
  none = (λ never. (nowhere_found each stay lawfully spell e truth f keyed found).0 (λ v lawful. never v), λ never. is_false);
}

-- what f settled to is false everywhere, so f finds no world
pub found_nowhere : EachWorldIsSpelled → FreeLevelsStay → EachWorldIsSpelledLawfully → LawfulValuesSpellWorlds → (e n : Encoding) (truth : World → Bool) (f s : ℕ) → Keeps e n → AreKeyed (worlds_of e)
    → IsSettled e.diagram n.diagram (worlds_of e) f s → ((values : ℕ → Bool) → meaning n.diagram s values ≡ false) → Finds e truth f → FindsExactly n truth s
found_nowhere each stay lawfully spell e n truth f s keeps keyed settled is_false found =
    let nowhere : (w : World) → IsWorld n.machine.base.spec w → truth w ≡ false = λ w is.
    (nowhere_found each stay lawfully spell e truth f keyed found).0 (settled.none.0 is_false) w (subst (λ (m : GroundMachine). IsWorld m.base.spec w) keeps.machine is) in
    let world : (v : ℕ → Bool) → IsWorld n.machine.base.spec (world_at (worlds_of n) v) = spell (worlds_of n) (still_keyed e n keeps keyed) in
    record {
      found = record {
        is_ref = settled.is_ref;
        spelled = λ w free is lawful.
            is_false (spelled_world n.machine.base.spec n.slots w free)
            ∙ sym (nowhere (world_at (worlds_of n) (spelled_world n.machine.base.spec n.slots w free)) (world (spelled_world n.machine.base.spec n.slots w free)));
        others = λ v lawful not. is_false v;
      };
      none = (λ never. nowhere, λ never. is_false);
    }

-- what f settled to is not, so f finds some world
pub found_somewhere : EachWorldIsSpelled → FreeLevelsStay → EachWorldIsSpelledLawfully → LawfulValuesSpellWorlds → (e n : Encoding) (truth : World → Bool) (f s : ℕ) → Keeps e n → AreKeyed (worlds_of e)
    → IsSettled e.diagram n.diagram (worlds_of e) f s → (((values : ℕ → Bool) → meaning n.diagram s values ≡ false) → ⊥) → Finds e truth f → FindsExactly n truth f
found_somewhere each stay lawfully spell e n truth f s keeps keyed settled is_not found =
    let still : Finds n truth f = found_on e n truth f keeps found in
    record {
      found = still;
      none = (
        λ never. (nowhere_found each stay lawfully spell n truth f (still_keyed e n keeps keyed) still).0 (λ v lawful. never v),
        λ never.
            let world : (w : World) → IsWorld e.machine.base.spec w → truth w ≡ false = λ w is. never w (subst (λ (m : GroundMachine). IsWorld m.base.spec w) (sym keeps.machine) is) in
            absurd (is_not (settled.none.1 ((nowhere_found each stay lawfully spell e truth f keyed found).1 world))),
      );
    }

-- Both.

neither : (a b m n : Bool) → (a && b) ≡ false → (a ≡ false → m ≡ false) → (b ≡ false → n ≡ false) → (m && n) ≡ false
neither true b m n h one other = ap (λ t. m && t) (other h) ∙ and_false m
neither false b m n h one other = never_and m n (one refl)

-- what one finds and the other tells
pub and_finds : (m : GroundMachine) (k : KeyedWorlds) (old new : Diagram) (f g r : ℕ) (one other : World → Bool) → Represents new (λ v. meaning old f v && meaning old g v) r
    → Finds (encoding_of m k old) one f → Tells (encoding_of m k old) other g → Finds (encoding_of m k new) (λ w. one w && other w) r
and_finds m k old new f g r one other h a b = record {
  is_ref = h.is_ref;
  spelled = λ w free is lawful.
      h.means (spelled_world m.base.spec k.slots w free)
      ∙ (λ i. a.spelled w free is lawful i && b.means (spelled_world m.base.spec k.slots w free) lawful i);
  others = λ v lawful not.
      h.means v
      ∙ neither (one (at v)) (other (at v)) (meaning old f v) (meaning old g v) not (a.others v lawful) (λ e. b.means v lawful ∙ e);
}
  where
    at : (ℕ → Bool) → World
    at v = world_at (worlds_of (encoding_of m k old)) v

not_so : (t : Bool) → (t ≡ true → ⊥) → t ≡ false
not_so true never = absurd (never refl)
not_so false never = refl

same_number : (a b : ℤ) → a ≡ b → int_eq a b ≡ true
same_number a b e = grind (arith, ints, e)

is_same : (a b : ℤ) → int_eq a b ≡ true → a ≡ b
is_same a b e = grind (arith, ints, e)

-- what f finds where a cell has a number, as it is spelled in one way
pub fixed_finds : EachWorldIsSpelled → (a b c : Encoding) (truth : World → Bool) (cell : ℕ) (n : ℤ) (f g r : ℕ) → Keeps a b → Keeps b c → AreKeyed (worlds_of a)
    → IsNumber b.diagram (worlds_of a) cell n g → Represents c.diagram (λ v. meaning b.diagram f v && meaning b.diagram g v) r
    → Finds a truth f → Finds c (λ w. truth w && int_eq (slice_index_or w.cells cell (pos 0)) n) r
fixed_finds each a b c truth cell n f g r ab bc keyed number h found =
    subst (λ (k : KeyedWorlds). FindsAt c.diagram k (λ w. truth w && has w) r) (sym (same_worlds b c bc ∙ same_worlds a b ab)) here
  where
    has : World → Bool
    has w = int_eq (slice_index_or w.cells cell (pos 0)) n

    k : KeyedWorlds
    k = worlds_of a

    first : (v : ℕ → Bool) → meaning b.diagram f v ≡ meaning a.diagram f v
    first v = ab.diagram.meanings_stay f v found.is_ref

    -- where a world is spelled that has the number or not
    told : (w : World) (free : ℕ → Bool) → IsWorld k.base.spec w → (x : Bool) → has (world_at k (spelled_world k.base.spec k.slots w free)) ≡ x → meaning b.diagram g (spelled_world k.base.spec k.slots w free) ≡ x
    told w free is true e =
        number.all w free is
        (ap (λ (x : World). slice_index_or x.cells cell (pos 0)) (sym (each k.base.spec k.slots keyed.layout w is free))
        ∙ is_same (slice_index_or (world_at k (spelled_world k.base.spec k.slots w free)).cells cell (pos 0)) n e)
    told w free is false e = not_so (meaning b.diagram g (spelled_world k.base.spec k.slots w free)) (λ t.
        true≢false (sym (same_number (slice_index_or (world_at k (spelled_world k.base.spec k.slots w free)).cells cell (pos 0)) n (number.only (spelled_world k.base.spec k.slots w free) t)) ∙ e))

    -- where a world has another number
    other : (v : ℕ → Bool) → has (world_at k v) ≡ false → (t : Bool) → meaning b.diagram g v ≡ t → t ≡ false
    other v e true t = absurd (true≢false (sym (same_number (slice_index_or (world_at k v).cells cell (pos 0)) n (number.only v t)) ∙ e))
    other v e false t = refl

    here : FindsAt c.diagram k (λ w. truth w && has w) r
    here = record {
      is_ref = h.is_ref;
      spelled = λ w free is lawful.
          let v : ℕ → Bool = spelled_world k.base.spec k.slots w free in
          let both : meaning b.diagram f v ≡ truth (world_at k v) = first v ∙ found.spelled w free is lawful in
          let number_so : meaning b.diagram g v ≡ has (world_at k v) = told w free is (has (world_at k v)) refl in
          h.means v ∙ (λ i. both i && number_so i);
      others = λ v lawful not.
          h.means v
          ∙ neither (truth (world_at k v)) (has (world_at k v)) (meaning b.diagram f v) (meaning b.diagram g v) not
          (λ e. first v ∙ found.others v lawful e) (λ e. other v e (meaning b.diagram g v) refl);
    }

-- One cell.

-- what f tells of a cell
pub found_of_cell : EachWorldIsSpelled → FreeLevelsStay → EachWorldIsSpelledLawfully → LawfulValuesSpellWorlds → (e n : Encoding) (cell f r : ℕ) (truth : World → Bool) → Keeps e n → AreKeyed (worlds_of e)
    → IsProjected e.diagram n.diagram (worlds_of e) (cell_levels (worlds_of e) cell) f r → Finds e truth f → IsOfCell n cell truth r
found_of_cell each stay lawfully spell e n cell f r truth keeps keyed projected found = record {
  is_ref = projected.is_ref;
  same = λ test. subst
      (λ (k : KeyedWorlds). ((values : ℕ → Bool) → (meaning n.diagram r values && passes test k cell values) ≡ false)
      ↔ ((w : World) → IsWorld k.base.spec w → (truth w && test (slice_index_or w.cells cell (pos 0))) ≡ false))
      (sym (same_worlds e n keeps))
      (let one = projected.same (passes test (worlds_of e) cell) (depends (worlds_of e) cell test) in
      let other = found_with each stay lawfully spell e.diagram (worlds_of e) truth (λ w. test (slice_index_or w.cells cell (pos 0))) f keyed found in
      (λ never. other.0 (one.0 never), λ never. one.1 (other.1 never)));
}
