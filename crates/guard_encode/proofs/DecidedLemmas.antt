-- Functions that are true of no world.
use Rattle.std.proofs.Common.{◌≡◌, ◌==◌, ℕ, Bool, true, false, length, sym, ◌∙◌, subst, arith}
use Rattle.std.proofs.lemmas.Bool.Decides.{nat_tests}
use Rattle.rsml_syntax.specs.declared.world.World.{World}
use Rattle.rsml_meaning.specs.Worlds.{IsWorld}
use Rattle.bdd_core.specs.Diagram.{Diagram, meaning}
use Rattle.elaborate.specs.Machine.{GroundMachine}
use Rattle.keyed_levels.specs.Keyed.{KeyedWorlds, AreKeyed, world_at}
use Rattle.keyed_levels.specs.Laws.{FalseInAllWorlds, LawfulValuesSpellWorlds}
use Rattle.settled_worlds.specs.Settled.{IsSameLawfully, IsSettled}
use Rattle.guard_encode.specs.Encoding.{Encoding, Keeps, Tells, TellsExactly, worlds_of}
use Rattle.guard_encode.proofs.StepLemmas.{told_on}

-- with no keys all values are lawful
pub exact_unkeyed : FalseInAllWorlds → (e : Encoding) (truth : World → Bool) (f : ℕ) → AreKeyed (worlds_of e) → (length e.keyed == 0) ≡ true → Tells e truth f → TellsExactly e truth f
exact_unkeyed all e truth f keyed empty told =
    let both = all e.diagram (worlds_of e) truth f keyed told in
    let none : length e.keyed ≡ 0 = grind (arith, nat_tests, empty) in
    record {
      told = told;
      none = (λ never. both.0 (λ v lawful. never v), λ never v. both.1 never v (λ i less. absurd (omega (arith, less, none))));
    }

-- a function that is false everywhere
pub exact_false : FalseInAllWorlds → (e : Encoding) (truth : World → Bool) (f : ℕ) → AreKeyed (worlds_of e) → ((values : ℕ → Bool) → meaning e.diagram f values ≡ false) → Tells e truth f → TellsExactly e truth f
exact_false all e truth f keyed is_false told = record {
  told = told;
  none = (λ never. (all e.diagram (worlds_of e) truth f keyed told).0 (λ v lawful. never v), λ never. is_false);
}

pub same_worlds : (e n : Encoding) → Keeps e n → worlds_of n ≡ worlds_of e
same_worlds e n keeps = λ i. record { base = (keeps.machine i).base; beside = keeps.beside i; slots = keeps.slots i; keyed = keeps.keyed i }

pub still_keyed : (e n : Encoding) → Keeps e n → AreKeyed (worlds_of e) → AreKeyed (worlds_of n)
still_keyed e n keeps keyed = subst AreKeyed (sym (same_worlds e n keeps)) keyed

-- what f settled to is false everywhere, so f is true of no world
pub exact_nowhere : LawfulValuesSpellWorlds → FalseInAllWorlds → (e n : Encoding) (truth : World → Bool) (f s : ℕ) → Keeps e n → AreKeyed (worlds_of e) → IsSettled e.diagram n.diagram (worlds_of e) f s
    → ((values : ℕ → Bool) → meaning n.diagram s values ≡ false) → Tells e truth f → TellsExactly n truth s
exact_nowhere spell all e n truth f s keeps keyed settled is_false told =
    let nowhere : (w : World) → IsWorld n.machine.base.spec w → truth w ≡ false = λ w is.
    (all e.diagram (worlds_of e) truth f keyed told).0 (settled.none.0 is_false) w (subst (λ (m : GroundMachine). IsWorld m.base.spec w) keeps.machine is) in
    record {
      told = record {
        is_ref = settled.is_ref;
        means = λ v lawful. is_false v ∙ sym (nowhere (world_at (worlds_of n) v) (spell (worlds_of n) (still_keyed e n keeps keyed) v));
      };
      none = (λ never. nowhere, λ never. is_false);
    }

-- what f settled to is not, so f is true of some world
pub exact_somewhere : FalseInAllWorlds → (e n : Encoding) (truth : World → Bool) (f s : ℕ) → Keeps e n → AreKeyed (worlds_of e) → IsSettled e.diagram n.diagram (worlds_of e) f s
    → (((values : ℕ → Bool) → meaning n.diagram s values ≡ false) → ⊥) → Tells e truth f → TellsExactly n truth f
exact_somewhere all e n truth f s keeps keyed settled is_not told =
    let still : Tells n truth f = told_on e n truth f keeps told in
    record {
      told = still;
      none = (
        λ never. (all n.diagram (worlds_of n) truth f (still_keyed e n keeps keyed) still).0 (λ v lawful. never v),
        λ never.
            let world : (w : World) → IsWorld e.machine.base.spec w → truth w ≡ false = λ w is. never w (subst (λ (m : GroundMachine). IsWorld m.base.spec w) (sym keeps.machine) is) in
            absurd (is_not (settled.none.1 ((all e.diagram (worlds_of e) truth f keyed told).1 world))),
      );
    }

-- a function settled that is the same at lawful values
pub same_settled : (a b d : Diagram) (k : KeyedWorlds) (f g r : ℕ) → IsSameLawfully a b k f g → IsSettled b d k g r → IsSettled a d k f r
same_settled a b d k f g r same settled = record {
  is_ref = settled.is_ref;
  none = (
    λ never v lawful. sym (same.same v lawful) ∙ settled.none.0 never v lawful,
    λ never. settled.none.1 (λ v lawful. same.same v lawful ∙ never v lawful),
  );
}
