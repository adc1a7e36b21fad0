-- What an encoder tells of the group at a place.
use Rattle.std.proofs.Common.{◌≡◌, ℕ, ◌<◌, ◌≤◌, Bool, ◌&&◌, not, length, Some, inl, inr, slice_get, refl, sym, subst, arith}
use Rattle.std.proofs.lemmas.Option.{slice_get_cases}
use Rattle.rsml_syntax.specs.declared.world.World.{World}
use Rattle.rsml_meaning.specs.Groups.{Group, groups}
use Rattle.bdd_core.specs.Diagram.{IsRef}
use Rattle.elaborate.specs.Machine.{GroundMachine}
use Rattle.guard_encode.specs.Encoding.{Encoding, Keeps, Tells, TellsExactly}
use Rattle.guard_encode.proofs.StepLemmas.{told_on}
use Rattle.group_verdicts.specs.Counts.{Question, TellsAt}

-- without a call all is as it was
pub no_calls : (e : Encoding) → Keeps e e
no_calls e = record {
  machine = refl;
  beside = refl;
  slots = refl;
  keyed = refl;
  diagram = record { same_levels = refl; longer = omega arith; nodes_stay = λ f is. refl; meanings_stay = λ f v is. refl };
}

-- Of an encoder that has gone on.

pub there_on : (old new : Encoding) (group : ℕ) → Keeps old new → group < length (groups old.machine.base.spec) → group < length (groups new.machine.base.spec)
there_on old new group keeps less = subst (λ (m : GroundMachine). group < length (groups m.base.spec)) (sym keeps.machine) less

pub ref_on : (old new : Encoding) (r : ℕ) → Keeps old new → IsRef old.diagram r → IsRef new.diagram r
ref_on old new r keeps is = let longer = keeps.diagram.longer in omega (arith, longer, is)

pub tells_on : (old new : Encoding) (group r : ℕ) (truth : Question) → Keeps old new → TellsAt old group truth r → TellsAt new group truth r
tells_on old new group r truth keeps told =
    subst (λ (m : GroundMachine). (g : Group) → slice_get (groups m.base.spec) group ≡ Some g → Tells new (truth m.base.spec g) r) (sym keeps.machine)
    (λ g at. told_on old new (truth old.machine.base.spec g) r keeps (told g at))

-- what tells something of the group at a place is a handle
pub ref_at : (e : Encoding) (group r : ℕ) (truth : Question) → group < length (groups e.machine.base.spec) → TellsAt e group truth r → IsRef e.diagram r
ref_at e group r truth less told =
    let cases = (slice_get_cases (groups e.machine.base.spec) group).1 in
    elim cases [
      | inl there ↦ (told there.0 there.2).is_ref
      | inr past ↦ absurd (let late : length (groups e.machine.base.spec) ≤ group = past.0 in omega (arith, less, late))
    ]

-- what is equally true is told
pub told_as : (e : Encoding) (group r : ℕ) (one other : Question)
    → ((g : Group) → slice_get (groups e.machine.base.spec) group ≡ Some g → (w : World) → one e.machine.base.spec g w ≡ other e.machine.base.spec g w)
    → TellsAt e group one r → TellsAt e group other r
told_as e group r one other same told = λ g at. subst (λ (truth : World → Bool). Tells e truth r) (λ i w. same g at w i) (told g at)

-- Functions of functions.

pub not_at : (old new : Encoding) (group f r : ℕ) (truth : Question) → Keeps old new
    → ((p : World → Bool) → Tells old p f → Tells new (λ w. not (p w)) r)
    → TellsAt old group truth f → TellsAt new group (λ s g w. not (truth s g w)) r
not_at old new group f r truth keeps made a =
    subst (λ (m : GroundMachine). (g : Group) → slice_get (groups m.base.spec) group ≡ Some g → Tells new (λ w. not (truth m.base.spec g w)) r) (sym keeps.machine)
    (λ g at. made (truth old.machine.base.spec g) (a g at))

pub and_at : (old new : Encoding) (group f h r : ℕ) (one other : Question) → Keeps old new
    → ((p q : World → Bool) → Tells old p f → Tells old q h → Tells new (λ w. p w && q w) r)
    → TellsAt old group one f → TellsAt old group other h → TellsAt new group (λ s g w. one s g w && other s g w) r
and_at old new group f h r one other keeps made a b =
    subst (λ (m : GroundMachine). (g : Group) → slice_get (groups m.base.spec) group ≡ Some g → Tells new (λ w. one m.base.spec g w && other m.base.spec g w) r) (sym keeps.machine)
    (λ g at. made (one old.machine.base.spec g) (other old.machine.base.spec g) (a g at) (b g at))

-- what has been decided tells exactly
pub decided_at : (old new : Encoding) (group f r : ℕ) (truth : Question) → Keeps old new
    → ((p : World → Bool) → Tells old p f → TellsExactly new p r)
    → TellsAt old group truth f → (g : Group) → slice_get (groups new.machine.base.spec) group ≡ Some g → TellsExactly new (truth new.machine.base.spec g) r
decided_at old new group f r truth keeps made a =
    subst (λ (m : GroundMachine). (g : Group) → slice_get (groups m.base.spec) group ≡ Some g → TellsExactly new (truth m.base.spec g) r) (sym keeps.machine)
    (λ g at. made (truth old.machine.base.spec g) (a g at))
