-- What is found of the group at a place.
use Rattle.std.proofs.Common.{◌≡◌, ℕ, ◌<◌, Bool, length, Some, slice_get, sym, subst}
use Rattle.rsml_syntax.specs.declared.syntax.Spec.{Spec}
use Rattle.rsml_syntax.specs.declared.world.World.{World}
use Rattle.rsml_meaning.specs.Findings as findings
use Rattle.rsml_meaning.specs.Findings.{IsVerdict}
use Rattle.rsml_meaning.specs.Groups.{Group, groups}
use Rattle.group_verdicts.specs.Least.{IsLeastWorld}
use Rattle.elaborate.specs.Machine.{GroundMachine}
use Rattle.guard_encode.specs.Encoding.{Encoding, Keeps, TellsExactly}
use Rattle.world_columns.specs.Failing.{enables_none, enables_two}
use Rattle.group_verdicts.proofs.AtLemmas as at_place
use Rattle.group_verdicts.proofs.FailLemmas.{Nowhere, least_none, least_two, no_none, sound}

-- this is so of the group at a place
abbrev pub IsAt : Spec → ℕ → (Spec → Group → Type 0) → Type 0
IsAt s group Is = (g : Group) → slice_get (groups s) group ≡ Some g → Is s g

-- r tells in which worlds the group at a place fails
abbrev pub TellsFailing : Encoding → ℕ → (Spec → Group → World → Bool) → ℕ → Type 0
TellsFailing e group fails r = (g : Group) → slice_get (groups e.machine.base.spec) group ≡ Some g → TellsExactly e (fails e.machine.base.spec g) r

-- of an encoder that has gone on
pub at_on : (old new : Encoding) (group : ℕ) (Is : Spec → Group → Type 0) → Keeps old new → IsAt old.machine.base.spec group Is → IsAt new.machine.base.spec group Is
at_on old new group Is keeps is = subst (λ (m : GroundMachine). IsAt m.base.spec group Is) (sym keeps.machine) is

-- what tells something of the group at a place is a handle
pub ref_at : (e : Encoding) (group r : ℕ) (fails : Spec → Group → World → Bool) → group < length (groups e.machine.base.spec) → TellsFailing e group fails r → r < length e.diagram.nodes
ref_at e group r fails less tells = at_place.ref_at e group r fails less (λ g at. (tells g at).told)

-- what is answered of each truth that r tells exactly is so of the worlds in which the group fails
answered : (old new : Encoding) (group r : ℕ) (fails : Spec → Group → World → Bool) (Is : Spec → (World → Bool) → Type 0) → Keeps old new → TellsFailing old group fails r
    → ((truth : World → Bool) → TellsExactly old truth r → Is new.machine.base.spec truth) → IsAt new.machine.base.spec group (λ s g. Is s (fails s g))
answered old new group r fails Is keeps tells answer =
    subst (λ (m : GroundMachine). (g : Group) → slice_get (groups m.base.spec) group ≡ Some g → Is new.machine.base.spec (fails m.base.spec g)) (sym keeps.machine)
    (λ g at. answer (fails old.machine.base.spec g) (tells g at))

-- it fails in no world
pub nowhere : (old new : Encoding) (group r : ℕ) (fails : Spec → Group → World → Bool) → Keeps old new → TellsFailing old group fails r
    → ((truth : World → Bool) → TellsExactly old truth r → Nowhere new.machine.base.spec truth) → IsAt new.machine.base.spec group (λ s g. Nowhere s (fails s g))
nowhere old new group r fails = answered old new group r fails Nowhere

-- in this world it enables none, and in none before
pub missing : (old new : Encoding) (group r : ℕ) (w : World) → Keeps old new → TellsFailing old group enables_none r
    → ((truth : World → Bool) → TellsExactly old truth r → IsLeastWorld new.machine.base.spec truth w) → IsAt new.machine.base.spec group (λ s g. IsVerdict s g (findings.none w))
missing old new group r w keeps tells answer = λ g at.
    least_none new.machine.base.spec g w (answered old new group r enables_none (λ s truth. IsLeastWorld s truth w) keeps tells answer g at)

-- in no world it enables none, in this one it enables two, and in none before
pub double : (old new : Encoding) (group r : ℕ) (w : World) → Keeps old new → IsAt old.machine.base.spec group (λ s g. Nowhere s (enables_none s g)) → TellsFailing old group enables_two r
    → ((truth : World → Bool) → TellsExactly old truth r → IsLeastWorld new.machine.base.spec truth w) → IsAt new.machine.base.spec group (λ s g. IsVerdict s g (findings.two w))
double old new group r w keeps none tells answer = λ g at.
    let s = new.machine.base.spec in (
      no_none s g (at_on old new group (λ t h. Nowhere t (enables_none t h)) keeps none g at),
      least_two s g w (answered old new group r enables_two (λ t truth. IsLeastWorld t truth w) keeps tells answer g at),
    )

-- in no world it enables none, and in none it enables two
pub neither : (old new : Encoding) (group r : ℕ) → Keeps old new → IsAt old.machine.base.spec group (λ s g. Nowhere s (enables_none s g)) → TellsFailing old group enables_two r
    → ((truth : World → Bool) → TellsExactly old truth r → Nowhere new.machine.base.spec truth) → IsAt new.machine.base.spec group (λ s g. IsVerdict s g findings.sound)
neither old new group r keeps none tells answer = λ g at.
    let s = new.machine.base.spec in
    sound s g (at_on old new group (λ t h. Nowhere t (enables_none t h)) keeps none g at) (answered old new group r enables_two Nowhere keeps tells answer g at)
