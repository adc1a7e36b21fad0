-- What stays while the diagrams of an encoder grow.
use Rattle.std.proofs.Common.{◌≡◌, ℕ, ◌↔◌, Bool, true, false, ◌&&◌, not, refl, sym, ap, ◌∙◌, subst, true≢false, IsTrue, arith}
use Rattle.rsml_syntax.specs.declared.syntax.Spec.{Spec}
use Rattle.rsml_syntax.specs.declared.world.World.{World}
use Rattle.rsml_meaning.specs.Worlds.{IsWorld}
use Rattle.bdd_core.specs.Diagram.{IsRef, meaning}
use Rattle.elaborate.specs.Machine.{GroundMachine}
use Rattle.guard_encode.specs.Encoding.{Encoding, Keeps}
use Rattle.group_verdicts.specs.Narrowing.{IsOfNone}
use Rattle.group_verdicts.specs.Finding.{IsOfSome}

-- a handle
pub ref_on : (old new : Encoding) (f : ℕ) → Keeps old new → IsRef old.diagram f → IsRef new.diagram f
ref_on old new f keeps is = omega (arith, keeps.diagram.longer, is)

-- the specification of a part of the machine
pub spec_of : (e : Encoding) (m : GroundMachine) (s : Spec) → s ≡ m.base.spec → m ≡ e.machine → s ≡ e.machine.base.spec
spec_of e m s part own = part ∙ ap (λ (x : GroundMachine). x.base.spec) own

-- what is said of the specification
pub on_new : (P : Spec → Type 0) (old new : Encoding) → Keeps old new → P old.machine.base.spec → P new.machine.base.spec
on_new P old new keeps h = subst (λ (m : GroundMachine). P m.base.spec) (sym keeps.machine) h

pub on_old : (P : Spec → Type 0) (old new : Encoding) → Keeps old new → P new.machine.base.spec → P old.machine.base.spec
on_old P old new keeps h = subst (λ (m : GroundMachine). P m.base.spec) keeps.machine h

-- what is true of some world
pub some_on : (old new : Encoding) (truth : World → Bool) → Keeps old new → IsOfSome old truth → IsOfSome new truth
some_on old new truth keeps some = on_new (λ s. IsOfNone (IsWorld s) truth → ⊥) old new keeps some

-- what is not false everywhere is true of some world
pub some_decided : (e : Encoding) (truth : World → Bool) (r : ℕ) (b : Bool)
    → ((values : ℕ → Bool) → meaning e.diagram r values ≡ false) ↔ ((w : World) → IsWorld e.machine.base.spec w → truth w ≡ false)
    → (IsTrue b ↔ ((values : ℕ → Bool) → meaning e.diagram r values ≡ false)) → b ≡ false
    → IsOfSome e truth
some_decided e truth r b exact decides is_not = λ none. true≢false (sym (decides.1 (exact.1 none)) ∙ is_not)

-- where none of some worlds fails a test, one of them passes it
pub some_pass : (s : Spec) (truth test : World → Bool) → IsOfNone (IsWorld s) (λ w. truth w && not (test w)) → (IsOfNone (IsWorld s) truth → ⊥)
    → IsOfNone (IsWorld s) (λ w. truth w && test w) → ⊥
some_pass s truth test all some none = some (λ w is. by (truth w) (test w) (all w is) (none w is))
  where
    by : (t b : Bool) → (t && not b) ≡ false → (t && b) ≡ false → t ≡ false
    by false b fails passes = refl
    by true true fails passes = passes
    by true false fails passes = fails
