-- An encoder of which nothing was asked, and one that has gone on.
use Rattle.std.proofs.Common.{ℕ, ◌<◌, length, refl, sym, subst, arith}
use Rattle.rsml_meaning.specs.Groups.{groups}
use Rattle.elaborate.specs.Machine.{GroundMachine}
use Rattle.guard_encode.specs.Encoding.{Encoding, Keeps}
use Rattle.guard_encode.proofs.StepLemmas.{keeps_on}

-- without a call all is as it was
pub no_calls : (e : Encoding) → Keeps e e
no_calls e = record {
  machine = refl;
  beside = refl;
  slots = refl;
  keyed = refl;
  diagram = record { same_levels = refl; longer = omega arith; nodes_stay = λ f is. refl; meanings_stay = λ f v is. refl };
}

-- after two calls one
pub two_calls : (a b c : Encoding) → Keeps a b → Keeps b c → Keeps a c
two_calls a b c ab bc = keeps_on a b c ab bc

-- a group that was there is there still
pub there_on : (old new : Encoding) (group : ℕ) → Keeps old new → group < length (groups old.machine.base.spec) → group < length (groups new.machine.base.spec)
there_on old new group keeps less = subst (λ (m : GroundMachine). group < length (groups m.base.spec)) (sym keeps.machine) less
