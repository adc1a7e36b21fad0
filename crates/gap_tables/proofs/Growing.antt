-- What stays while more levels of an encoder stand for bounds.
use Rattle.std.proofs.Common.{◌≡◌, ◌↔◌, ℕ, Bool, sym, subst, IsTrue, arith}
use Rattle.rsml_syntax.specs.declared.syntax.Spec.{Spec}
use Rattle.rsml_syntax.specs.declared.world.World.{World}
use Rattle.rsml_meaning.specs.Worlds.{IsWorld}
use Rattle.bdd_core.specs.Diagram.{IsRef}
use Rattle.elaborate.specs.Machine.{GroundMachine}
use Rattle.guard_encode.specs.declared.reading.ReadParts.{ReadParts}
use Rattle.guard_encode.specs.Encoding.{Encoding, Grows}
use Rattle.guard_encode.proofs.BoundLemmas.{found_grows, told_grows}
use Rattle.gap_tables.specs.Widening.{AreAs, FindsLater, TellsOf}

-- a handle
pub grown_ref : (old new : Encoding) (f : ℕ) → Grows old new → IsRef old.diagram f → IsRef new.diagram f
grown_ref old new f grows is = omega (arith, grows.diagram.longer, is)

-- what is said of the specification
pub grown_new : (P : Spec → Type 0) (old new : Encoding) → Grows old new → P old.machine.base.spec → P new.machine.base.spec
grown_new P old new grows h = subst (λ (m : GroundMachine). P m.base.spec) (sym grows.machine) h

pub grown_old : (P : Spec → Type 0) (old new : Encoding) → Grows old new → P new.machine.base.spec → P old.machine.base.spec
grown_old P old new grows h = subst (λ (m : GroundMachine). P m.base.spec) grows.machine h

pub tells_of_grows : (a b : Encoding) (truth : World → Bool) (r : ℕ) → Grows a b → TellsOf a truth r → TellsOf b truth r
tells_of_grows a b truth r grows of = record {
  told = of.told;
  tells = told_grows a b of.told r grows of.tells;
  same = grown_new (λ s. (v : World) → IsWorld s v → of.told v ≡ truth v) a b grows of.same;
}

pub later_grows : (a b : Encoding) (read : ReadParts) (w : World) (m n r : ℕ) → Grows a b → FindsLater a read w m n r → FindsLater b read w m n r
later_grows a b read w m n r grows later = record {
  later = later.later;
  finds = found_grows a b later.later r grows later.finds;
  exact = grown_new (λ s. (v : World) → IsWorld s v → IsTrue (later.later v) ↔ AreAs read w m n v) a b grows later.exact;
}
