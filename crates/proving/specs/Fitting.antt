-- What is proved fits a specification and claims: what is asked of it where it is written.
use Rattle.std.specs.Prelude.{◌<◌, List, length, All, ⊤}
use Rattle.rsml_syntax.specs.declared.syntax.Spec.{Spec}
use Rattle.rsml_meaning.specs.Transitions.{transitions}
use Rattle.rsml_meaning.specs.Worlds.{IsWorld}
use Rattle.claim_syntax.specs.declared.claim.Claim.{Claim}
use Rattle.invariants.specs.declared.proof.Break.{Break}
use Rattle.invariants.specs.declared.proof.Proof.{Proof}
use Rattle.invariants.specs.declared.proof.Proof.TheVariants as proofs

-- The world is one of the specification, the numbers are those of transitions, and there is a claim at the place.
pub record FitsBreak (s : Spec) (cs : List Claim) (b : Break) : Type 0 where
  pub world : IsWorld s b.world
  pub taken : All (λ number. number < length (transitions s)) b.taken.items
  pub claim : b.claim < length cs

-- so is what is proved
abbrev pub FitsProof : Spec → List Claim → Proof → Type 0
FitsProof s cs proofs.Inductive = ⊤
FitsProof s cs (proofs.Initial claim) = claim < length cs
FitsProof s cs (proofs.Breaks b) = FitsBreak s cs b
