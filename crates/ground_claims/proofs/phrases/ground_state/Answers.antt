use Rattle.std.proofs.Common.{◌≡◌, true, List, refl, sym, subst, true≢false}
use Rattle.rsml_syntax.specs.declared.syntax.Mention.{Mention}
use Rattle.rsml_syntax.specs.declared.syntax.Simple.{Simple}
use Rattle.rsml_syntax.specs.declared.syntax.Simple.TheVariants as simples
use Rattle.rsml_ground.specs.StandsFor.{IsNode}
use Rattle.claim_syntax.specs.OfStates.{asks_a_state}
use Rattle.ground_claims.specs.StandsFor.{StateIs}
use Rattle.ground_claims.proofs.Telling.{state_is}
use Rattle.ground_claims.proofs.phrases.ground_state.Goals as goal

asks_by_path : (b : Simple) → asks_a_state b ≡ true → ((path : List Mention) → b ≡ simples.In path → ⊥) → ⊥
asks_by_path (simples.In path) h denied = denied path refl
asks_by_path (simples.Macro m) h denied = true≢false (sym h)
asks_by_path (simples.Compare left relation right) h denied = true≢false (sym h)
asks_by_path (simples.Function f relation right) h denied = true≢false (sym h)

pub returns : goal.returns
returns c =
    let s = c.args.lookup.now in
    let r = c.args.here.now in
    let node : IsNode s r c.in-In.path c.in_ok-node-in-In.node = subst (λ path. IsNode s r path c.in_ok-node-in-In.node) c.as_slice.ensures c.in_ok-node-in-In.ensures in
    subst (λ b. StateIs s r b c.in_ok-node-in-In.node) (sym c.in-In.is) (state_is s r c.in-In.path c.in_ok-node-in-In.node node)

pub unreachable-requires : goal.unreachable-requires
unreachable-requires c = asks_by_path c.args.simple.now c.requires.asks c.in_default.not-In
