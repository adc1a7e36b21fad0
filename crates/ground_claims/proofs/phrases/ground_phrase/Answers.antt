use Rattle.std.proofs.Common.{◌≡◌, ℕ, List, [], ◌∷◌, ◌++◌, sym, ap, ◌∙◌, subst}
use Rattle.rsml_meaning.specs.Truth.{within}
use Rattle.rsml_syntax.specs.declared.syntax.Phrase.TheVariants as written
use Rattle.ground_claims.specs.StandsFor.{StateIs, PhraseIs}
use Rattle.ground_claims.specs.declared.phrase.StatePhrase.TheVariants as phrases
use Rattle.ground_claims.proofs.Telling.{plain_is, any_is, every_is}
use Rattle.ground_claims.proofs.phrases.ground_phrase.Goals as goal

pub returns-in_ok-push-in-Plain : goal.returns-in_ok-push-in-Plain
returns-in_ok-push-in-Plain c =
    let s = c.args.lookup.now in
    let told : StateIs s (within 0) c.in-Plain.simple c.in_ok-node-in-Plain.node = subst (λ r. StateIs s r c.in-Plain.simple c.in_ok-node-in-Plain.node) c.within-here.ensures c.in_ok-node-in-Plain.ensures in
    let one : c.push.new.self ≡ c.in_ok-node-in-Plain.node ∷ [] = c.in_ok-push-in-Plain.ensures.ok ∙ ap (λ (ns : List ℕ). ns ++ (c.in_ok-node-in-Plain.node ∷ [])) c.new-nodes.ensures in
    subst (λ p. PhraseIs s p (phrases.Every c.push.new.self)) (sym c.in-Plain.is)
    (subst (λ ns. PhraseIs s (written.Plain c.in-Plain.simple) (phrases.Every ns)) (sym one) (plain_is s c.in-Plain.simple c.in_ok-node-in-Plain.node told))

pub returns-in_ok-nodes-in-Any : goal.returns-in_ok-nodes-in-Any
returns-in_ok-nodes-in-Any c =
    let s = c.args.lookup.now in
    subst (λ p. PhraseIs s p (phrases.Any c.in_ok-nodes-in-Any.nodes)) (sym c.in-Any.is) (any_is s c.in-Any.variable c.in-Any.bound c.in-Any.body c.in_ok-nodes-in-Any.nodes c.in_ok-nodes-in-Any.ensures)

pub returns-in_ok-nodes-in-Every : goal.returns-in_ok-nodes-in-Every
returns-in_ok-nodes-in-Every c =
    let s = c.args.lookup.now in
    subst (λ p. PhraseIs s p (phrases.Every c.in_ok-nodes-in-Every.nodes)) (sym c.in-Every.is) (every_is s c.in-Every.variable c.in-Every.bound c.in-Every.body c.in_ok-nodes-in-Every.nodes c.in_ok-nodes-in-Every.ensures)
