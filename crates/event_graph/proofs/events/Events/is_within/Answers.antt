use Rattle.std.proofs.Common.{rules, ◌≡◌, length, arith, sym, true≢false}
use Rattle.event_graph.specs.Sets.{has}
use Rattle.event_graph.proofs.BitLemmas.{all_within, word_within}
use Rattle.event_graph.proofs.events.Events.is_within.Goals as goal

pub returns-then-self-place : goal.returns-then-self-place
unfolding has
returns-then-self-place c = (
  λ h. absurd (true≢false (sym h)),
  λ h.
      let here = word_within c.args.self.now.words c.args.other.now.words h c.loop-place.place (search rules) (search rules) in
      absurd (c.if-self-place.true here),
)

pub returns : goal.returns
unfolding has
returns c =
    let long : length c.args.self.now.words ≡ 16 = search rules in
    let same : length c.args.other.now.words ≡ 16 = search rules in
    (λ _. all_within c.args.self.now.words c.args.other.now.words c.loop-place.place long same (omega (arith, c.loop-place-test.false, c.loop-place.auto.place-end)) c.loop-place.invariant, λ _. search rules)
