use Rattle.std.proofs.Common.{rules, arith, ⊎_elim}
use Rattle.std.proofs.lemmas.Bool.{cases_lt}
use Rattle.event_graph.specs.Sets.{has}
use Rattle.event_graph.proofs.BitLemmas.{least_in_word, none_behind}
use Rattle.event_graph.proofs.events.Events.next_below.Goals as goal

pub returns-then-rest-ne0-clause-some : goal.returns-then-rest-ne0-clause-some
unfolding has
returns-then-rest-ne0-clause-some c =
    let found = least_in_word c.args.self.now.words c.loop-at.at (search rules) (omega (arith, c.if-rest-ne0.true)) in (
      omega (arith, c.loop-at.invariant.0),
      omega (arith, found.0, c.loop-at-test.true),
      found.1,
      λ q l m. ⊎_elim (λ before. c.loop-at.invariant.1 q l before) (λ past. found.2 q past m) (cases_lt q c.loop-at.at),
    )

pub loop-at-preserved : goal.loop-at-preserved
unfolding has
loop-at-preserved c = (
  omega (arith, c.loop-at.invariant.0),
  λ q l m. ⊎_elim (λ before. c.loop-at.invariant.1 q l before)
      (λ within. none_behind c.args.self.now.words c.loop-at.at (omega (arith, c.if-rest-ne0.false)) q within m) (cases_lt q c.loop-at.at),
)

pub returns-clause-none : goal.returns-clause-none
returns-clause-none c = λ _ q l m. c.loop-at.invariant.1 q l (omega (arith, m, c.loop-at-test.false))
