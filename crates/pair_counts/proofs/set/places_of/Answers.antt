use Rattle.std.proofs.Common.{◌≡◌, ◌||◌, List, [], ◌∷◌, take, ap, sym, ◌∙◌, arith}
use Rattle.std.proofs.lemmas.Grind.{common_steps}
use Rattle.pair_counts.specs.Sets.{is_in}
use Rattle.pair_counts.proofs.SetLemmas.{in_more}
use Rattle.pair_counts.proofs.set.places_of.Goals as goal

pub loop-number-preserved : goal.loop-number-preserved
loop-number-preserved g c = λ q.
    let i = c.loop-number.number-index in
    let eq = g.T.PartialEq.eq in
    let keys = c.args.numbers.now.keys in
    let number = c.number-item.result in
    c.in_ok-put.ensures q
    ∙ ap (λ b. b || is_in eq keys (number ∷ []) q) (c.loop-number.invariant q)
    ∙ ap (λ (n : g.row.T.Denot). is_in eq keys (take i c.args.list.now) q || is_in eq keys (n ∷ []) q) c.number-item.is
    ∙ sym (in_more eq g.met.T.Eq.laws keys c.args.list.now i number q c.loop-number-test.true)

pub returns : goal.returns
returns g c = λ q.
    let all : take c.loop-number.number-index c.args.list.now ≡ c.args.list.now = grind (arith, common_steps) in
    c.loop-number.invariant q ∙ ap (λ (ns : List g.row.T.Denot). is_in g.T.PartialEq.eq c.args.numbers.now.keys ns q) all
