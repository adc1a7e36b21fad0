use Rattle.std.proofs.Common.{◌≡◌, ◌∷◌, [], ◌++◌, sym, ap, ◌∙◌, List, Option, map, take, rules}
use Rattle.macros.specs.declared.pairs.Pair.{Pair}
use Rattle.macros.specs.Pairs.{pair_of}
use Rattle.macros.proofs.OneTerm.{pairs_more}
use Rattle.macros.proofs.pairs.pairs_of.Goals as goal

pub loop-number-preserved : goal.loop-number-preserved
loop-number-preserved c =
    let pushed : c.push.new.self.items ≡ c.loop-number.pairs.items ++ c.pair_of.result ∷ [] = search rules in
    pushed ∙ ap (λ (xs : List (Option Pair)). xs ++ c.pair_of.result ∷ []) c.loop-number.invariant
    ∙ ap (λ (x : Option Pair). map pair_of (take c.loop-number.number c.args.phrases.now) ++ x ∷ []) c.pair_of.ensures
    ∙ sym (pairs_more c.args.phrases.now c.loop-number.number c.get.result.now c.get.ensures)
