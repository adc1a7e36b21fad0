use Rattle.std.proofs.Common.{◌≡◌, ◌==◌, List, Some, sym, ap, ◌∙◌}
use Rattle.std.specs.List.{find}
use Rattle.keyed_levels.specs.declared.keyed.Keyed.{Keyed}
use Rattle.guard_encode.proofs.HoldingLemmas.{found_phrase}
use Rattle.guard_encode.proofs.holding.key_truth.Goals as goal

pub is_true-requires-clause-phrase : goal.is_true-requires-clause-phrase
is_true-requires-clause-phrase c =
    let k = c.args.levels.now in
    let found : find (λ (x : Keyed). x.level == c.args.level) k.keyed ≡ Some c.in-Some.key =
    ap (λ (xs : List Keyed). find (λ (x : Keyed). x.level == c.args.level) xs) (sym c.keys.ensures.keyed) ∙ sym c.key_of.ensures ∙ c.in-Some.is in
    found_phrase k c.args.level c.in-Some.key c.keys.ensures.law found
