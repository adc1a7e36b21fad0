use Rattle.std.proofs.Common.{◌≡◌, [], ◌∷◌, ◌+◌, List, drop, ap, sym, ◌∙◌}
use Rattle.std.specs.Prelude.{flat_map}
use Rattle.rsml_syntax.specs.declared.syntax.Value.{Value}
use Rattle.rsml_syntax.specs.grammar.Written.{sum_of_value}
use Rattle.rsml_rules.specs.breaches.Owned.{with_all}
use Rattle.rsml_rules.proofs.OwnerLemmas.{split, with_turn}
use Rattle.rsml_rules.proofs.breaches.owner.Owner.with_values.Goals as goal

pub loop-value-preserved : goal.loop-value-preserved
loop-value-preserved c =
    let g = c.args.setting.now.tables.globals in
    let values = c.args.values.now in
    let i = c.loop-value.value-index in
    let x = c.value-item.result in
    with_turn g c.loop-value.owner _ _ [] [] (sum_of_value x) (flat_map sum_of_value (drop (i + 1) values))
    c.with_value-owner.ensures
    (ap (λ (xs : List Value). with_all g c.loop-value.owner [] (flat_map sum_of_value xs)) (sym (split values i x c.loop-value-test.true c.value-item.is)) ∙ c.loop-value.invariant)
