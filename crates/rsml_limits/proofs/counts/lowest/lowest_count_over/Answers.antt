use Rattle.std.proofs.Common.{◌≡◌, ◌∙◌}
use Rattle.rsml_limits.specs.counts.Counting.{CountedNames, counted_names}
use Rattle.rsml_names.specs.PreviousNames.{previous_names}
use Rattle.rsml_limits.specs.declared.counts.counted.TheConstants.{COUNTED}
use Rattle.rsml_limits.proofs.CountLemmas.{turn_found, turn_passed}
use Rattle.rsml_limits.proofs.counts.lowest.lowest_count_over.Goals as goal

pub returns-then-greatest-count : goal.returns-then-greatest-count
returns-then-greatest-count c =
    let names : c.in_ok-names.names ≡ counted_names c.args.spec.now = c.in_ok-names.ensures ∙ (λ i. record { globals = c.requires i; previous = previous_names c.args.spec.now }) in
    turn_found c.args.spec.now c.in_ok-names.names COUNTED c.loop-counted.counted-index _ c.greatest.result c.in_ok-count.count c.limit.result _
    names c.loop-counted-test.true c.limit.ensures c.greatest.ensures c.in_ok-count.ensures c.if-greatest-count.true c.loop-counted.invariant

pub loop-counted-preserved : goal.loop-counted-preserved
loop-counted-preserved c =
    let names : c.in_ok-names.names ≡ counted_names c.args.spec.now = c.in_ok-names.ensures ∙ (λ i. record { globals = c.requires i; previous = previous_names c.args.spec.now }) in
    turn_passed c.args.spec.now c.in_ok-names.names COUNTED c.loop-counted.counted-index _ c.greatest.result c.in_ok-count.count _
    names c.loop-counted-test.true c.greatest.ensures c.in_ok-count.ensures c.if-greatest-count.false c.loop-counted.invariant
