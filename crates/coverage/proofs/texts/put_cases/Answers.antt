use Rattle.std.proofs.Common.{◌<◌, length, map, get_or, arith}
use Rattle.std.proofs.lemmas.Option.{slice_get-get_or}
use Rattle.rsml_meaning.specs.Interfaces.{send_cases}
use Rattle.state_tree.proofs.Lists.{as_long, get_map}
use Rattle.ground_members.specs.Members.{SendCaseIs}
use Rattle.coverage.specs.declared.counter.Counter.{Counter}
use Rattle.coverage.specs.Text.{case_text}
use Rattle.coverage.proofs.TextLemmas.{pair_more, all_pairs}
use Rattle.coverage.proofs.texts.put_cases.Goals as goal

pub loop-number-preserved : goal.loop-number-preserved
loop-number-preserved g c =
    let s = c.args.machine.now.base.spec in
    let ks = c.args.counters.now in
    let k = c.loop-number.number in
    let one = c.put_case.ensures in
    let many = c.requires.many in
    let within : k < length ks = omega (arith, many, c.loop-number-test.true, c.send_cases-number-end.ensures) in
    let d = c.index-counters-number.result in
    let x = get_or ks k d in
    let here = slice_get-get_or ks k d within in
    pair_more case_text (send_cases s) (map (λ (y : Counter). y.tally) ks) k c.loop-number.invariant one.0 x.tally one.1 (get_map (λ (y : Counter). y.tally) ks k x here) one.2

pub returns : goal.returns
returns g c =
    let m = c.args.machine.now in
    let s = m.base.spec in
    let long = as_long (SendCaseIs m.base.phrases s) (send_cases s) m.send_cases c.law.ensures.cases_are in
    all_pairs case_text (send_cases s) (map (λ (y : Counter). y.tally) c.args.counters.now) c.loop-number.number c.loop-number.invariant
    (omega (arith, long, c.loop-number-test.false, c.send_cases-number-end.ensures))
