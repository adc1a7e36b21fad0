use Rattle.std.proofs.Common.{◌≡◌, ◌+◌, ◌++◌, List, map, zip, flat_map, sym, ap, ◌∙◌, subst}
use Rattle.std.specs.Prelude.{codes}
use Rattle.std.specs.List.{sum_by}
use Rattle.rsml_syntax.specs.declared.syntax.Spec.{Spec}
use Rattle.rsml_meaning.specs.Transitions.{transitions}
use Rattle.rsml_meaning.specs.Interfaces.{send_cases}
use Rattle.rsml_meaning.specs.Texts.{text_line}
use Rattle.ground_members.specs.Members.{TransitionIs, SendCaseIs}
use Rattle.text_writer.specs.Writes.{Writes}
use Rattle.text_writer.proofs.WritingLemmas.{followed, alike}
use Rattle.coverage.specs.declared.counter.Counter.{Counter}
use Rattle.coverage.specs.Coverage.{Coverage}
use Rattle.coverage.specs.Counters.{IsOf}
use Rattle.coverage.specs.Text.{coverage_text, transition_text, case_text, sums_text, zeros_in}
use Rattle.coverage.proofs.TextLemmas.{as_many}
use Rattle.coverage.proofs.counts.Counts.put.Goals as goal

pub put_transitions-requires : goal.put_transitions-requires
put_transitions-requires g c =
    let m = c.self.inside.machine.now in
    as_many (λ t k. IsOf t.guard k) (TransitionIs m.base.phrases m.base.spec) (transitions m.base.spec) c.self.inside.transitions.items c.as_slice-transitions.result.now m.transitions
    c.self.invariant.0 c.as_slice-transitions.ensures.value c.law.ensures.transitions_are

pub put_cases-requires-clause-many : goal.put_cases-requires-clause-many
put_cases-requires-clause-many g c =
    let m = c.self.inside.machine.now in
    as_many (λ x k. IsOf x.guard k) (SendCaseIs m.base.phrases m.base.spec) (send_cases m.base.spec) c.self.inside.send_cases.items c.as_slice-send_cases.result.now m.send_cases
    c.self.invariant.1 c.as_slice-send_cases.ensures.value c.law.ensures.cases_are

pub zeros-of_transitions-requires : goal.zeros-of_transitions-requires
zeros-of_transitions-requires g c =
    let m = c.self.inside.machine.now in
    as_many (λ t k. IsOf t.guard k) (TransitionIs m.base.phrases m.base.spec) (transitions m.base.spec) c.self.inside.transitions.items c.as_slice-transitions.result.now m.transitions
    c.self.invariant.0 c.as_slice-transitions.ensures.value c.law.ensures.transitions_are
    ∙ sym c.transitions.ensures

pub zeros-of_cases-requires : goal.zeros-of_cases-requires
zeros-of_cases-requires g c =
    let m = c.self.inside.machine.now in
    as_many (λ x k. IsOf x.guard k) (SendCaseIs m.base.phrases m.base.spec) (send_cases m.base.spec) c.self.inside.send_cases.items c.as_slice-send_cases.result.now m.send_cases
    c.self.invariant.1 c.as_slice-send_cases.ensures.value c.law.ensures.cases_are
    ∙ sym c.send_cases.ensures

pub returns : goal.returns
returns g c =
    let s = c.self.inside.machine.now.base.spec in
    let spec : c.args.checked.now ≡ s = c.requires.checked ∙ sym (ap (λ (v : Coverage). v.spec) c.self.view_is) in
    let ts = c.as_slice-transitions.ensures.value in
    let cs = c.as_slice-send_cases.ensures.value in
    let name = alike (ap (λ (z : Spec). text_line (codes "cover " ++ z.name)) spec) c.put_name.ensures in
    let taken = alike (ap (λ (ks : List Counter). flat_map transition_text (zip (transitions s) (map (λ k. k.tally) ks))) ts) c.put_transitions.ensures in
    let chosen = alike (ap (λ (ks : List Counter). flat_map case_text (zip (send_cases s) (map (λ k. k.tally) ks))) cs) c.put_cases.ensures in
    let first = c.zeros-of_transitions.ensures.is ∙ ap (λ (ks : List Counter). sum_by zeros_in (map (λ k. k.tally) ks)) ts in
    let second = c.zeros-of_cases.ensures.is ∙ ap (λ (ks : List Counter). sum_by zeros_in (map (λ k. k.tally) ks)) cs in
    let sums = alike (λ i. sums_text c.args.events (first i + second i)) c.put_sums.ensures in
    subst (λ (v : Coverage). Writes (g.W.Writer.state c.args.out.now) (g.W.Writer.text c.args.out.now) (coverage_text v c.args.events) (g.W.Writer.state c.put_sums.new.out) (g.W.Writer.text c.put_sums.new.out))
    c.self.view_is (followed name (followed taken (followed chosen sums)))
