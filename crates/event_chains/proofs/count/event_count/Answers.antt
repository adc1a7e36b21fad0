use Rattle.std.proofs.Common.{◌≡◌, ◌≤◌, List, flat_map, length, ap, ◌∙◌, arith}
use Rattle.rsml_syntax.specs.declared.syntax.Spec.{Spec}
use Rattle.rsml_syntax.specs.declared.syntax.Decl.{Decl}
use Rattle.rsml_syntax.specs.rules.Globals.{Globals, globals}
use Rattle.rsml_syntax.specs.limits.Checked.{IsChecked}
use Rattle.rsml_meaning.specs.Instances.{events_of, events}
use Rattle.state_arrays.proofs.Room.{few, events_few}
use Rattle.event_chains.proofs.count.event_count.Goals as goal

few_events : (s : Spec) → IsChecked s → length (events s) ≤ 1024
few_events s checked = events_few s (few s checked.keeps.limits)

made : (s z : Spec) (ds : List Decl) (g : Globals) → g ≡ globals ds → ds ≡ z.decls → z ≡ s → length (flat_map (events_of g) ds) ≡ length (events s)
made s z ds g h k e = ap (λ (g : Globals). length (flat_map (events_of g) ds)) h ∙ ap (λ (ds : List Decl). length (flat_map (events_of (globals ds)) ds)) (k ∙ ap (λ (z : Spec). z.decls) e)

pub returns-in_err-globals-clause-few : goal.returns-in_err-globals-clause-few
returns-in_err-globals-clause-few c = few_events c.args.checked.now c.spec.ensures.checked

pub declared-requires : goal.declared-requires
declared-requires c =
    let few = few_events c.args.checked.now c.spec.ensures.checked in
    let same = made c.args.checked.now c.spec.result.now c.as_slice-decls.result.now c.in_ok-globals.globals c.in_ok-globals.ensures c.as_slice-decls.ensures c.spec.ensures.same in
    omega (arith, few, same)

pub overflow_cast-result : goal.overflow_cast-result
overflow_cast-result c =
    let few = few_events c.args.checked.now c.spec.ensures.checked in
    let same = made c.args.checked.now c.spec.result.now c.as_slice-decls.result.now c.in_ok-globals.globals c.in_ok-globals.ensures c.as_slice-decls.ensures c.spec.ensures.same in
    omega (arith, few, same, c.declared.ensures)

pub returns-clause-count : goal.returns-clause-count
returns-clause-count c =
    c.declared.ensures ∙ made c.args.checked.now c.spec.result.now c.as_slice-decls.result.now c.in_ok-globals.globals c.in_ok-globals.ensures c.as_slice-decls.ensures c.spec.ensures.same

pub returns-clause-few : goal.returns-clause-few
returns-clause-few c = few_events c.args.checked.now c.spec.ensures.checked
