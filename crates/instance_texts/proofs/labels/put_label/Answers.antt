use Rattle.std.proofs.Common.{◌≡◌, List, Some, None, sym, ap, ◌∙◌}
use Rattle.std.specs.Option.{option_and_then}
use Rattle.rsml_meaning.specs.Instances.{State, states}
use Rattle.state_arrays.specs.Places.{path_at}
use Rattle.instance_texts.proofs.StartLemmas.{starts_below, target_is}
use Rattle.instance_texts.proofs.labels.put_label.Goals as goal

pub returns-in-Some : goal.returns-in-Some
returns-in-Some g c ps t place here is =
    let s = c.args.tree.now in
    let found : Some c.in-Some.source.now ≡ Some t.source = c.in-Some.ensures ∙ ap (λ (xs : List State). path_at xs c.source.result) c.states-nodes.ensures ∙ ap (path_at (states s)) c.source.ensures ∙ is.source in
    let source : t.source ≡ c.in-Some.source.now = cc in
    let target = target_is s t.target c.args.transition.now.target is.target
    ∙ sym (c.target_path.ensures ∙ ap (λ (xs : List State). option_and_then (λ node. path_at xs node) c.target.result) c.states-nodes.ensures ∙ ap (option_and_then (λ node. path_at (states s) node)) c.target.ensures) in
    c.put_label_of.ensures t (starts_below s place t here) (sym (c.ordinal.ensures ∙ is.ordinal)) source target

pub returns-in-None : goal.returns-in-None
returns-in-None g c ps t place here is =
    let none : None ≡ Some t.source = c.in-None.ensures ∙ ap (λ (xs : List State). path_at xs c.source.result) c.states-nodes.ensures ∙ ap (path_at (states c.args.tree.now)) c.source.ensures ∙ is.source in
    absurd (let no : ⊥ = cc in no)
