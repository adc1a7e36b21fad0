use Rattle.std.proofs.Common.{◌≡◌, ◌<◌, ◌≤◌, length, ap, ◌∙◌, arith}
use Rattle.std.proofs.lemmas.Bool.Decides.{nat_tests}
use Rattle.rsml_syntax.specs.declared.syntax.Spec.{Spec}
use Rattle.instance_texts.specs.declared.sorts.Sort.TheVariants as sorts
use Rattle.instance_texts.specs.Listing.{all_listed}
use Rattle.instance_texts.proofs.FoundLemmas.{name_there, name_past}
use Rattle.instance_texts.proofs.texts.Texts.input_name.Goals as goal

pub returns-in-Some : goal.returns-in-Some
returns-in-Some c =
    let all : c.deref.result.now ≡ all_listed sorts.Receive c.args.self.now = c.deref.ensures.value ∙ c.self.invariant.are_receives ∙ ap (λ (s : Spec). all_listed sorts.Receive s) c.self.view_is in
    let within : c.args.receive < length c.deref.result.now = let b = c.in-Some.ensures.lookup.0 in grind (arith, nat_tests, b) in
    c.input.ensures ∙ name_there c.args.self.now c.deref.result.now c.args.receive c.args.place c.in-Some.listed.now all within c.in-Some.ensures.lookup.1

pub returns-in-None : goal.returns-in-None
returns-in-None c =
    let all : c.deref.result.now ≡ all_listed sorts.Receive c.args.self.now = c.deref.ensures.value ∙ c.self.invariant.are_receives ∙ ap (λ (s : Spec). all_listed sorts.Receive s) c.self.view_is in
    let past : length c.deref.result.now ≤ c.args.receive = let b = c.in-None.ensures.lookup in grind (arith, nat_tests, b) in
    name_past c.args.self.now c.deref.result.now c.args.receive c.args.place all past
