use Rattle.std.proofs.Common.{◌≡◌, ◌<◌, ◌≤◌, map, length, slice_get, ap, ◌∙◌, arith}
use Rattle.std.proofs.lemmas.Bool.Decides.{nat_tests}
use Rattle.rsml_syntax.specs.declared.syntax.Spec.{Spec}
use Rattle.rsml_meaning.specs.Instances.{globals_of}
use Rattle.rsml_meaning.specs.Interfaces.{send_cases}
use Rattle.instance_texts.specs.SentCases.{Answered, answer_of}
use Rattle.instance_texts.proofs.SentLemmas.{case_there, case_past, by_value}
use Rattle.instance_texts.proofs.sent_texts.SentTexts.names.Goals as goal

pub returns-in-Some : goal.returns-in-Some
returns-in-Some c =
    let known = globals_of c.args.self.now in
    let all : c.deref.result.now ≡ map (answer_of known) (send_cases c.args.self.now) = c.deref.ensures.value ∙ c.self.invariant ∙ ap (λ (s : Spec). map (answer_of (globals_of s)) (send_cases s)) c.self.view_is in
    let within : c.args.case < length c.deref.result.now = let b = c.in-Some.ensures.lookup.0 in grind (arith, nat_tests, b) in
    c.names_at.ensures ∙ case_there known (λ (x : Answered). slice_get x.names c.args.place) (send_cases c.args.self.now) c.deref.result.now c.args.case c.in-Some.answered.now all within c.in-Some.ensures.lookup.1
    ∙ by_value known c.args.place (slice_get (send_cases c.args.self.now) c.args.case)

pub returns-in-None : goal.returns-in-None
returns-in-None c =
    let known = globals_of c.args.self.now in
    let all : c.deref.result.now ≡ map (answer_of known) (send_cases c.args.self.now) = c.deref.ensures.value ∙ c.self.invariant ∙ ap (λ (s : Spec). map (answer_of (globals_of s)) (send_cases s)) c.self.view_is in
    let past : length c.deref.result.now ≤ c.args.case = let b = c.in-None.ensures.lookup in grind (arith, nat_tests, b) in
    case_past known (λ (x : Answered). slice_get x.names c.args.place) (send_cases c.args.self.now) c.deref.result.now c.args.case all past
    ∙ by_value known c.args.place (slice_get (send_cases c.args.self.now) c.args.case)
