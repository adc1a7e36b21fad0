use Rattle.std.proofs.Common.{◌≡◌, ◌<◌, ◌≤◌, List, length, Some, slice_get, sym, ap, ◌∙◌, subst, arith}
use Rattle.std.proofs.lemmas.Bool.Decides.{nat_tests}
use Rattle.rsml_syntax.specs.declared.syntax.Spec.{Spec}
use Rattle.rsml_meaning.specs.Instances.{globals_of}
use Rattle.rsml_meaning.specs.Interfaces.{SendCaseInstance, send_cases}
use Rattle.rsml_meaning.specs.Trace.{send_line}
use Rattle.state_tree.proofs.Lists.{as_long, beside}
use Rattle.ground_members.specs.declared.send_cases.GroundSendCase.{GroundSendCase}
use Rattle.ground_members.specs.Members.{SendCaseIs}
use Rattle.instance_texts.proofs.FoundLemmas.{got}
use Rattle.text_writer.proofs.WritingLemmas.{alike, still}
use Rattle.reactions.proofs.ItemTexts.{text_there, text_past}
use Rattle.reactions.proofs.sends.put_case.Goals as goal

pub put_answer-requires-clause-values : goal.put_answer-requires-clause-values
put_answer-requires-clause-values g c =
    let k = c.args.case in
    let x = c.in-Some.answered.now in
    let within : k < length c.all_send_cases.result.now = let b = c.in-Some.ensures.lookup.0 in grind (arith, nat_tests, b) in
    c.requires.values x (ap (λ (xs : List GroundSendCase). slice_get xs k) (sym c.all_send_cases.ensures) ∙ got c.all_send_cases.result.now k x within c.in-Some.ensures.lookup.1)

pub returns-in-Some : goal.returns-in-Some
returns-in-Some g c =
    let m = c.args.machine.now in
    let s = m.base.spec in
    let t = c.args.sent.now in
    let k = c.args.case in
    let x = c.in-Some.answered.now in
    let ns = c.args.numbers.now in
    let within : k < length c.all_send_cases.result.now = let b = c.in-Some.ensures.lookup.0 in grind (arith, nat_tests, b) in
    let here : slice_get m.send_cases k ≡ Some x =
    ap (λ (xs : List GroundSendCase). slice_get xs k) (sym c.all_send_cases.ensures) ∙ got c.all_send_cases.result.now k x within c.in-Some.ensures.lookup.1 in
    let a = beside (SendCaseIs m.base.phrases s) (send_cases s) m.send_cases k x c.law.ensures.cases_are here in
    let at : slice_get (send_cases t) k ≡ Some a.0 = ap (λ (u : Spec). slice_get (send_cases u) k) c.requires.sent ∙ a.1 in
    let is : SendCaseIs m.base.phrases t a.0 x = subst (λ (u : Spec). SendCaseIs m.base.phrases u a.0 x) (sym c.requires.sent) a.2 in
    alike (ap (λ (u : Spec). send_line (globals_of u) (record { send_case = a.0; values = ns })) c.requires.sent
    ∙ text_there (λ (y : SendCaseInstance). send_line (globals_of s) (record { send_case = y; values = ns })) (send_cases s) k a.0 a.1)
    (c.put_answer.ensures m.base.phrases a.0 at is)

pub returns-in-None : goal.returns-in-None
returns-in-None g c =
    let m = c.args.machine.now in
    let s = m.base.spec in
    let k = c.args.case in
    let ns = c.args.numbers.now in
    let past : length c.all_send_cases.result.now ≤ k = let b = c.in-None.ensures.lookup in grind (arith, nat_tests, b) in
    let many : length (send_cases s) ≡ length m.send_cases = as_long (SendCaseIs m.base.phrases s) (send_cases s) m.send_cases c.law.ensures.cases_are in
    let same : length c.all_send_cases.result.now ≡ length m.send_cases = ap (λ (xs : List GroundSendCase). length xs) c.all_send_cases.ensures in
    alike (text_past (λ (y : SendCaseInstance). send_line (globals_of s) (record { send_case = y; values = ns })) (send_cases s) k (omega (arith, past, many, same)))
    (still (g.W.Writer.state c.args.writer.now) (g.W.Writer.text c.args.writer.now))
