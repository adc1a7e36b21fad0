use Rattle.std.proofs.Common.{◌≡◌, ◌<◌, ◌≤◌, ◌++◌, List, length, codes, Some, slice_get, sym, ap, ◌∙◌, subst, arith}
use Rattle.std.proofs.lemmas.Bool.Decides.{nat_tests}
use Rattle.rsml_syntax.specs.declared.syntax.Spec.{Spec}
use Rattle.rsml_meaning.specs.Texts.{text_line, label}
use Rattle.rsml_meaning.specs.Transitions.{TransitionInstance, transitions}
use Rattle.state_tree.proofs.Lists.{as_long, beside}
use Rattle.ground_members.specs.declared.transitions.GroundTransition.{GroundTransition}
use Rattle.ground_members.specs.Members.{TransitionIs}
use Rattle.instance_texts.proofs.FoundLemmas.{got}
use Rattle.text_writer.proofs.WritingLemmas.{alike, still}
use Rattle.reactions.proofs.ItemTexts.{text_there, text_past}
use Rattle.reactions.proofs.takes.put_take.Goals as goal

pub returns-in-Some : goal.returns-in-Some
returns-in-Some g c =
    let m = c.args.machine.now in
    let s = m.base.spec in
    let k = c.args.transition in
    let x = c.in-Some.taken.now in
    let within : k < length c.all_transitions.result.now = let b = c.in-Some.ensures.lookup.0 in grind (arith, nat_tests, b) in
    let here : slice_get m.transitions k ≡ Some x =
    ap (λ (xs : List GroundTransition). slice_get xs k) (sym c.all_transitions.ensures) ∙ got c.all_transitions.result.now k x within c.in-Some.ensures.lookup.1 in
    let t = beside (TransitionIs m.base.phrases s) (transitions s) m.transitions k x c.law.ensures.transitions_are here in
    let at : slice_get (transitions c.tree.result.now) k ≡ Some t.0 = ap (λ (u : Spec). slice_get (transitions u) k) c.tree.ensures ∙ t.1 in
    let is : TransitionIs m.base.phrases c.tree.result.now t.0 x = subst (λ (u : Spec). TransitionIs m.base.phrases u t.0 x) (sym c.tree.ensures) t.2 in
    alike (text_there (λ (y : TransitionInstance). text_line (codes "    take " ++ label y)) (transitions s) k t.0 t.1)
    (c.put_line.ensures m.base.phrases t.0 k at is)

pub returns-in-None : goal.returns-in-None
returns-in-None g c =
    let m = c.args.machine.now in
    let s = m.base.spec in
    let k = c.args.transition in
    let past : length c.all_transitions.result.now ≤ k = let b = c.in-None.ensures.lookup in grind (arith, nat_tests, b) in
    let many : length (transitions s) ≡ length m.transitions = as_long (TransitionIs m.base.phrases s) (transitions s) m.transitions c.law.ensures.transitions_are in
    let same : length c.all_transitions.result.now ≡ length m.transitions = ap (λ (xs : List GroundTransition). length xs) c.all_transitions.ensures in
    alike (text_past (λ (y : TransitionInstance). text_line (codes "    take " ++ label y)) (transitions s) k (omega (arith, past, many, same)))
    (still (g.W.Writer.state c.args.writer.now) (g.W.Writer.text c.args.writer.now))
