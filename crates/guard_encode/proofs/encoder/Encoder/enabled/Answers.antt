use Rattle.std.proofs.Common.{length, List, ℕ, sym, ap, ◌∙◌, subst}
use Rattle.std.specs.List.{All}
use Rattle.std.proofs.lemmas.Result.{IfOk-weaker}
use Rattle.bdd_core.specs.Diagram.{IsRef}
use Rattle.bdd_core.specs.Calls.{Represents}
use Rattle.phrase_diagrams.specs.Diagrams.{truths_at}
use Rattle.elaborate.specs.Enabled.{enabled_at}
use Rattle.guard_encode.specs.Encoding.{Encoding, IsMember, Tells, encoding_of, worlds_of}
use Rattle.guard_encode.specs.Others.{TellPhrases, enabled_by}
use Rattle.guard_encode.proofs.StepLemmas.{encoded_stay}
use Rattle.guard_encode.proofs.EncoderLemmas.{own_worlds}
use Rattle.guard_encode.proofs.OtherLemmas.{active_now, active_refs, member_told, phrases_now, text_told}
use Rattle.guard_encode.proofs.encoder.Encoder.enabled.Goals as goal

pub enabled_by-requires-clause-states : goal.enabled_by-requires-clause-states
enabled_by-requires-clause-states c =
    ap (λ (fs : List ℕ). length fs) c.as_slice.ensures.value ∙ c.self.invariant.stored.active_are.many

pub enabled_by-requires-clause-active : goal.enabled_by-requires-clause-active
enabled_by-requires-clause-active c =
    let e = encoding_of c.self.inside.machine.now c.self.inside.levels c.self.inside.arena in
    subst (All (IsRef c.self.inside.arena)) (sym c.as_slice.ensures.value) (active_refs e.diagram (worlds_of e) _ (active_now _ _ _ _ c.self.invariant))

pub enabled_by-requires-clause-many : goal.enabled_by-requires-clause-many
enabled_by-requires-clause-many c = ap (λ (fs : List ℕ). length fs) c.as_slice-2.ensures.value ∙ c.self.invariant.stored.phrases_are.many

pub enabled_by-requires-clause-phrases : goal.enabled_by-requires-clause-phrases
enabled_by-requires-clause-phrases c = subst (All (IsRef c.self.inside.arena)) (sym c.as_slice-2.ensures.value) c.self.invariant.stored.phrases_are.refs

pub enabled_by-requires-clause-member : goal.enabled_by-requires-clause-member
enabled_by-requires-clause-member c = subst (λ (e : Encoding). IsMember e.machine c.args.member) (sym c.self.view_is) c.requires

pub invariant_of-self : goal.invariant_of-self
invariant_of-self c =
    encoded_stay _ _ _ c.enabled_by.new.arena _ c.enabled_by.ensures.keeps c.self.invariant

pub returns-clause-answer : goal.returns-clause-answer
returns-clause-answer c =
    let m = c.self.inside.machine.now in
    let k = c.self.inside.levels in
    let old = c.self.inside.arena in
    let told : TellPhrases (encoding_of m k old) m.base c.as_slice-2.result.now =
    subst (TellPhrases (encoding_of m k old) m.base) (sym c.as_slice-2.ensures.value) (phrases_now m k old _ c.self.invariant) in
    IfOk-weaker c.enabled_by.result (Represents c.enabled_by.new.arena (λ v. enabled_by m (truths_at old c.as_slice.result.now v) (truths_at old c.as_slice-2.result.now v) c.args.member)) _
    (λ r h. member_told m k old c.enabled_by.new.arena _ m c.as_slice.result.now c.as_slice-2.result.now c.args.member r c.self.invariant c.as_slice.ensures.value (own_worlds m.base.spec) told c.law.ensures h)
    c.enabled_by.ensures.answer

pub returns-clause-text : goal.returns-clause-text
returns-clause-text c =
    let m = c.self.inside.machine.now in
    let e = encoding_of m c.self.inside.levels c.enabled_by.new.arena in
    IfOk-weaker c.enabled_by.result (Tells e (λ w. enabled_at m w c.args.member)) _
    (λ r h. text_told c.members_are_enabled_as_in_the_text.ensures.each e m c.args.member r c.law.ensures h)
    (returns-clause-answer c)
