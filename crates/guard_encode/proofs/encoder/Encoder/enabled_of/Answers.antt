use Rattle.std.proofs.Common.{length, List, ℕ, sym, ap, ◌∙◌, subst}
use Rattle.std.specs.List.{All}
use Rattle.std.proofs.lemmas.Result.{IfOk-weaker}
use Rattle.equal_frames.specs.Alike.{HaveSameWorlds}
use Rattle.bdd_core.specs.Diagram.{IsRef}
use Rattle.bdd_core.specs.Calls.{Represents}
use Rattle.phrase_diagrams.specs.Diagrams.{truths_at}
use Rattle.guard_encode.specs.Encoding.{Encoding, encoding_of, worlds_of}
use Rattle.guard_encode.specs.Others.{TellPhrases, enabled_by}
use Rattle.guard_encode.proofs.StepLemmas.{encoded_stay}
use Rattle.guard_encode.proofs.OtherLemmas.{active_many, active_now, active_refs, member_told, text_told}
use Rattle.guard_encode.proofs.encoder.Encoder.enabled_of.Goals as goal

pub enabled_by-requires-clause-states : goal.enabled_by-requires-clause-states
enabled_by-requires-clause-states c =
    let e = encoding_of c.self.inside.machine.now c.self.inside.levels c.self.inside.arena in
    let same : HaveSameWorlds e.machine.base.spec c.args.other.now.base.spec = subst (λ (x : Encoding). HaveSameWorlds x.machine.base.spec c.args.other.now.base.spec) (sym c.self.view_is) c.requires.worlds in
    ap (λ (fs : List ℕ). length fs) c.as_slice.ensures.value ∙ active_many e.diagram (worlds_of e) c.args.other.now.base.spec _ same (active_now _ _ _ _ c.self.invariant)

pub enabled_by-requires-clause-active : goal.enabled_by-requires-clause-active
enabled_by-requires-clause-active c =
    let e = encoding_of c.self.inside.machine.now c.self.inside.levels c.self.inside.arena in
    subst (All (IsRef c.self.inside.arena)) (sym c.as_slice.ensures.value) (active_refs e.diagram (worlds_of e) _ (active_now _ _ _ _ c.self.invariant))

pub enabled_by-requires-clause-many : goal.enabled_by-requires-clause-many
enabled_by-requires-clause-many c = ap (λ (fs : List ℕ). length fs) c.refs.ensures ∙ c.requires.phrases.many

pub enabled_by-requires-clause-phrases : goal.enabled_by-requires-clause-phrases
enabled_by-requires-clause-phrases c =
    subst (All (IsRef c.self.inside.arena)) (sym c.refs.ensures) (subst (λ (e : Encoding). All (IsRef e.diagram) c.args.phrases.now) (sym c.self.view_is) c.requires.phrases.refs)

pub invariant_of-self : goal.invariant_of-self
invariant_of-self c =
    encoded_stay _ _ _ c.enabled_by.new.arena _ c.enabled_by.ensures.keeps c.self.invariant

pub returns-clause-text : goal.returns-clause-text
returns-clause-text c =
    let own = c.self.inside.machine.now in
    let k = c.self.inside.levels in
    let old = c.self.inside.arena in
    let m = c.args.other.now in
    let same : HaveSameWorlds own.base.spec m.base.spec = subst (λ (x : Encoding). HaveSameWorlds x.machine.base.spec m.base.spec) (sym c.self.view_is) c.requires.worlds in
    let told : TellPhrases (encoding_of own k old) m.base c.refs.result.now =
    subst (TellPhrases (encoding_of own k old) m.base) (sym c.refs.ensures) (subst (λ (x : Encoding). TellPhrases x m.base c.args.phrases.now) (sym c.self.view_is) c.requires.phrases) in
    IfOk-weaker c.enabled_by.result (Represents c.enabled_by.new.arena (λ v. enabled_by m (truths_at old c.as_slice.result.now v) (truths_at old c.refs.result.now v) c.args.member)) _
    (λ r h. text_told c.members_are_enabled_as_in_the_text.ensures.each (encoding_of own k c.enabled_by.new.arena) m c.args.member r c.law.ensures
    (member_told own k old c.enabled_by.new.arena _ m c.as_slice.result.now c.refs.result.now c.args.member r c.self.invariant c.as_slice.ensures.value same told c.law.ensures h))
    c.enabled_by.ensures.answer
