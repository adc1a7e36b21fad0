use Rattle.std.proofs.Common.{sym, subst}
use Rattle.rsml_ground.specs.Truths.{Grounded}
use Rattle.equal_frames.specs.Alike.{HaveSameWorlds}
use Rattle.guard_encode.specs.Encoding.{Encoding, encoding_of}
use Rattle.guard_encode.specs.Others.{TellPhrases}
use Rattle.guard_encode.specs.Phrases.{AreActive}
use Rattle.guard_encode.proofs.StepLemmas.{encoded_stay}
use Rattle.guard_encode.proofs.OtherLemmas.{own_active, own_others}
use Rattle.guard_encode.proofs.encoder.Encoder.phrases_of.Goals as goal

pub all_phrases-requires-clause-active : goal.all_phrases-requires-clause-active
all_phrases-requires-clause-active c =
    subst (AreActive c.self.inside.arena c.self.inside.levels) (sym c.as_slice.ensures.value) (own_active _ _ _ _ c.self.invariant)

pub all_phrases-requires-clause-worlds : goal.all_phrases-requires-clause-worlds
all_phrases-requires-clause-worlds c =
    subst (λ (g : Grounded). HaveSameWorlds c.self.inside.levels.base.spec g.spec) (sym c.macros.ensures)
    (subst (λ (g : Grounded). HaveSameWorlds g.spec c.args.other.now.base.spec) (sym c.self.invariant.same)
    (subst (λ (e : Encoding). HaveSameWorlds e.machine.base.spec c.args.other.now.base.spec) (sym c.self.view_is) c.requires))

pub invariant_of-self : goal.invariant_of-self
invariant_of-self c =
    encoded_stay _ _ _ c.all_phrases.new.arena _ c.all_phrases.ensures.keeps c.self.invariant

pub invariant_of-self-2 : goal.invariant_of-self-2
invariant_of-self-2 c =
    encoded_stay _ _ _ c.all_phrases.new.arena _ c.all_phrases.ensures.keeps c.self.invariant

pub returns-clause-answer : goal.returns-clause-answer
returns-clause-answer c =
    let k = c.self.inside.levels in
    let d = c.all_phrases.new.arena in
    subst (λ (g : Grounded). TellPhrases (encoding_of c.self.inside.machine.now k d) g c.in_ok-diagrams.diagrams.items) c.macros.ensures
    (own_others c.self.inside.machine.now k d c.macros.result.now c.in_ok-diagrams.diagrams.items c.self.invariant.same c.in_ok-diagrams.ensures.answer)
