use Rattle.std.proofs.Common.{◌≡◌, length, List, sym, ap, ◌∙◌, subst}
use Rattle.rsml_ground.specs.Truths.{Grounded}
use Rattle.equal_frames.specs.Alike.{HaveSameWorlds}
use Rattle.spelled_numbers.specs.declared.slot.Slot.{Slot}
use Rattle.keyed_levels.specs.declared.keyed.Keyed.{Keyed}
use Rattle.settled_worlds.specs.Settled.{AreExact}
use Rattle.guard_encode.specs.Phrases.{AreActive, ArePhrases}
use Rattle.guard_encode.specs.Encoding.{Made}
use Rattle.guard_encode.proofs.EncoderLemmas.{are_active, active_stay, are_encoded, none_exact, own_unbounded, own_worlds}
use Rattle.guard_encode.proofs.encoder.Encoder.over.Goals as goal

pub all_phrases-requires-clause-active : goal.all_phrases-requires-clause-active
all_phrases-requires-clause-active c =
    let own : c.tree.result.now ≡ c.layout-2.result.now.spec = c.tree.ensures ∙ ap (λ (g : Grounded). g.spec) (sym c.requires.base) ∙ sym c.layout-2.ensures.spec in
    subst (AreActive c.active_states.new.arena c.args.levels) (sym c.as_slice.ensures.value)
    (are_active c.active_states.new.arena c.args.levels c.layout-2.result.now c.tree.result.now c.in_ok-active.active.items own c.layout-2.ensures.spec c.layout-2.ensures.slots
    c.in_ok-active.ensures.many c.in_ok-active.ensures.each)

pub all_phrases-requires-clause-worlds : goal.all_phrases-requires-clause-worlds
all_phrases-requires-clause-worlds c = subst (λ (g : Grounded). HaveSameWorlds c.args.levels.base.spec g.spec) (sym c.macros.ensures) (own_worlds c.args.levels.base.spec)

pub invariant_of-result : goal.invariant_of-result
invariant_of-result c =
    let own : c.tree.result.now ≡ c.layout-2.result.now.spec = c.tree.ensures ∙ ap (λ (g : Grounded). g.spec) (sym c.requires.base) ∙ sym c.layout-2.ensures.spec in
    let active : AreActive c.active_states.new.arena c.args.levels c.in_ok-active.active.items =
    are_active c.active_states.new.arena c.args.levels c.layout-2.result.now c.tree.result.now c.in_ok-active.active.items own c.layout-2.ensures.spec c.layout-2.ensures.slots
    c.in_ok-active.ensures.many c.in_ok-active.ensures.each in
    let none : AreExact c.all_phrases.new.arena c.args.levels c.in_ok-exact.exact =
    none_exact c.all_phrases.new.arena c.args.levels (length c.keys.result.now) c.in_ok-exact.exact (ap (λ (ks : List Keyed). length ks) c.keys.ensures.keyed) c.in_ok-exact.ensures in
    let made : Made = record { active = c.in_ok-active.active.items; phrases = c.in_ok-phrases.phrases.items; exact = c.in_ok-exact.exact } in
    are_encoded c.args.machine.now c.args.levels c.all_phrases.new.arena made c.requires.base c.requires.bounds c.keys.ensures.law
    (c.in_ok-phrases.ensures.keeps.same_levels ∙ c.in_ok-active.ensures.keeps.same_levels ∙ c.in_ok-arena.ensures.levels ∙ c.levels.ensures ∙ ap (λ (xs : List Slot). length xs) c.layout.ensures.slots)
    (active_stay c.active_states.new.arena c.all_phrases.new.arena c.args.levels c.in_ok-active.active.items c.in_ok-phrases.ensures.keeps active)
    (subst (λ (g : Grounded). ArePhrases c.all_phrases.new.arena c.args.levels g (length g.phrases) c.in_ok-phrases.phrases.items) c.macros.ensures c.in_ok-phrases.ensures.answer)
    none

pub returns-clause-bounds : goal.returns-clause-bounds
returns-clause-bounds c = own_unbounded c.args.machine.now c.args.levels c.all_phrases.new.arena c.requires.bounds
