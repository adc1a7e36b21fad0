use Rattle.std.proofs.Common.{sym, subst, ◌≡◌, ◌∙◌}
use Rattle.bdd_core.specs.Diagram.{Diagram}
use Rattle.bdd_core.specs.Holds.{IsRightChoice}
use Rattle.bdd_core.proofs.KeptLemmas.{gain_choice-holds, right_choice}
use Rattle.bdd_core.proofs.arena.Arena.note.Goals as goal

pub invariant_of-self : goal.invariant_of-self
invariant_of-self c =
    let d : Diagram = record { levels = c.self.inside.levels; nodes = c.self.inside.nodes } in
    let back : c.args.self.now ≡ d = sym (c.self.view_is ∙ c.make_room_for_choices.ensures) in
    gain_choice-holds d c.self.inside.choices.slots.items c.keep.new.self.slots.items c.self.inside.cuts.slots.items
    (record { f = c.ordered-f.result.0; g = c.ordered-f.result.1; h = c.ordered-f.result.2; answer = c.args.answer })
    c.self.invariant c.keep.ensures.gains
    (subst (λ d. IsRightChoice d (record { f = c.ordered-f.result.0; g = c.ordered-f.result.1; h = c.ordered-f.result.2; answer = c.args.answer })) back
    (right_choice c.args.self.now c.args.f c.args.g c.args.h c.ordered-f.result.0 c.ordered-f.result.1 c.ordered-f.result.2 c.args.answer
    (c.ordered-f.ensures c.args.self.now c.requires.f_ref c.requires.g_ref c.requires.h_ref) c.requires.right))
