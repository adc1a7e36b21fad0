use Rattle.std.proofs.Common.{sym, subst, ◌≡◌, ◌∙◌}
use mir.Val.{bool_byte}
use Rattle.bdd_core.specs.Diagram.{Diagram}
use Rattle.bdd_core.specs.Holds.{IsRightCut}
use Rattle.bdd_core.proofs.KeptLemmas.{gain_cut-holds, right_cut}
use Rattle.bdd_core.proofs.arena.Arena.note_cut.Goals as goal

pub invariant_of-self : goal.invariant_of-self
invariant_of-self c =
    let d : Diagram = record { levels = c.self.inside.levels; nodes = c.self.inside.nodes } in
    let back : c.args.self.now ≡ d = sym (c.self.view_is ∙ c.make_room_for_cuts.ensures) in
    gain_cut-holds d c.self.inside.choices.slots.items c.self.inside.cuts.slots.items c.keep.new.self.slots.items
    (record { f = c.args.f; g = c.args.level; h = bool_byte c.args.value; answer = c.args.answer })
    c.self.invariant c.keep.ensures.gains
    (subst (λ d. IsRightCut d (record { f = c.args.f; g = c.args.level; h = bool_byte c.args.value; answer = c.args.answer })) back
    (right_cut c.args.self.now c.args.f c.args.level c.args.value c.args.answer c.requires.f_ref c.requires.right))
