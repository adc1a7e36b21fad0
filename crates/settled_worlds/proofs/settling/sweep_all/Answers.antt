use Rattle.std.proofs.Common.{◌≡◌, true, length, replicate, ap, ◌∙◌}
use Rattle.settled_worlds.specs.Steps.{all_but, no_levels, HasEnded, IsOver, IsSwept}
use Rattle.settled_worlds.proofs.StepLemmas.{both_ok, swept_trans, swept_wider}
use Rattle.settled_worlds.proofs.EndLemmas.{ended}
use Rattle.settled_worlds.proofs.settling.sweep_all.Goals as goal

pub returns-clause-ended : goal.returns-clause-ended
returns-clause-ended c =
    let k = c.args.levels.now in
    let may = all_but k c.args.kept in
    let first = c.in_ok-left.left.items in
    let middle = c.sweep_cells.new.left.items in
    let last = c.make_rest_exact.new.left.items in
    let all : first ≡ replicate (length k.keyed) true = c.in_ok-left.ensures.items_if_clones_equal (λ y h. h) ∙ ap (λ ks. replicate (length ks) true) c.keys.ensures.keyed in
    both_ok c.make_rest_exact.result
    (IsOver k c.make_rest_exact.new.arena last)
    (IsSwept k no_levels c.sweep_cells.new.arena c.make_rest_exact.new.arena middle last c.in_ok-swept.swept)
    (HasEnded k may c.args.arena.now c.make_rest_exact.new.arena c.args.f)
    (λ r over rest. ended k may c.args.arena.now c.make_rest_exact.new.arena first last c.args.f r all
    (swept_trans k may c.args.arena.now c.sweep_cells.new.arena c.make_rest_exact.new.arena first middle last c.args.f c.in_ok-swept.swept r c.in_ok-swept.ensures.answer
    (swept_wider k may c.sweep_cells.new.arena c.make_rest_exact.new.arena middle last c.in_ok-swept.swept r rest)) over)
    c.make_rest_exact.ensures.over c.make_rest_exact.ensures.answer
