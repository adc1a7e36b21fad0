use Rattle.std.proofs.Common.{◌≡◌, IfOk, subst}
use Rattle.ground_groups.proofs.Runs.{behind_rising, all_behind}
use Rattle.ground_groups.proofs.below.inside_among.Goals as goal

pub states_inside-requires-clause-rising : goal.states_inside-requires-clause-rising
states_inside-requires-clause-rising c = behind_rising c.args.keys.now c.place_past-past.result c.requires.rising

pub returns : goal.returns
returns c =
    subst (λ ks. IfOk c.states_inside.result (λ list. list.items ≡ ks))
    (all_behind c.args.tree.now c.args.keys.now c.place_past-past.result c.args.key c.place_past-past.ensures)
    c.states_inside.ensures
