use Rattle.std.proofs.Common.{List, [], ◌∷◌, ◌++◌, Option, map, sym, subst}
use Rattle.std.specs.Option.{option_to_list}
use Rattle.rsml_syntax.specs.limits.Comparisons as spec
use Rattle.rsml_limits.specs.declared.comparisons.input_cell.InputCell.{InputCell}
use Rattle.rsml_limits.specs.comparisons.Shown.{shown_cell}
use Rattle.rsml_limits.specs.thresholds.Pairs.{SameMembers}
use Rattle.rsml_limits.proofs.MemberLemmas.{cell_put}
use Rattle.rsml_limits.proofs.thresholds.cells.put_cell.Goals as goal

pub returns-in_ok-insert : goal.returns-in_ok-insert
returns-in_ok-insert c =
    let before = map shown_cell c.args.cells.now.keys in
    let put = cell_put c.args.cells.now.keys c.in-Some.cell in
    subst (λ (o : Option spec.InputCell). SameMembers spec.same_cell (map shown_cell c.insert.new.self.keys) (before ++ option_to_list o)) c.in-Some.ensures
    (subst (λ (ks : List InputCell). SameMembers spec.same_cell (map shown_cell ks) (before ++ shown_cell c.in-Some.cell ∷ [])) (sym c.in_ok-insert.ensures.keys) put)
