use Rattle.std.proofs.Common.{◌++◌, List, map, ap, ◌∙◌, arith, rules, inl, inr}
use Rattle.std.proofs.lemmas.Result.{on_ok_weaker}
use Rattle.rsml_limits.specs.declared.comparisons.input_cell.InputCell.{InputCell}
use Rattle.rsml_limits.specs.comparisons.Shown.{shown_cell}
use Rattle.rsml_limits.specs.thresholds.Pairs.{grid}
use Rattle.rsml_limits.proofs.TableLemmas.{none_put, table_put}
use Rattle.rsml_limits.proofs.thresholds.table.Table.put.Goals as goal
use Rattle.rsml_limits.proofs.thresholds.table.Table.put.Goals.{then-is_empty-via-then-is_empty, then-is_empty-via-else-is_empty+then-is_empty-2}

pub returns : goal.returns
returns c =
    let t = c.self.inside in
    on_ok_weaker c.put_blocks.result
    (λ put.
    table_put t.cells.keys c.put_blocks.new.cells.keys t.lists.items t.blocks.items c.put_blocks.new.blocks.items c.args.numbers c.as_slice.result.now c.in_ok-list.list c.push.new.self.items
    c.args.self.now c.self.invariant c.self.view_is c.in_ok-push.ensures.items (omega (arith, t.lists.ok.0, c.in_ok-list.ensures, c.len.ensures)) put
    ∙ ap (λ (ks : List InputCell). c.args.self.now ++ grid (map shown_cell ks) c.args.numbers.items) c.as_slice.ensures.keys)
    c.put_blocks.ensures.pairs

pub returns-then-is_empty : goal.returns-then-is_empty
returns-then-is_empty c =
    none_put c.args.self.now c.args.cells.now.keys c.args.numbers.items
    (elim c.then-is_empty.branch [ then-is_empty-via-then-is_empty w ↦ inl (search rules) | then-is_empty-via-else-is_empty+then-is_empty-2 w ↦ inr (search rules) ])
