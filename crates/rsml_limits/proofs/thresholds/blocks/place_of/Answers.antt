use Rattle.std.proofs.Common.{◌≡◌, map, ap, ◌∙◌}
use Rattle.std.proofs.lemmas.Result.{IfOk-weaker}
use Rattle.rsml_limits.specs.comparisons.Shown.{shown_cell}
use Rattle.rsml_limits.specs.thresholds.Tabled.{cell_at}
use Rattle.rsml_limits.proofs.TableLemmas.{cell_found}
use Rattle.rsml_limits.proofs.thresholds.blocks.place_of.Goals as goal

pub returns-clause-cell : goal.returns-clause-cell
returns-clause-cell c =
    let cells = map shown_cell c.insert_full.new.self.keys in
    let stored = c.in_ok-place.ensures.stored in
    let found = cell_found c.insert_full.new.self.keys c.in_ok-place.place c.args.cell stored.0 stored.1 stored.2 in
    IfOk-weaker c.number_of.result (λ n. n ≡ c.in_ok-place.place) (λ n. cell_at cells n ≡ shown_cell c.args.cell) (λ n e. ap (cell_at cells) e ∙ found) c.number_of.ensures
