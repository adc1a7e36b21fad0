use Rattle.std.proofs.Common.{ap, ◌∙◌}
use Rattle.std.specs.Option.{option_copied}
use Rattle.state_arrays.specs.Ranges.{range}
use Rattle.state_arrays.proofs.RangeLemmas.{range_sized, range_plain}
use Rattle.state_arrays.proofs.index_range.IndexRange.new.Goals as goal
use Rattle.state_arrays.proofs.index_range.IndexRange.new.Goals.{in-None, in-Some}

pub returns : goal.returns
returns c = elim c.match-size.branch [
  | in-None w ↦ ap (λ r. range r.0 r.1.0) w.result-is ∙ range_plain c.args.globals.now (option_copied c.args.size) (ap (λ o. option_copied o) w.in-None.is)
  | in-Some w ↦ ap (λ r. range r.0 r.1.0) w.result-is
      ∙ range_sized c.args.globals.now (option_copied c.args.size) w.in-Some.field-0.now w.many.result (ap (λ o. option_copied o) w.in-Some.is) w.many.ensures
]
