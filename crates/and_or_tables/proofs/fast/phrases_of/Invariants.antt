use Rattle.std.proofs.Common.{◌≡◌, map, take}
use Rattle.and_or_tables.proofs.fast.phrases_of.Given as goal

-- the phrases of the rows so far
abbrev pub invariant-loop-row : goal.invariant-loop-row
invariant-loop-row l = l.phrases.items ≡ map (λ row. row.phrase) (take l.row-index l.rows)
