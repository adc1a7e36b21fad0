-- Lemmas that many functions need.
use Rattle.rsml_names.proofs.PreviousGathering.{gathered_none, gathered_one, gathered_twice}
use Rattle.rsml_names.proofs.SumsInside.{sums_of_all}

-- names after those that were gathered before
pub ruleset gathering = (gathered_none, gathered_one, gathered_twice, sums_of_all)
