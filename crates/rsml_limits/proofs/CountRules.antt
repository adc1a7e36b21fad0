-- Lemmas that many functions of a file need.
use Rattle.rsml_limits.proofs.Adding.{adds_more, shown_of_times, adds_flat_map}

-- sums of counts
pub ruleset sums = (adds_more, shown_of_times, adds_flat_map)
