-- What is true of the specifications that `demo` generates.
use Rattle.std.proofs.Common.{ℕ, arith}
use Rattle.rsml_meaning.specs.Certified.{Certified}
use Rattle.demonstrating.specs.Laws.{DemosAreCertified}
use Rattle.demonstrating.specs.Plant.{plant}
use Rattle.demonstrating.proofs.Soundness.{all_sound}
use Rattle.demonstrating.proofs.Chains.{none_loops, none_clashes}
use Rattle.demonstrating.proofs.Kept.{plant_kept}
use Rattle.demonstrating.proofs.Reading.{text_reads, text_short}

-- a plant is certified, however many units it has
pub plant_certified : (n : ℕ) → Certified (plant n)
plant_certified n = record { sound = all_sound n; no_loop = none_loops n; no_clash = none_clashes n }

pub demos_are_certified : DemosAreCertified
demos_are_certified n h k =
    record { short = text_short n h k; reads = text_reads n (omega arith); keeps = plant_kept n h k; certified = plant_certified n }
