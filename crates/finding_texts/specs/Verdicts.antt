-- Verdicts as the definitions have them.
use Rattle.rsml_syntax.specs.declared.syntax.Spec.{Spec}
use Rattle.rsml_meaning.specs.Findings.{sound, none, two}
use Rattle.rsml_meaning.specs.Findings as meaning_of
use Rattle.rsml_meaning.specs.Worlds.{IsWorld}
use Rattle.std.specs.Prelude.{⊤}
use Rattle.finding_texts.specs.declared.verdict.Verdict.{Verdict}
use Rattle.finding_texts.specs.declared.verdict.Verdict.TheVariants as verdicts

-- the verdict of the definitions
abbrev pub verdict_of : Verdict → meaning_of.Verdict
verdict_of verdicts.Sound = sound
verdict_of (verdicts.Missing w) = none w
verdict_of (verdicts.Double w) = two w

-- where it tells a world, this is one of the specification
abbrev pub TellsWorld : Spec → Verdict → Type 0
TellsWorld s verdicts.Sound = ⊤
TellsWorld s (verdicts.Missing w) = IsWorld s w
TellsWorld s (verdicts.Double w) = IsWorld s w
