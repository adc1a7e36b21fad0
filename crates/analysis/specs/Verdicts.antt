-- What is found of the groups of a specification.
use Rattle.std.specs.Prelude.{List, map}
use Rattle.std.specs.List.{AllZip}
use Rattle.rsml_syntax.specs.declared.syntax.Spec.{Spec}
use Rattle.rsml_meaning.specs.Findings.{IsVerdict}
use Rattle.rsml_meaning.specs.Groups.{groups}
use Rattle.finding_texts.specs.Verdicts.{verdict_of}
use Rattle.finding_texts.specs.declared.verdict.Verdict.{Verdict}

-- there is one verdict for each group, in order, and each is that of the definitions
abbrev pub AreVerdicts : Spec → List Verdict → Type 0
AreVerdicts s verdicts = AllZip (IsVerdict s) (groups s) (map verdict_of verdicts)
