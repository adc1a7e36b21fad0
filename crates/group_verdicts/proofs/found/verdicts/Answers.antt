use Rattle.std.proofs.Common.{map, subst}
use Rattle.std.proofs.lemmas.Result.{IfOk-weaker}
use Rattle.std.specs.List.{AllZip}
use Rattle.rsml_meaning.specs.Findings.{IsVerdict}
use Rattle.rsml_meaning.specs.Groups.{groups}
use Rattle.elaborate.specs.Machine.{GroundMachine}
use Rattle.finding_texts.specs.Verdicts.{verdict_of}
use Rattle.group_verdicts.proofs.found.verdicts.Goals as goal

pub returns : goal.returns
returns c =
    IfOk-weaker c.verdicts_by.result _ _
    (λ v h. subst (λ (m : GroundMachine). AllZip (IsVerdict m.base.spec) (groups m.base.spec) (map verdict_of v.items)) c.in_ok-encoder.ensures h)
    c.verdicts_by.ensures.found
