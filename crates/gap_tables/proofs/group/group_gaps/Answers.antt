use Rattle.std.proofs.Common.{◌≡◌, subst, sym}
use Rattle.std.proofs.lemmas.Result.{IfOk-weaker}
use Rattle.std.specs.List.{AllZip}
use Rattle.rsml_meaning.specs.Groups.{groups}
use Rattle.elaborate.specs.Machine.{GroundMachine}
use Rattle.world_columns.specs.GapsOf.{AreGroupGaps}
use Rattle.gap_tables.proofs.group.group_gaps.Goals as goal

pub gaps_by-requires-clause-texts : goal.gaps_by-requires-clause-texts
gaps_by-requires-clause-texts c = subst (λ (m : GroundMachine). c.args.texts.now ≡ m.base.spec) (sym c.in_ok-encoder.ensures.machine) c.requires.texts

pub returns : goal.returns
returns c =
    IfOk-weaker c.gaps_by.result _ _
    (λ v h. subst (λ (m : GroundMachine). AllZip (AreGroupGaps m.base.spec c.args.most) (groups m.base.spec) v.items) c.in_ok-encoder.ensures.machine h)
    c.gaps_by.ensures
