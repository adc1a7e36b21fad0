use Rattle.std.proofs.Common.{subst}
use Rattle.rsml.specs.Commands.{IsCounted}
use Rattle.rsml.proofs.acting.outcome_of.Goals as goal

pub returns-in-Check : goal.returns-in-Check
returns-in-Check c = rw c.in-Check.is c.check.ensures

pub returns-in-Explain : goal.returns-in-Explain
returns-in-Explain c = rw c.in-Explain.is c.explain.ensures

pub returns-in-Format : goal.returns-in-Format
returns-in-Format c = rw c.in-Format.is c.format.ensures

pub returns-in-Migrate : goal.returns-in-Migrate
returns-in-Migrate c = rw c.in-Migrate.is c.migrate.ensures

pub gaps-requires : goal.gaps-requires
gaps-requires c = (subst IsCounted c.in-Gaps.is c.requires).0

pub returns-in-Gaps : goal.returns-in-Gaps
returns-in-Gaps c = rw c.in-Gaps.is c.gaps.ensures

pub explain_gaps-requires : goal.explain_gaps-requires
explain_gaps-requires c = (subst IsCounted c.in-ExplainGaps.is c.requires).0

pub returns-in-ExplainGaps : goal.returns-in-ExplainGaps
returns-in-ExplainGaps c = rw c.in-ExplainGaps.is c.explain_gaps.ensures
