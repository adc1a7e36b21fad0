use Rattle.rsml_meaning.proofs.OneReport.{report_is_one}
use Rattle.rsml_meaning.proofs.OneReport.{verdict_is_one}
use Rattle.rsml_meaning.proofs.reports.a_report_is_one_text.Goals as goal

pub returns-clause-verdict : goal.returns-clause-verdict
returns-clause-verdict c = verdict_is_one

pub returns-clause-report : goal.returns-clause-report
returns-clause-report c = report_is_one
