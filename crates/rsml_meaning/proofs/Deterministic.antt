-- A specification that keeps the rules and is certified is deterministic.
use Rattle.rsml_meaning.specs.EventFiles.{program_limits}
use Rattle.rsml_meaning.specs.RunLaws.{CertifiedIsDeterministic}
use Rattle.rsml_meaning.proofs.Lowest.{lowest_lines_enable_one, sources_have_lowest_lines}
use Rattle.rsml_meaning.proofs.Sends.{one_beside_case}
use Rattle.rsml_meaning.proofs.Steps.{events_have_lengths}
use Rattle.rsml_meaning.proofs.MessageValues.{one_true_case}
use Rattle.rsml_meaning.proofs.Runs.{runs_end_in_time, event_files_have_one_run}
use Rattle.rsml_meaning.proofs.rules.Scoped.{rules_give_scopes}

pub certified_is_deterministic : CertifiedIsDeterministic
certified_is_deterministic s kept c =
    let scoped = rules_give_scopes s kept in
    record {
      lengths = λ e external. events_have_lengths s e c external;
      lines = λ w path e i l. lowest_lines_enable_one s w path e scoped c i l;
      lowest = λ w path e a. sources_have_lowest_lines s w path e scoped a;
      sends = λ w k i m. one_beside_case s w scoped c i k m;
      functions = λ w f i m. one_true_case s w c i f m;
      one_run = event_files_have_one_run s program_limits scoped c;
      in_time = runs_end_in_time s;
    }
