use Rattle.std.proofs.Common.{ap, subst}
use Rattle.rsml.specs.Asked.{asked}
use Rattle.rsml.specs.Commands.{AreCounted, specification_file}
use Rattle.rsml.specs.declared.command.Command.{Command as Given}
use Rattle.rsml.proofs.ActionLemmas.{action_written, names_specification, names_events, names_other}
use Rattle.rsml.proofs.running.obey.Goals as goal

pub come_to-requires : goal.come_to-requires
come_to-requires g c = subst (λ (k : Given). AreCounted (asked k)) c.in-Act.is c.requires

pub answer-requires : goal.answer-requires
answer-requires g c = action_written c.in-Act.action _ c.come_to.result c.come_to.ensures.came

pub returns-in-Act-clause-obeyed : goal.returns-in-Act-clause-obeyed
returns-in-Act-clause-obeyed g c = rw c.in-Act.is (c.come_to.result, c.come_to.ensures.came, c.answer.ensures.answered)

pub returns-in-Follow-clause-obeyed : goal.returns-in-Follow-clause-obeyed
returns-in-Follow-clause-obeyed g c = rw c.in-Follow.is c.follow.ensures.followed

pub returns-in-Pair-clause-obeyed : goal.returns-in-Pair-clause-obeyed
returns-in-Pair-clause-obeyed g c = rw c.in-Pair.is c.pair.ensures.paired

pub returns-in-Demo-clause-obeyed : goal.returns-in-Demo-clause-obeyed
returns-in-Demo-clause-obeyed g c = rw c.in-Demo.is c.demo.ensures.demonstrated

pub demo-requires-clause-some : goal.demo-requires-clause-some
demo-requires-clause-some g c = (subst (λ (k : Given). AreCounted (asked k)) c.in-Demo.is c.requires).0

pub demo-requires-clause-few : goal.demo-requires-clause-few
demo-requires-clause-few g c = (subst (λ (k : Given). AreCounted (asked k)) c.in-Demo.is c.requires).1

pub returns-in-Version-clause-obeyed : goal.returns-in-Version-clause-obeyed
returns-in-Version-clause-obeyed g c = rw c.in-Version.is c.finish.ensures.written

pub returns-in-Act-clause-others : goal.returns-in-Act-clause-others
returns-in-Act-clause-others g c = λ name n.
    c.come_to.ensures.others name
    (λ e. n (names_specification (asked c.args.command) _ name (ap (λ (k : Given). specification_file (asked k)) c.in-Act.is) e))

pub returns-in-Follow-clause-others : goal.returns-in-Follow-clause-others
returns-in-Follow-clause-others g c = λ name n.
    c.follow.ensures.others name
    (λ e. n (names_specification (asked c.args.command) _ name (ap (λ (k : Given). specification_file (asked k)) c.in-Follow.is) e))
    (λ e. n (names_events (asked c.args.command) _ _ _ name (ap asked c.in-Follow.is) e))

pub returns-in-Pair-clause-others : goal.returns-in-Pair-clause-others
returns-in-Pair-clause-others g c = λ name n.
    c.pair.ensures.others name
    (λ e. n (names_specification (asked c.args.command) _ name (ap (λ (k : Given). specification_file (asked k)) c.in-Pair.is) e))
    (λ e. n (names_other (asked c.args.command) _ _ _ name (ap asked c.in-Pair.is) e))
