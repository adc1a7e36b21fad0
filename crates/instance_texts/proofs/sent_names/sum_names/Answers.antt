use Rattle.std.proofs.Common.{List, ap, ◌∙◌}
use Rattle.rsml_syntax.specs.declared.syntax.Term.{Term}
use Rattle.rsml_syntax.specs.rules.Kinds.{single_kind}
use Rattle.rsml_meaning.specs.Trace.{names_of_kind}
use Rattle.instance_texts.proofs.SentLemmas.{sum_names_are}
use Rattle.instance_texts.proofs.sent_names.sum_names.Goals as goal

pub returns : goal.returns
returns c =
    c.single_names.ensures ∙ ap (λ (ts : List Term). names_of_kind c.args.globals.now (single_kind c.args.globals.now ts)) c.as_slice.ensures
    ∙ sum_names_are c.args.globals.now c.args.sum.now
