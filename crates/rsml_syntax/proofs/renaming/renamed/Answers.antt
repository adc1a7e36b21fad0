use Rattle.std.proofs.Common.{sym, ◌∙◌}
use Rattle.std.proofs.lemmas.Result.{IfOk-weaker}
use Rattle.rsml_syntax.proofs.RenamingLemmas.{changed_renamed, changed_tokens, kept_renamed, kept_tokens}
use Rattle.rsml_syntax.proofs.renaming.renamed.Goals as goal

pub returns-in_ok-name-clause-renamed : goal.returns-in_ok-name-clause-renamed
returns-in_ok-name-clause-renamed c =
    IfOk-weaker c.each_renamed.result _ _ (λ v h. changed_renamed c.in_ok-name.name.items c.as_slice.result.now c.args.tokens.now v.items
    (sym c.has_previous.ensures ∙ c.if-has_previous.true) c.in_ok-name.ensures.least c.as_slice.ensures.value h) c.each_renamed.ensures

pub returns-in_ok-name-clause-tokens : goal.returns-in_ok-name-clause-tokens
returns-in_ok-name-clause-tokens c =
    IfOk-weaker c.each_renamed.result _ _ (λ v h. changed_tokens c.in_ok-name.name.items c.as_slice.result.now c.args.tokens.now v.items
    c.requires c.in_ok-name.ensures.name c.as_slice.ensures.value h) c.each_renamed.ensures

pub returns-else-has_previous-clause-renamed : goal.returns-else-has_previous-clause-renamed
returns-else-has_previous-clause-renamed c =
    IfOk-weaker c.each_renamed-else-has_previous.result _ _ (λ v h. kept_renamed c.spelling.result.now c.args.tokens.now v.items
    (sym c.has_previous.ensures ∙ c.if-has_previous.false) h) c.each_renamed-else-has_previous.ensures

pub returns-else-has_previous-clause-tokens : goal.returns-else-has_previous-clause-tokens
returns-else-has_previous-clause-tokens c =
    IfOk-weaker c.each_renamed-else-has_previous.result _ _ (λ v h. kept_tokens c.spelling.result.now c.args.tokens.now v.items
    (sym c.has_previous.ensures ∙ c.if-has_previous.false) c.requires h) c.each_renamed-else-has_previous.ensures
