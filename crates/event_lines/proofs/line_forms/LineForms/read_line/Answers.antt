use Rattle.std.proofs.Common.{sym, ◌∙◌}
use Rattle.event_lines.proofs.LineLemmas.{utf8_reads, other_breaks, says_ok, says_err}
use Rattle.event_lines.proofs.line_forms.LineForms.read_line.Goals as goal

pub returns-then-is_text-clause-ok : goal.returns-then-is_text-clause-ok
returns-then-is_text-clause-ok c =
    says_ok c.args.self.now _ _ c.read_words.result _ (utf8_reads c.args.self.now c.args.line.now (sym c.is_text.ensures ∙ c.if-is_text.true)) c.read_words.ensures

pub returns-then-is_text-clause-err : goal.returns-then-is_text-clause-err
returns-then-is_text-clause-err c =
    says_err c.args.self.now _ _ c.read_words.result _ (utf8_reads c.args.self.now c.args.line.now (sym c.is_text.ensures ∙ c.if-is_text.true)) c.read_words.ensures

pub returns-else-is_text-clause-err : goal.returns-else-is_text-clause-err
returns-else-is_text-clause-err c = other_breaks c.args.self.now c.args.line.now (sym c.is_text.ensures ∙ c.if-is_text.false)
