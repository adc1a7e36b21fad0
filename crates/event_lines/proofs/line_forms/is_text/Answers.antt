use Rattle.std.proofs.Common.{sym, ◌∙◌}
use Rattle.std.proofs.lemmas.Str.{IsUtf8-from_ascii, is_utf8-from_IsUtf8}
use Rattle.event_lines.proofs.LineLemmas.{told_by}
use Rattle.event_lines.proofs.line_forms.is_text.Goals as goal

pub returns-then-is_ascii : goal.returns-then-is_ascii
returns-then-is_ascii c = c.if-is_ascii.true ∙ sym (is_utf8-from_IsUtf8 c.args.line.now (IsUtf8-from_ascii c.args.line.now c.if-is_ascii.ensures.cases))

pub returns-else-is_ascii : goal.returns-else-is_ascii
returns-else-is_ascii c = c.is_ok.ensures.value ∙ told_by c.args.line.now _ _ c.from_utf8.result c.from_utf8.ensures.cases
