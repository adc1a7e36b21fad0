use Rattle.rsml_lexer.proofs.ByteLemmas.{blanks_cut}
use Rattle.rsml_lexer.proofs.blanks.after_blanks.Goals as goal

-- the text may be cut where its blanks end
pub range_from-requires : goal.range_from-requires
range_from-requires c = λ _. blanks_cut c.args.text.now c.as_bytes.result.now c.blank_len.result c.utf8.text c.as_bytes.ensures.value c.blank_len.ensures.value c.blank_len.ensures.within
