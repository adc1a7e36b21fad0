use Rattle.rsml_syntax.specs.text.Lexing.{NotUtf8, BadCharacter, NumberTooBig}
use Rattle.judging.proofs.TextLemmas.{lexical_told}
use Rattle.judging.proofs.fault_lines.lexical_fault.Goals as goal

pub returns-in-NotUtf8 : goal.returns-in-NotUtf8
returns-in-NotUtf8 c = lexical_told (NotUtf8 c.in-NotUtf8.at) _ _ c.in-NotUtf8.is c.numbered.ensures

pub returns-in-BadCharacter : goal.returns-in-BadCharacter
returns-in-BadCharacter c = lexical_told (BadCharacter c.in-BadCharacter.at) _ _ c.in-BadCharacter.is c.numbered-in-BadCharacter.ensures

pub returns-in-NumberTooBig : goal.returns-in-NumberTooBig
returns-in-NumberTooBig c = lexical_told (NumberTooBig c.in-NumberTooBig.at) _ _ c.in-NumberTooBig.is c.numbered-in-NumberTooBig.ensures
