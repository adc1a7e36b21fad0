-- The lines that are written in place of a report of a text that does not read, or of a specification that breaks a rule or a limit.
use Rattle.std.specs.Prelude.{ℕ, ◌++◌, codes, decimal}
use Rattle.rsml_syntax.specs.rules.Breaches.{Breach}
use Rattle.rsml_syntax.specs.text.Lexing.{Fault, NotUtf8, BadCharacter, NumberTooBig}
use Rattle.rsml_meaning.specs.EventLines.{Bytes}

-- `fault ..`, a number, and LF
abbrev pub numbered : Bytes → ℕ → Bytes
numbered words n = codes "fault " ++ (words ++ (decimal n ++ codes "\n"))

-- `fault SN NAME`: rule N is broken at the name
abbrev pub rule : Breach → Bytes
rule b = codes "fault S" ++ (decimal b.rule ++ (codes " " ++ (b.shown ++ codes "\n")))

-- `fault LN COUNT`: limit N is broken, with this count
abbrev pub limit : ℕ × ℕ → Bytes
limit over = codes "fault L" ++ (decimal over.0 ++ (codes " " ++ (decimal over.1 ++ codes "\n")))

-- a text that has no token list: the byte's offset, counted from 0
abbrev pub lexical : Fault → Bytes
lexical (NotUtf8 offset) = numbered (codes "utf8 byte ") offset
lexical (BadCharacter offset) = numbered (codes "character byte ") offset
lexical (NumberTooBig offset) = numbered (codes "number byte ") offset

-- tokens that are no specification: the token's place, counted from 1
abbrev pub syntax : ℕ → Bytes
syntax place = numbered (codes "syntax token ") place

-- a token that opens a state too many: its place, counted from 1
abbrev pub depth : ℕ → Bytes
depth place = numbered (codes "depth token ") place
