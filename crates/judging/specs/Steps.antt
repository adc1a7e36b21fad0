-- What the steps of reading a specification leave.
use Rattle.std.specs.Prelude.{◌≡◌, ℕ, List, ⊤}
use Rattle.rsml_ground.specs.Grounded.{IsShort}
use Rattle.rsml_lexer.specs.Answers.{error_of}
use Rattle.rsml_lexer.specs.declared.fault.LexError.{LexError}
use Rattle.rsml_meaning.specs.EventLines.{Bytes}
use Rattle.rsml_parser.specs.declared.error.ParseError.{ParseError}
use Rattle.rsml_parser.specs.declared.error.ParseError.TheVariants as parse_errors
use Rattle.rsml_rules.specs.declared.error.RuleError.{RuleError}
use Rattle.rsml_rules.specs.declared.error.RuleError.TheVariants as rule_errors
use Rattle.rsml_syntax.specs.grammar.Places.{IsTokensOf, IsSyntaxFault, IsDepthPlace}
use Rattle.rsml_syntax.specs.text.Lexing.{Fault}
use Rattle.rsml_syntax.specs.text.Tokens.{Tokens}
use Rattle.judging.specs.FaultLines as lines
use Rattle.judging.specs.Texts.{IsTextOf, IsUnread, IsTextByFirst, IsUnreadByFirst}
use Rattle.judging.specs.declared.texts.ReadText.{ReadText}
use Rattle.judging.specs.declared.texts.ReadText.TheVariants as texts

-- Lines.

-- the line of what the lexer answered
pub record IsLexicalLine (error : LexError) (line : Bytes) : Type 0 where
  pub fault : Fault
  pub named : error ≡ error_of fault
  pub told : line ≡ lines.lexical fault

-- the line of what the parser answered
pub data IsParseLine (error : ParseError) (line : Bytes) : Type 0 where
  syntax : (place : ℕ) → error ≡ parse_errors.Syntax place → line ≡ lines.syntax place → IsParseLine error line
  depth : (place : ℕ) → error ≡ parse_errors.TooDeep place → line ≡ lines.depth place → IsParseLine error line

-- the line of a rule or of a limit that is broken
pub data IsRuleLine (error : RuleError) (line : Bytes) : Type 0 where
  rule : (number : ℕ) (name : List ℕ) → error ≡ rule_errors.Rule number name → line ≡ lines.rule (record { rule = number; shown = name }) → IsRuleLine error line
  limit : (number count : ℕ) → error ≡ rule_errors.Limit number count → line ≡ lines.limit (number, count) → IsRuleLine error line

-- Reading.

-- the tokens are not those of a specification, and the line tells why
pub data AreNone (ts : Tokens) (line : Bytes) : Type 0 where
  syntax : (place : ℕ) → IsSyntaxFault ts place → line ≡ lines.syntax place → AreNone ts line
  depth : (place : ℕ) → IsDepthPlace ts place → line ≡ lines.depth place → AreNone ts line

-- the tokens are the specification that was read, or the line tells why they are none
abbrev pub AreRead : Tokens → ReadText → Type 0
AreRead ts (texts.Specification s) = IsTokensOf ts s
AreRead ts (texts.Fault line) = AreNone ts line.items

-- what was read is short enough to be worked out over numbers
abbrev pub AreShort : ReadText → Type 0
AreShort (texts.Specification s) = IsShort s
AreShort (texts.Fault line) = ⊤

-- the text is the specification that was read, or the line tells why it is none
abbrev pub IsRead : Bytes → ReadText → Type 0
IsRead text (texts.Specification s) = IsTextOf text s
IsRead text (texts.Fault line) = IsUnread text line.items

-- the same by the first edition, with the name `previous` renamed
abbrev pub IsReadByFirst : Bytes → ReadText → Type 0
IsReadByFirst text (texts.Specification s) = IsTextByFirst text s
IsReadByFirst text (texts.Fault line) = IsUnreadByFirst text line.items
