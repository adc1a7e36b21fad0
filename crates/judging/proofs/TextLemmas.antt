-- What a text reads as, by what the lexer and the parser answered.
use Rattle.std.proofs.Common.{◌≡◌, ◌≤◌, ℕ, List, Vec, length, Result, Ok, Err, refl, subst}
use Rattle.std.specs.Prelude.{IfOk}
use Rattle.std.specs.declared.alloc.Global.{Global}
use Rattle.rsml_base.specs.declared.no_memory.NoMemory.{NoMemory}
use Rattle.rsml_lexer.specs.Answers.{error_of}
use Rattle.rsml_lexer.specs.declared.fault.LexError.{LexError}
use Rattle.rsml_rules.specs.declared.error.RuleError.{RuleError}
use Rattle.rsml_rules.specs.declared.error.RuleError.TheVariants as rule_errors
use Rattle.rsml_parser.specs.declared.error.ParseError.{ParseError}
use Rattle.rsml_parser.specs.declared.error.ParseError.TheVariants as errors
use Rattle.rsml_syntax.specs.declared.edition.Edition.{Edition}
use Rattle.rsml_syntax.specs.declared.edition.Edition.TheVariants as edition
use Rattle.rsml_syntax.specs.declared.token.Placed.{Placed}
use Rattle.rsml_syntax.specs.declared.syntax.Spec.{Spec}
use Rattle.rsml_syntax.specs.grammar.Places.{IsSyntaxFault, IsDepthPlace}
use Rattle.rsml_syntax.specs.text.Lexing.{Fault, Lexes, LexFault, bare}
use Rattle.rsml_syntax.specs.text.Renaming.{IsRenamed}
use Rattle.rsml_syntax.specs.text.Tokens.{Tokens}
use Rattle.rsml_meaning.specs.EventLines.{Bytes}
use Rattle.judging.specs.FaultLines as lines
use Rattle.judging.specs.Steps.{IsLexicalLine, IsParseLine, IsRuleLine, AreNone, AreRead, IsRead, IsReadByFirst}
use Rattle.judging.specs.Steps as steps
use Rattle.judging.specs.Texts.{greatest_text, HasFault, IsTextOf, IsUnread, IsTextByFirst, IsUnreadByFirst, no_tokens, no_syntax, too_deep}
use Rattle.judging.specs.declared.texts.ReadText.{ReadText}
use Rattle.judging.specs.declared.texts.ReadText.TheVariants as texts

-- why tokens are none, by what the parser answered
pub none_read : (ts : Tokens) (error : ParseError) (line : Bytes) → ((place : ℕ) → error ≡ errors.Syntax place → IsSyntaxFault ts place) →
    ((place : ℕ) → error ≡ errors.TooDeep place → IsDepthPlace ts place) → IsParseLine error line → AreNone ts line
none_read ts error line syntax deep (steps.IsParseLine.syntax place e is) = steps.AreNone.syntax place (syntax place e) is
none_read ts error line syntax deep (steps.IsParseLine.depth place e is) = steps.AreNone.depth place (deep place e) is

-- tokens that were read are the text that they are of
pub text_read : (text : Bytes) (ts : List Placed) (r : ReadText) → length text ≤ greatest_text → Lexes edition.Second text ts → AreRead (bare ts) r → IsRead text r
text_read text ts (texts.Specification s) short lexes is = record { short = short; reads = (ts, lexes, is) }
text_read text ts (texts.Fault line) short lexes (steps.AreNone.syntax place fault is) = no_syntax ts ts place short lexes refl fault is
text_read text ts (texts.Fault line) short lexes (steps.AreNone.depth place fault is) = too_deep ts ts place short lexes refl fault is

pub texts_read : (text : Bytes) (ts : List Placed) (r : Result ReadText NoMemory) → length text ≤ greatest_text → Lexes edition.Second text ts →
    IfOk r (AreRead (bare ts)) → IfOk r (IsRead text)
texts_read text ts (Ok x) short lexes is = text_read text ts x short lexes is
texts_read text ts (Err x) short lexes is = is

-- tokens that were read after renaming are the text of the first edition that they are of
pub first_read : (text : Bytes) (ts us : List Placed) (r : ReadText) → length text ≤ greatest_text → Lexes edition.First text ts → IsRenamed ts us
    → AreRead (bare us) r → IsReadByFirst text r
first_read text ts us (texts.Specification s) short lexes renamed is =
    record { tokens = ts; renamed = us; short = short; lexes = lexes; are_renamed = renamed; reads = is }
first_read text ts us (texts.Fault line) short lexes renamed (steps.AreNone.syntax place fault is) = no_syntax ts us place short lexes renamed fault is
first_read text ts us (texts.Fault line) short lexes renamed (steps.AreNone.depth place fault is) = too_deep ts us place short lexes renamed fault is

pub firsts_read : (text : Bytes) (ts us : List Placed) (r : Result ReadText NoMemory) → length text ≤ greatest_text → Lexes edition.First text ts → IsRenamed ts us
    → IfOk r (AreRead (bare us)) → IfOk r (IsReadByFirst text)
firsts_read text ts us (Ok x) short lexes renamed is = first_read text ts us x short lexes renamed is
firsts_read text ts us (Err x) short lexes renamed is = is

-- what was read, by cases
pub first_is : (text : Bytes) (r : ReadText) (s : Spec) → r ≡ texts.Specification s → IsReadByFirst text r → IsTextByFirst text s
first_is text r s e is = subst (λ (x : ReadText). IsReadByFirst text x) e is

pub no_first_is : (text : Bytes) (r : ReadText) (line : Vec ℕ Global) → r ≡ texts.Fault line → IsReadByFirst text r → IsUnreadByFirst text line.items
no_first_is text r line e is = subst (λ (x : ReadText). IsReadByFirst text x) e is

pub read_is : (text : Bytes) (r : ReadText) (s : Spec) → r ≡ texts.Specification s → IsRead text r → IsTextOf text s
read_is text r s e is = subst (λ (x : ReadText). IsRead text x) e is

pub unread_is : (text : Bytes) (r : ReadText) (line : Vec ℕ Global) → r ≡ texts.Fault line → IsRead text r → IsUnread text line.items
unread_is text r line e is = subst (λ (x : ReadText). IsRead text x) e is

-- the lines of what the parser answered
pub syntax_told : (place : ℕ) (error : ParseError) (r : Result (Vec ℕ Global) NoMemory) → error ≡ errors.Syntax place
    → IfOk r (λ line. line.items ≡ lines.syntax place) → IfOk r (λ line. IsParseLine error line.items)
syntax_told place error (Ok o) e is = steps.IsParseLine.syntax place e is
syntax_told place error (Err x) e is = is

pub depth_told : (place : ℕ) (error : ParseError) (r : Result (Vec ℕ Global) NoMemory) → error ≡ errors.TooDeep place
    → IfOk r (λ line. line.items ≡ lines.depth place) → IfOk r (λ line. IsParseLine error line.items)
depth_told place error (Ok o) e is = steps.IsParseLine.depth place e is
depth_told place error (Err x) e is = is

pub lexical_told : (f : Fault) (error : LexError) (r : Result (Vec ℕ Global) NoMemory) → error ≡ error_of f
    → IfOk r (λ line. line.items ≡ lines.lexical f) → IfOk r (λ line. IsLexicalLine error line.items)
lexical_told f error (Ok o) e is = record { fault = f; named = e; told = is }
lexical_told f error (Err x) e is = is

-- why a text has no token list, by what the lexer answered
pub lexical_unread : (e : Edition) (AreReadAs : List Placed → List Placed → Type 0) (text : Bytes) (error : LexError) (line : Bytes) → length text ≤ greatest_text
    → ((f : Fault) → error ≡ error_of f → LexFault e text f) → IsLexicalLine error line → HasFault e AreReadAs text line
lexical_unread e AreReadAs text error line short faults is = no_tokens is.fault short (faults is.fault is.named) is.told

-- the lines of rules and limits
pub rule_told : (number : ℕ) (name : List ℕ) (error : RuleError) (r : Result (Vec ℕ Global) NoMemory) → error ≡ rule_errors.Rule number name
    → IfOk r (λ line. line.items ≡ lines.rule (record { rule = number; shown = name })) → IfOk r (λ line. IsRuleLine error line.items)
rule_told number name error (Ok o) e is = steps.IsRuleLine.rule number name e is
rule_told number name error (Err x) e is = is

pub limit_told : (number count : ℕ) (error : RuleError) (r : Result (Vec ℕ Global) NoMemory) → error ≡ rule_errors.Limit number count
    → IfOk r (λ line. line.items ≡ lines.limit (number, count)) → IfOk r (λ line. IsRuleLine error line.items)
limit_told number count error (Ok o) e is = steps.IsRuleLine.limit number count e is
limit_told number count error (Err x) e is = is
