-- What the bytes of a specification read as.
use Rattle.std.specs.Prelude.{◌≡◌, ℕ, ◌≤◌, List, length}
use Rattle.rsml_syntax.specs.declared.edition.Edition.{Edition}
use Rattle.rsml_syntax.specs.declared.edition.Edition.TheVariants as edition
use Rattle.rsml_syntax.specs.declared.syntax.Spec.{Spec}
use Rattle.rsml_syntax.specs.declared.token.Placed.{Placed}
use Rattle.rsml_syntax.specs.grammar.Places.{Reads, IsTokensOf, IsSyntaxFault, IsDepthPlace}
use Rattle.rsml_syntax.specs.text.Lexing.{Fault, Lexes, LexFault, bare}
use Rattle.rsml_syntax.specs.text.Renaming.{IsRenamed}
use Rattle.rsml_meaning.specs.EventLines.{Bytes}
use Rattle.judging.specs.FaultLines as lines

-- how many bytes a specification may have
abbrev pub greatest_text : ℕ
greatest_text = 1048576

-- The text has at most so many bytes, and reads as this specification.
pub record IsTextOf (text : Bytes) (s : Spec) : Type 0 where
  pub short : length text ≤ greatest_text
  pub reads : Reads text s

-- The text has at most so many bytes, and no tokens by this edition, or what they are read as is no specification. The line tells the
-- first fault.
pub data HasFault (e : Edition) (AreReadAs : List Placed → List Placed → Type 0) (text line : Bytes) : Type 0 where
  no_tokens : (f : Fault) → length text ≤ greatest_text → LexFault e text f → line ≡ lines.lexical f → HasFault e AreReadAs text line
  no_syntax : (ts us : List Placed) (place : ℕ) → length text ≤ greatest_text → Lexes e text ts → AreReadAs ts us → IsSyntaxFault (bare us) place
      → line ≡ lines.syntax place → HasFault e AreReadAs text line
  too_deep : (ts us : List Placed) (place : ℕ) → length text ≤ greatest_text → Lexes e text ts → AreReadAs ts us → IsDepthPlace (bare us) place
      → line ≡ lines.depth place → HasFault e AreReadAs text line

-- tokens that are read as they are
abbrev pub AreThemselves : List Placed → List Placed → Type 0
AreThemselves ts us = us ≡ ts

-- the text reads as no specification: the line tells its first fault
abbrev pub IsUnread : Bytes → Bytes → Type 0
IsUnread = HasFault edition.Second AreThemselves

-- the text reads as none by the first edition, with its name `previous` renamed: the line tells its first fault
abbrev pub IsUnreadByFirst : Bytes → Bytes → Type 0
IsUnreadByFirst = HasFault edition.First IsRenamed

-- The text has at most so many bytes, and by the first edition, with its name `previous` renamed, reads as this specification.
pub record IsTextByFirst (text : Bytes) (s : Spec) : Type 0 where
  pub tokens : List Placed
  pub renamed : List Placed
  pub short : length text ≤ greatest_text
  pub lexes : Lexes edition.First text tokens
  pub are_renamed : IsRenamed tokens renamed
  pub reads : IsTokensOf (bare renamed) s
