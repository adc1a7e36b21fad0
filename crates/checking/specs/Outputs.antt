-- What `check`, `format` and `migrate` answer and write of a text.
use Rattle.std.specs.Prelude.{◌≡◌, ◌<◌, length}
use Rattle.rsml_meaning.specs.EventLines.{Bytes}
use Rattle.rsml_syntax.specs.declared.syntax.Spec.{Spec}
use Rattle.rsml_syntax.specs.grammar.Grammar.{tokens_of}
use Rattle.rsml_syntax.specs.grammar.Layout.{layout}
use Rattle.rsml_syntax.specs.limits.Limits.{Keeps}
use Rattle.judging.specs.Headline.{IsCertificate, IsRefusal}
use Rattle.judging.specs.Judgements.{IsBroken}
use Rattle.judging.specs.Texts.{IsTextOf, IsUnread, IsTextByFirst, IsUnreadByFirst, greatest_text}
use Rattle.answering.specs.Lines as lines
use Rattle.answering.specs.declared.status.Status.{Status}
use Rattle.answering.specs.declared.status.Status.TheVariants as status

-- What is answered and written of a text that is too long, reads as no specification, or as one that breaks a rule or a limit: the line that
-- tells so.
pub data TextFault (text : Bytes) (answer : Status) (bytes : Bytes) : Type 0 where
  too_long : greatest_text < length text → answer ≡ status.TooLong → bytes ≡ lines.long → TextFault text answer bytes
  unread : IsUnread text bytes → answer ≡ status.SpecFault → TextFault text answer bytes
  broken : (s : Spec) → IsTextOf text s → IsBroken s bytes → answer ≡ status.SpecFault → TextFault text answer bytes

-- What `check` answers and writes of a specification that keeps the rules and the limits.
pub data SpecificationOutput (s : Spec) (answer : Status) (bytes : Bytes) : Type 0 where
  refused : IsRefusal s bytes → answer ≡ status.Refused → SpecificationOutput s answer bytes
  certified : IsCertificate s bytes → answer ≡ status.Done → SpecificationOutput s answer bytes

-- What `check` answers and writes.
pub data CheckOutput (text : Bytes) (answer : Status) (bytes : Bytes) : Type 0 where
  fault : TextFault text answer bytes → CheckOutput text answer bytes
  judged : (s : Spec) → IsTextOf text s → Keeps s → SpecificationOutput s answer bytes → CheckOutput text answer bytes

-- What `format` answers and writes: the layout of the specification that the text reads as. The rules are not judged.
pub data FormatOutput (text : Bytes) (answer : Status) (bytes : Bytes) : Type 0 where
  too_long : greatest_text < length text → answer ≡ status.TooLong → bytes ≡ lines.long → FormatOutput text answer bytes
  unread : IsUnread text bytes → answer ≡ status.SpecFault → FormatOutput text answer bytes
  formatted : (s : Spec) → IsTextOf text s → answer ≡ status.Done → bytes ≡ layout (tokens_of s) → FormatOutput text answer bytes

-- What `migrate` answers and writes: the layout of the specification that the text reads as by the first edition, with its name
-- `previous` renamed. The rules are not judged.
pub data MigrateOutput (text : Bytes) (answer : Status) (bytes : Bytes) : Type 0 where
  too_long : greatest_text < length text → answer ≡ status.TooLong → bytes ≡ lines.long → MigrateOutput text answer bytes
  unread : IsUnreadByFirst text bytes → answer ≡ status.SpecFault → MigrateOutput text answer bytes
  migrated : (s : Spec) → IsTextByFirst text s → answer ≡ status.Done → bytes ≡ layout (tokens_of s) → MigrateOutput text answer bytes
