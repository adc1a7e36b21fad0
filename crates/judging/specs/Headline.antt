-- The headline: what a certificate and a refusal say of a specification, and what was written of it.
use Rattle.std.specs.Prelude.{◌≡◌, ℕ, ◌<◌, ◌++◌, codes, decimal}
use Rattle.rsml_meaning.specs.Deterministic.{IsDeterministic}
use Rattle.rsml_meaning.specs.Certified.{Certified}
use Rattle.rsml_meaning.specs.Report.{Answers, AreRight, report_text}
use Rattle.rsml_meaning.specs.Texts.{text_line}
use Rattle.rsml_syntax.specs.declared.syntax.Spec.{Spec}
use Rattle.rsml_meaning.specs.EventLines.{Bytes}

-- The bytes are the report on the specification, and all that it tells is right: the length of each external event, the
-- events that loop, the first clash of each external event, and of each group that it is sound, or the least world in which
-- none of its members is enabled, or two or more are.
pub record IsRightReport (s : Spec) (bytes : Bytes) : Type 0 where
  pub answers : Answers
  pub right : AreRight s answers
  pub text : bytes ≡ report_text s answers

-- The text is lines, the last of which is this one.
pub record EndsInLine (text line : Bytes) : Type 0 where
  pub before : Bytes
  pub split : text ≡ (before ++ codes "\n") ++ text_line line

-- A certificate. All groups are sound, no event loops and there is no clash. Every external event has a length; in every
-- configuration and input valuation exactly one transition is enabled on each lowest active line for each event, exactly
-- one case of a send on each event that it has a case on, and exactly one case of a function; every well-formed event file
-- has exactly one run, and each step ends within the length of its event. The bytes are the report, whose last line is
-- `certified`.
pub record IsCertificate (s : Spec) (bytes : Bytes) : Type 0 where
  pub certified : Certified s
  pub deterministic : IsDeterministic s
  pub report : IsRightReport s bytes
  pub last_line : EndsInLine bytes (codes "certified")

-- A refusal. The specification is not certified. The bytes are the report, whose last line tells how many loops, clashes
-- and findings stand before it: at least one.
pub record IsRefusal (s : Spec) (bytes : Bytes) : Type 0 where
  pub not_certified : Certified s → ⊥
  pub report : IsRightReport s bytes
  pub count : ℕ
  pub some : 0 < count
  pub last_line : EndsInLine bytes (codes "refused " ++ decimal count)
