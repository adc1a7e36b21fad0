-- That the first of two texts is one that a second is read for.
use Rattle.std.specs.Prelude.{◌≡◌, IfSome}
use Rattle.rsml_meaning.specs.EventLines.{Bytes}
use Rattle.rsml_syntax.specs.declared.syntax.Spec.{Spec}
use Rattle.rsml_syntax.specs.limits.Limits.{Keeps}
use Rattle.judging.specs.Texts.{IsTextOf}
use Rattle.answering.specs.Uses.{FileUse}

-- A text reads as a specification that keeps the rules and the limits.
pub record IsKeptText (text : Bytes) (s : Spec) : Type 0 where
  pub reads : IsTextOf text s
  pub keeps : Keeps s

-- The text of a file reads as a specification that keeps the rules and the limits. It is what the file told, if it told it.
pub record IsKeptFile (file : FileUse) : Type 0 where
  pub text : Bytes
  pub told : IfSome file.told (λ bytes. text ≡ bytes)
  pub spec : Spec
  pub kept : IsKeptText text spec
