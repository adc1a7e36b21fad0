-- That an event file was followed.
use Rattle.std.specs.Prelude.{◌≡◌, IfSome}
use Rattle.rsml_meaning.specs.EventLines.{Bytes}
use Rattle.rsml_syntax.specs.declared.syntax.Spec.{Spec}
use Rattle.simulator.specs.declared.sim_end.SimEnd.{SimEnd}
use Rattle.simulator.specs.declared.sim_end.SimEnd.TheVariants as end
use Rattle.answering.specs.Uses.{FileUse, ReadRefused}
use Rattle.answering.specs.declared.status.Status.{Status}
use Rattle.following.specs.Outputs.{IsCertifiedText, status_of}

-- An event file was followed by a certified specification: one that the text of its file reads as, which is what the file told, if it told
-- it. The answer is that of how this ended, which tells of a refused read only where one of the event file was.
pub record IsFollowed (file events : FileUse) (answer : Status) : Type 0 where
  pub text : Bytes
  pub told : IfSome file.told (λ bytes. text ≡ bytes)
  pub spec : Spec
  pub certified : IsCertifiedText text spec
  pub ended : SimEnd
  pub ends : answer ≡ status_of ended
  pub read : ended ≡ end.ReadFault → ReadRefused events
