-- Cases of sends as they are written, before their parts have numbers, and when they are added to those that have.
use Rattle.std.specs.Prelude.{◌≡◌, ℕ, List, ◌++◌, map}
use Rattle.std.specs.List.{AllZip}
use Rattle.rsml_syntax.specs.declared.syntax.Spec.{Spec}
use Rattle.rsml_syntax.specs.declared.syntax.SendCase.{SendCase}
use Rattle.rsml_syntax.specs.text.Names.{Name}
use Rattle.rsml_syntax.specs.rules.Globals.{Globals}
use Rattle.rsml_meaning.specs.Words.{numbered}
use Rattle.rsml_meaning.specs.Interfaces.{SendCaseInstance, new_send_case}
use Rattle.rsml_ground.specs.declared.phrases.GroundPhrase.{GroundPhrase}
use Rattle.ground_members.specs.declared.written_sends.WrittenCase.{WrittenCase}
use Rattle.ground_members.specs.declared.written_sends.WrittenSend.{WrittenSend}
use Rattle.ground_members.specs.declared.send_cases.GroundSendCase.{GroundSendCase}
use Rattle.ground_members.specs.Members.{SendCaseIs}

-- the case that is written
abbrev pub case_by : Globals → WrittenCase → SendCaseInstance
case_by g x = new_send_case g x.name.now x.fields.now x.index (x.ordinal, x.case.now)

-- the cases of the instance of an index, of a send of this name and these fields
abbrev pub cases_of : Globals → Name → List Name → List SendCase → ℕ → List SendCaseInstance
cases_of g name fields cases i = map (new_send_case g name fields i) (numbered cases)

-- the cases of the instance of an index, of a send that is written
abbrev pub cases_at : Globals → WrittenSend → ℕ → List SendCaseInstance
cases_at g x i = cases_of g x.name.now x.fields.now x.cases.now i

-- Behind what was there stands a case over numbers for each of these.
pub record AddsCases (ps : List GroundPhrase) (s : Spec) (cs : List SendCaseInstance) (old new : List GroundSendCase) : Type 0 where
  pub more : List GroundSendCase
  pub are : AllZip (SendCaseIs ps s) cs more
  pub added : new ≡ old ++ more
