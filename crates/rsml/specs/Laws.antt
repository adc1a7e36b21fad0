-- Laws of what is answered. Each is the contract of a function with no body.
use Rattle.std.specs.Prelude.{◌≡◌, ◌++◌, ℕ, List, Some}
use Rattle.source_notes.specs.Comments.{AreComments}
use Rattle.rsml_meaning.specs.EventLines.{Bytes}
use Rattle.answering.specs.declared.status.Status.{Status}
use Rattle.following.specs.declared.event_action.EventAction.TheVariants as event_action
use Rattle.pairing.specs.declared.pair_action.PairAction.TheVariants as pair_action
use Rattle.rsml.specs.Commands.{act, follow, pair, command_of}
use Rattle.rsml.specs.Output.{Output}
use Rattle.rsml.specs.declared.command.Action.TheVariants as action

-- The texts are the same; or the words ask to explain a specification, what of it an event file covers, columns of it, what is proved of it, or
-- whether another behaves alike, and the texts are the same before the comment lines at their ends.
pub data AreSame (words : List Bytes) (bytes others : Bytes) : Type 0 where
  whole : bytes ≡ others → AreSame words bytes others
  explained : (file report notes more : Bytes) → command_of words ≡ Some (act action.Explain file) → bytes ≡ report ++ notes
      → others ≡ report ++ more → AreComments notes → AreComments more → AreSame words bytes others
  explained_cover : (file events report notes more : Bytes) → command_of words ≡ Some (follow event_action.ExplainCover file events)
      → bytes ≡ report ++ notes → others ≡ report ++ more → AreComments notes → AreComments more → AreSame words bytes others
  explained_gaps : (most : ℕ) (file report notes more : Bytes) → command_of words ≡ Some (act (action.ExplainGaps most) file)
      → bytes ≡ report ++ notes → others ≡ report ++ more → AreComments notes → AreComments more → AreSame words bytes others
  explained_prove : (file other report notes more : Bytes) → command_of words ≡ Some (pair pair_action.ExplainProve file other)
      → bytes ≡ report ++ notes → others ≡ report ++ more → AreComments notes → AreComments more → AreSame words bytes others
  explained_same : (file other report notes more : Bytes) → command_of words ≡ Some (pair pair_action.ExplainSame file other)
      → bytes ≡ report ++ notes → others ≡ report ++ more → AreComments notes → AreComments more → AreSame words bytes others

-- words and contents have at most one output: one status, and one text, of `explain`, `explain cover`, `explain gaps`, `explain prove` and
-- `explain same` but for the comment lines at its end
abbrev pub OutputIsOne : Type 0
OutputIsOne = (words : List Bytes) (contents : Bytes → Bytes) (answer other : Status) (bytes others : Bytes)
    → Output words contents answer bytes → Output words contents other others → (answer ≡ other) × AreSame words bytes others
