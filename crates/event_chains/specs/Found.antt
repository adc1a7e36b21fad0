-- What is found of the chains of a specification, over numbers of events.
use Rattle.std.specs.Prelude.{◌≡◌, ℕ, Bool, true, false, List, length, flat_map, Option, Some, None, IsTrue, ◌↔◌, ⊤}
use Rattle.std.specs.List.{AllZip, items_where_true, range_with_len}
use Rattle.rsml_syntax.specs.declared.syntax.Spec.{Spec}
use Rattle.rsml_meaning.specs.Words.{Instance}
use Rattle.rsml_meaning.specs.Instances.{events}
use Rattle.rsml_meaning.specs.Chains.{is_external, Loops}
use Rattle.rsml_meaning.specs.Report.{ClashFound, externals, IsLengthAnswer, IsClashAnswer}
use Rattle.ground_members.specs.Members.{IsEvent}
use Rattle.event_graph.specs.declared.clash.Clash.{Clash}
use Rattle.event_graph.specs.Clashes.{if_any}
use Rattle.event_chains.specs.declared.external.External.{External}

-- whether each event loops
abbrev pub AreLoopAnswers : Spec → List Bool → Type 0
AreLoopAnswers s flags = AllZip (λ e looping. IsTrue looping ↔ Loops s e) (events s) flags

-- the numbers of the events that loop, rising
abbrev pub AreLooping : Spec → List ℕ → Type 0
AreLooping s ks = (flags : List Bool) × AreLoopAnswers s flags × (ks ≡ items_where_true flags (range_with_len 0 (length (events s))))

-- A clash of an external event by numbers of events.
pub record ClashIs (s : Spec) (x : Instance) (d : ClashFound) (c : Clash) : Type 0 where
  pub start : IsEvent s x c.start
  pub round : c.round ≡ d.round
  pub one : IsEvent s d.one c.one
  pub two : IsEvent s d.two c.two

-- none by none, and a clash by its numbers
abbrev pub AnswerIs : Spec → Instance → Option ClashFound → Option Clash → Type 0
AnswerIs s x None None = ⊤
AnswerIs s x (Some d) (Some c) = ClashIs s x d c
AnswerIs s x _ _ = ⊥

-- the first clash of an external event that has a length, if there is one
abbrev pub IsFirst : Spec → Instance → Option Clash → Type 0
IsFirst s x o = (d : Option ClashFound) × IsClashAnswer s x d × AnswerIs s x d o

-- for each external event in order that has a length and a clash, its first clash
abbrev pub AreClashes : Spec → List Clash → Type 0
AreClashes s cs = (firsts : List (Option Clash)) × AllZip (IsFirst s) (externals s) firsts × (cs ≡ flat_map if_any firsts)

-- An external event, its length, if it has one, and its first clash, if it has both.
pub record ExternalIs (s : Spec) (x : Instance) (r : External) : Type 0 where
  pub event : IsEvent s x r.event
  pub length : IsLengthAnswer s x r.length
  pub clash : IsFirst s x r.clash

-- what is found of an external event, and none of another
abbrev pub Shows : Spec → Instance → Option External → Type 0
Shows s e None = is_external s e ≡ false
Shows s e (Some r) = (is_external s e ≡ true) × ExternalIs s e r

-- the external events, in order
abbrev pub AreExternals : Spec → List External → Type 0
AreExternals s rs = AllZip (ExternalIs s) (externals s) rs
