-- What `gaps` answers and writes of a text.
use Rattle.std.specs.Prelude.{◌≡◌, ◌<◌, ◌↔◌, ◌==◌, ℕ, List, Vec, Some, if◌then◌else◌, slice_get, IsTrue, Bool}
use Rattle.std.specs.List.{AllZip}
use Rattle.std.specs.declared.alloc.Global.{Global}
use Rattle.rsml_syntax.specs.declared.syntax.Spec.{Spec}
use Rattle.rsml_syntax.specs.declared.world.World.{World}
use Rattle.rsml_syntax.specs.limits.Limits.{Keeps}
use Rattle.rsml_meaning.specs.EventLines.{Bytes}
use Rattle.rsml_meaning.specs.Groups.{Group, Sound, groups}
use Rattle.rsml_meaning.specs.Worlds.{IsWorld}
use Rattle.world_columns.specs.declared.column.Column.{Column}
use Rattle.world_columns.specs.declared.column.Gaps.{Gaps}
use Rattle.world_columns.specs.declared.group.GroupGaps.{GroupGaps}
use Rattle.world_columns.specs.declared.group.GroupGaps.TheVariants as told
use Rattle.world_columns.specs.Columns.{LiesIn, lies_in}
use Rattle.world_columns.specs.Failing.{enables_none, enables_two}
use Rattle.world_columns.specs.Gaps.{AreGaps}
use Rattle.world_columns.specs.GapsOf.{SomeWorld, NoWorld}
use Rattle.world_columns.specs.Laws.{IsLeft}
use Rattle.gap_texts.specs.GapText.{gaps_text, unsound}
use Rattle.judging.specs.Texts.{IsTextOf}
use Rattle.answering.specs.declared.outcome.Outcome.{Outcome}
use Rattle.answering.specs.declared.outcome.Outcome.TheVariants as outcome
use Rattle.answering.specs.declared.status.Status.{Status}
use Rattle.answering.specs.declared.status.Status.TheVariants as status
use Rattle.checking.specs.Outputs.{TextFault}

-- The columns are those of a set of worlds, at most so many: each lies in the set, no two share a world, and more is told exactly where a
-- world of the set lies in none of them.
pub record AreExact (s : Spec) (set : World → Bool) (most : ℕ) (x : Gaps) : Type 0 where
  pub gaps : AreGaps s set most x.columns x.more
  pub inside : (k : ℕ) (c : Column) → slice_get x.columns k ≡ Some c → LiesIn s set c
  pub disjoint : (j k : ℕ) (c d : Column) → j < k → slice_get x.columns j ≡ Some c → slice_get x.columns k ≡ Some d
      → (w : World) → IsWorld s w → IsTrue (lies_in c w) → IsTrue (lies_in d w) → ⊥
  pub more_exact : IsTrue x.more ↔ ((w : World) × IsLeft s set x.columns w)

-- what is told of a group is right: it is sound, or the columns are those of the worlds in which it enables no member, where there are such,
-- and else of those in which it enables two or more
abbrev pub IsTold : Spec → ℕ → Group → GroupGaps → Type 0
IsTold s most g told.Sound = Sound s g
IsTold s most g (told.Missing x) = SomeWorld s (enables_none s g) × AreExact s (enables_none s g) most x
IsTold s most g (told.Double x) = NoWorld s (enables_none s g) × SomeWorld s (enables_two s g) × AreExact s (enables_two s g) most x

-- Done exactly where all groups are sound
abbrev pub status_of : List GroupGaps → Status
status_of gs = if unsound gs == 0 then status.Done else status.Refused

-- What `gaps` answers and writes of a specification that keeps the rules and the limits, with at most so many columns for each group.
pub record TellsGaps (s : Spec) (most : ℕ) (answer : Status) (bytes : Bytes) : Type 0 where
  pub answers : List GroupGaps
  pub right : AllZip (IsTold s most) (groups s) answers
  pub ends : answer ≡ status_of answers
  pub text : bytes ≡ gaps_text s answers

-- What `gaps` answers and writes.
pub data GapsOutput (most : ℕ) (text : Bytes) (answer : Status) (bytes : Bytes) : Type 0 where
  fault : TextFault text answer bytes → GapsOutput most text answer bytes
  tabulated : (s : Spec) → IsTextOf text s → Keeps s → TellsGaps s most answer bytes → GapsOutput most text answer bytes

-- what it comes to on a text that is no specification that can be looked at
abbrev pub fault_of : Vec ℕ Global → Outcome
fault_of line = outcome.Text status.SpecFault line
