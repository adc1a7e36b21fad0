-- What is told of a group by columns: that it is sound, or in which worlds it fails.
use Rattle.std.specs.Prelude.{ℕ, Bool, IsTrue}
use Rattle.rsml_syntax.specs.declared.syntax.Spec.{Spec}
use Rattle.rsml_syntax.specs.declared.world.World.{World}
use Rattle.rsml_meaning.specs.Worlds.{IsWorld}
use Rattle.rsml_meaning.specs.Groups.{Group, Sound}
use Rattle.world_columns.specs.declared.group.GroupGaps.{GroupGaps}
use Rattle.world_columns.specs.declared.group.GroupGaps.TheVariants as gaps
use Rattle.world_columns.specs.Failing.{enables_none, enables_two}
use Rattle.world_columns.specs.Gaps.{AreGaps}

-- some world is in the set
abbrev pub SomeWorld : Spec → (World → Bool) → Type 0
SomeWorld s set = (w : World) × IsWorld s w × IsTrue (set w)

-- no world is in the set
abbrev pub NoWorld : Spec → (World → Bool) → Type 0
NoWorld s set = (w : World) → IsWorld s w → IsTrue (set w) → ⊥

-- what is told of a group is right, with at most so many columns: `none` goes before `two`, as in its verdict
abbrev pub AreGroupGaps : Spec → ℕ → Group → GroupGaps → Type 0
AreGroupGaps s most g gaps.Sound = Sound s g
AreGroupGaps s most g (gaps.Missing x) = SomeWorld s (enables_none s g) × AreGaps s (enables_none s g) most x.columns x.more
AreGroupGaps s most g (gaps.Double x) = NoWorld s (enables_none s g) × SomeWorld s (enables_two s g) × AreGaps s (enables_two s g) most x.columns x.more
