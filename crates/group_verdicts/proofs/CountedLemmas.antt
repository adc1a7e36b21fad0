-- Where a group fails: its condition, and how many members are enabled.
use Rattle.std.proofs.Common.{ℕ, Bool, ◌&&◌, not, ap}
use Rattle.rsml_syntax.specs.declared.world.World.{World}
use Rattle.rsml_meaning.specs.Truth.{view}
use Rattle.rsml_meaning.specs.Groups.{meets, enabled_count}
use Rattle.guard_encode.specs.Encoding.{Encoding, Keeps, Tells}
use Rattle.guard_encode.proofs.StepLemmas.{keeps_on}
use Rattle.group_verdicts.specs.Counts.{Question, TellsAt, has_more}
use Rattle.world_columns.specs.Failing.{enables_none, enables_two}
use Rattle.group_verdicts.proofs.CountLemmas.{none_is}
use Rattle.group_verdicts.proofs.AtLemmas.{and_at, not_at, tells_on, told_as}

-- whether the condition holds
abbrev pub holds : Question
holds = λ s g w. meets s (view s w) g

-- The condition is told by the encoder `chosen`, then `counted` tells how many are enabled.

pub none_fails : (chosen counted turned new : Encoding) (group condition some none r : ℕ) → Keeps chosen counted → Keeps counted turned → Keeps turned new
    → TellsAt chosen group holds condition → TellsAt counted group (has_more 0) some
    → ((p : World → Bool) → Tells counted p some → Tells turned (λ w. not (p w)) none)
    → ((p q : World → Bool) → Tells turned p condition → Tells turned q none → Tells new (λ w. p w && q w) r)
    → TellsAt new group enables_none r
none_fails chosen counted turned new group condition some none r by_count by_not by_and condition_is some_is made both =
    let s = new.machine.base.spec in
    told_as new group r (λ t g w. holds t g w && not (has_more 0 t g w)) enables_none
    (λ g at w. ap (λ b. meets s (view s w) g && b) (none_is (enabled_count s g (view s w))))
    (and_at turned new group condition none r holds (λ t g w. not (has_more 0 t g w)) by_and both
    (tells_on chosen turned group condition holds (keeps_on chosen counted turned by_count by_not) condition_is)
    (not_at counted turned group some none (has_more 0) by_not made some_is))

pub two_fail : (chosen counted new : Encoding) (group condition two r : ℕ) → Keeps chosen counted → Keeps counted new
    → TellsAt chosen group holds condition → TellsAt counted group (has_more 1) two
    → ((p q : World → Bool) → Tells counted p condition → Tells counted q two → Tells new (λ w. p w && q w) r)
    → TellsAt new group enables_two r
two_fail chosen counted new group condition two r by_count by_and condition_is two_is both =
    and_at counted new group condition two r holds (has_more 1) by_and both (tells_on chosen counted group condition holds by_count condition_is) two_is
