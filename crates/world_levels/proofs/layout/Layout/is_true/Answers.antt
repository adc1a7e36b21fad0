use Rattle.std.proofs.Common.{◌≡◌, ◌<◌, List, Some, slice_get, length, sym, subst, ap, ◌∙◌}
use Rattle.rsml_meaning.specs.Worlds.{IsWorld}
use Rattle.spelled_numbers.specs.declared.slot.Slot.{Slot}
use Rattle.spelled_numbers.specs.declared.slot.Slot.TheVariants.{Part, Free}
use Rattle.spelled_numbers.specs.Spelling.{spelled}
use Rattle.spelled_numbers.proofs.DigitLemmas.{within}
use Rattle.world_levels.specs.Spelling.{WorldLevels, part_number, spelled_world}
use Rattle.world_levels.proofs.NumberLemmas.{item_at}
use Rattle.world_levels.proofs.layout.Layout.is_true.Goals as goal

pub number-number-requires : goal.number-number-requires
number-number-requires c = subst (λ (l : WorldLevels). IsWorld l.spec c.args.world.now) (sym c.self.view_is) c.requires.world

pub digit-requires-clause-own : goal.digit-requires-clause-own
digit-requires-clause-own c =
    let is = ap (λ (l : WorldLevels). slice_get l.slots c.args.level) c.self.view_is ∙ c.requires.part.1.1 in
    let less : c.args.level < length c.self.inside.slots.items = within c.self.inside.slots.items c.args.level c.requires.part.0 c.requires.part.1.0 is in (
      c.in-Part.weight,
      ap (λ (ss : List Slot). slice_get ss c.args.level) c.as_slice.ensures.value
          ∙ item_at c.self.inside.slots.items c.args.level c.index.result.now c.index.ensures less ∙ ap Some c.in-Part.is,
    )

pub returns-in-Part : goal.returns-in-Part
returns-in-Part c = λ free.
    c.digit.ensures (part_number c.self.inside.worlds.now c.args.world.now) free (sym c.number-number.ensures)
    ∙ ap (λ (ss : List Slot). spelled ss (part_number c.self.inside.worlds.now c.args.world.now) free c.args.level) c.as_slice.ensures.value
    ∙ ap (λ (l : WorldLevels). spelled_world l.spec l.slots c.args.world.now free c.args.level) c.self.view_is

pub returns-in-Free : goal.returns-in-Free
returns-in-Free c = λ free.
    let is = ap (λ (l : WorldLevels). slice_get l.slots c.args.level) c.self.view_is ∙ c.requires.part.1.1 in
    let less : c.args.level < length c.self.inside.slots.items = within c.self.inside.slots.items c.args.level c.requires.part.0 c.requires.part.1.0 is in
    let no : Some Free ≡ Some (Part c.requires.part.0 c.requires.part.1.0) = ap Some (sym c.in-Free.is) ∙ sym (item_at c.self.inside.slots.items c.args.level c.index.result.now c.index.ensures less) ∙ is in
    absurd (let none : ⊥ = cc in none)
