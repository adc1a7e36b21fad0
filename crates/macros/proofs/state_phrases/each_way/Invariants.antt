use Rattle.std.proofs.Common.{◌≡◌, All, map, take}
use Rattle.std.specs.List.{list_all, list_any}
use Rattle.rsml_syntax.specs.declared.world.World.{World}
use Rattle.rsml_meaning.specs.Worlds.{IsWorld}
use Rattle.and_or_tables.specs.Ground.{known}
use Rattle.rsml_ground.specs.Truths.{truths_in}
use Rattle.rsml_ground.specs.Choices.{AreOfComponents, are_chosen}
use Rattle.macros.specs.StatePhrases.{some_chosen}
use Rattle.macros.proofs.state_phrases.each_way.Given as goal

abbrev pub invariant-loop-number : goal.invariant-loop-number
invariant-loop-number l = record {
  components : All (AreOfComponents l.macros.spec) (map (λ c. c.items) l.ways.items);
  some : (w : World) → IsWorld l.macros.spec w
      → some_chosen w.choices (map (λ c. c.items) l.ways.items) ≡ list_any (known (truths_in l.macros w)) (take l.number-index l.numbers);
  every : (w : World) → IsWorld l.macros.spec w
      → list_all (are_chosen w.choices) (map (λ c. c.items) l.ways.items) ≡ list_all (known (truths_in l.macros w)) (take l.number-index l.numbers);
}
