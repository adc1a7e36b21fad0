use Rattle.std.proofs.Common.{◌≡◌, ◌<◌, All, IfSome, List, Option, Vec, Global, length, map, subst}
use Rattle.std.specs.List.{list_all}
use Rattle.rsml_syntax.specs.declared.world.World.{World}
use Rattle.rsml_meaning.specs.Instances.{components}
use Rattle.rsml_meaning.specs.Worlds.{IsWorld}
use Rattle.and_or_tables.specs.Ground.{known}
use Rattle.rsml_ground.specs.declared.choices.Choice.{Choice}
use Rattle.rsml_ground.specs.Truths.{truths_in}
use Rattle.rsml_ground.specs.Choices.{AreOfComponents, are_chosen, is_chosen}
use Rattle.macros.proofs.StateLemmas.{joined_fits, joined_right}
use Rattle.macros.proofs.state_phrases.way_to_every.Goals as goal

pub returns-clause-components : goal.returns-clause-components
returns-clause-components c =
    let g = c.args.macros.now in
    joined_fits (λ (x : Choice). x.component < length (components g.spec)) (λ v. v.items) c.in-Some.ways.items c.as_slice.result.now _ c.in_ok-one.ensures c.as_slice.ensures.value
    (subst (λ (o : Option (Vec (Vec Choice Global) Global)). IfSome o (λ ways. All (AreOfComponents g.spec) (map (λ v. v.items) ways.items))) c.in-Some.is c.in_ok-ways.ensures.components)

pub returns-clause-right : goal.returns-clause-right
returns-clause-right c = λ w in_spec.
    let g = c.args.macros.now in
    joined_right (is_chosen w.choices) (λ v. v.items) c.in-Some.ways.items c.as_slice.result.now _ (list_all (known (truths_in g w)) c.args.numbers.now) c.in_ok-one.ensures c.as_slice.ensures.value
    (subst (λ (o : Option (Vec (Vec Choice Global) Global)). IfSome o (λ ways. (w : World) → IsWorld g.spec w
    → list_all (are_chosen w.choices) (map (λ v. v.items) ways.items) ≡ list_all (known (truths_in g w)) c.args.numbers.now)) c.in-Some.is c.in_ok-ways.ensures.every w in_spec)
