use Rattle.std.proofs.Common.{◌≡◌, ◌<◌, ℕ, Bool, List, Option, All, map, length, sym, ap, ◌∙◌, subst, arith}
use Rattle.and_or_tables.specs.Ground.{known}
use Rattle.rsml_meaning.specs.Instances.{components}
use Rattle.rsml_ground.specs.Truths.{truths_in}
use Rattle.macros.specs.Known.{Knows}
use Rattle.macros.proofs.Learning.{learned_right}
use Rattle.rsml_ground.specs.declared.choices.Choice.{Choice}
use Rattle.macros.specs.StatePhrases.{some_chosen}
use Rattle.micro_step.proofs.MicroLemmas.{world_choices}
use Rattle.macros.proofs.StateLemmas.{of_each}
use Rattle.micro_step.proofs.learning.learn.Goals as goal

pub is_some_chosen-truth-requires : goal.is_some_chosen-truth-requires
is_some_chosen-truth-requires c =
    let g = c.args.machine.now.base in
    let many : length (components g.spec) ≡ length c.as_slice.result.now = sym (world_choices g.spec c.args.world.now c.requires.world) ∙ ap (λ (cs : List ℕ). length cs) (sym c.as_slice.ensures) in
    of_each (All (λ (x : Choice). x.component < length c.as_slice.result.now)) (λ x. x.items) c.as_slice-2.result.now
    (subst (λ ways. All (All (λ (x : Choice). x.component < length c.as_slice.result.now)) (map (λ x. x.items) ways)) (sym c.as_slice-2.ensures.value)
    (subst (λ (n : ℕ). All (All (λ (x : Choice). x.component < n)) (map (λ x. x.items) c.args.one.now.ways.items)) many c.requires.one.ways.components))

pub returns : goal.returns
returns c =
    let g = c.args.machine.now.base in
    let w = c.args.world.now in
    let one = c.args.one.now in
    let is : c.is_some_chosen-truth.result ≡ known (truths_in g w) one.phrase =
    c.is_some_chosen-truth.ensures
    ∙ ap (λ (cs : List ℕ). some_chosen cs (map (λ x. x.items) c.as_slice-2.result.now)) c.as_slice.ensures
    ∙ ap (λ ways. some_chosen w.choices (map (λ x. x.items) ways)) c.as_slice-2.ensures.value
    ∙ c.requires.one.ways.right w c.requires.world in
    let within : one.phrase < length c.args.memo.now = let k = c.requires.knows.count in let t = c.requires.one.there in omega (arith, k, t) in
    subst (λ (memo : List (Option Bool)). Knows g w memo) (sym c.learn.ensures) (learned_right g w c.args.memo.now one.phrase c.is_some_chosen-truth.result within c.requires.knows is)
