use Rattle.std.proofs.Common.{map, ap, ◌∙◌, List, ℕ}
use Rattle.std.specs.List.{list_all, list_any}
use Rattle.and_or_tables.specs.Ground.{known}
use Rattle.rsml_ground.specs.declared.phrases.GroundPhrase.TheVariants as phrases
use Rattle.rsml_ground.specs.Truths.{truths_in}
use Rattle.macros.proofs.Asking.{truth_is}
use Rattle.macros.proofs.StateLemmas.{ways_found}
use Rattle.macros.proofs.state_phrases.ways.Goals as goal

pub returns-in-Any : goal.returns-in-Any
returns-in-Any c =
    let g = c.args.macros.now in
    ways_found g c.args.phrase (λ ways. map (λ v. v.items) ways.items) (λ w. list_any (known (truths_in g w)) c.as_slice.result.now) c.each_way-in-Any.result
    c.each_way-in-Any.ensures.components c.each_way-in-Any.ensures.some
    (λ w. ap (λ (ks : List ℕ). list_any (known (truths_in g w)) ks) c.as_slice.ensures
    ∙ truth_is g w c.args.phrase c.phrase.result.now (phrases.Any c.in-Any.numbers) c.spec.ensures.standing c.phrase.ensures.is c.in-Any.is)

pub returns-in-Every : goal.returns-in-Every
returns-in-Every c =
    let g = c.args.macros.now in
    ways_found g c.args.phrase (λ ways. map (λ v. v.items) ways.items) (λ w. list_all (known (truths_in g w)) c.as_slice-in-Every.result.now) c.way_to_every.result
    c.way_to_every.ensures.components c.way_to_every.ensures.right
    (λ w. ap (λ (ks : List ℕ). list_all (known (truths_in g w)) ks) c.as_slice-in-Every.ensures
    ∙ truth_is g w c.args.phrase c.phrase.result.now (phrases.Every c.in-Every.numbers) c.spec.ensures.standing c.phrase.ensures.is c.in-Every.is)
