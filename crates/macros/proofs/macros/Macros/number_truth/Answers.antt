use Rattle.std.proofs.Common.{◌<◌, ap, ◌∙◌, subst, length, map, arith}
use Rattle.std.proofs.lemmas.Option.{slice_get_within}
use Rattle.rsml_ground.specs.Grounded.{IsGrounded}
use Rattle.rsml_ground.specs.Truths.{Grounded}
use Rattle.macros.specs.Pairs.{pair_of}
use Rattle.macros.proofs.OneTerm.{fits_at, has_place, pair_is, stands}
use Rattle.macros.proofs.macros.Macros.number_truth.Goals as goal

pub index-requires : goal.index-requires
index-requires c =
    let within : c.args.number < length c.args.self.now.phrases = slice_get_within c.args.self.now.phrases c.args.number c.args.phrase.now c.requires.phrase in
    omega (
      arith,
      has_place c.args.self.now.phrases c.self.inside.pairs.items c.args.number (c.self.invariant.comparisons ∙ ap (λ (g : Grounded). map pair_of g.phrases) c.self.view_is) within,
    )

pub pair_truth-requires-clause-left : goal.pair_truth-requires-clause-left
pair_truth-requires-clause-left c =
    let within : c.args.number < length c.args.self.now.phrases = slice_get_within c.args.self.now.phrases c.args.number c.args.phrase.now c.requires.phrase in
    (fits_at c.args.self.now c.self.inside.pairs.items c.args.number c.index.result.now c.in-Some.pair
    (c.self.invariant.comparisons ∙ ap (λ (g : Grounded). map pair_of g.phrases) c.self.view_is)
    c.index.ensures c.in-Some.is (subst IsGrounded c.self.view_is c.self.invariant.grounded) within).0

pub pair_truth-requires-clause-right : goal.pair_truth-requires-clause-right
pair_truth-requires-clause-right c =
    let within : c.args.number < length c.args.self.now.phrases = slice_get_within c.args.self.now.phrases c.args.number c.args.phrase.now c.requires.phrase in
    (fits_at c.args.self.now c.self.inside.pairs.items c.args.number c.index.result.now c.in-Some.pair
    (c.self.invariant.comparisons ∙ ap (λ (g : Grounded). map pair_of g.phrases) c.self.view_is)
    c.index.ensures c.in-Some.is (subst IsGrounded c.self.view_is c.self.invariant.grounded) within).1

pub returns-in-Some : goal.returns-in-Some
returns-in-Some c =
    c.pair_truth.ensures
    ∙ pair_is c.args.self.now c.args.world.now c.args.truths.now c.args.phrase.now c.in-Some.pair
    (stands c.args.self.now c.self.inside.pairs.items c.args.number c.index.result.now c.in-Some.pair
    (c.self.invariant.comparisons ∙ ap (λ (g : Grounded). map pair_of g.phrases) c.self.view_is)
    c.index.ensures c.in-Some.is c.args.phrase.now c.requires.phrase)
