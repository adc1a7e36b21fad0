use Rattle.std.proofs.Common.{◌≡◌, ◌+◌, ◌<◌, false, length, ap, ◌∙◌, arith, []}
use Rattle.std.proofs.lemmas.List.{get_or_default}
use Rattle.rsml_meaning.specs.Instances.{components}
use Rattle.rsml_meaning.specs.Cells.{cells}
use Rattle.spelled_numbers.specs.Bits.{bits_of}
use Rattle.world_levels.specs.Spelling.{WorldLevels}
use Rattle.world_levels.proofs.layout.Layout.bits.Goals as goal

pub index-requires : goal.index-requires
index-requires c =
    let same : length (components c.self.inside.worlds.now) + length (cells c.self.inside.worlds.now) ≡ length (components c.args.self.now.spec) + length (cells c.args.self.now.spec) =
    ap (λ (l : WorldLevels). length (components l.spec) + length (cells l.spec)) c.self.view_is in
    let less : c.args.part < length c.self.inside.bits.items = omega (arith, same, c.requires, c.self.invariant.parts_are, c.self.invariant.bits_are.many) in
    omega (arith, less)

pub returns : goal.returns
returns c =
    let same : length (components c.self.inside.worlds.now) + length (cells c.self.inside.worlds.now) ≡ length (components c.args.self.now.spec) + length (cells c.args.self.now.spec) =
    ap (λ (l : WorldLevels). length (components l.spec) + length (cells l.spec)) c.self.view_is in
    let below : c.args.part < c.self.inside.parts = omega (arith, same, c.requires, c.self.invariant.parts_are) in
    let less : c.args.part < length c.self.inside.bits.items = omega (arith, below, c.self.invariant.bits_are.many) in
    c.as_slice.ensures ∙ c.index.ensures ∙ get_or_default c.self.inside.bits.items c.args.part _ [] less ∙ c.self.invariant.bits_are.each c.args.part below
    ∙ ap (λ (l : WorldLevels). bits_of c.args.part false l.slots 0) c.self.view_is
