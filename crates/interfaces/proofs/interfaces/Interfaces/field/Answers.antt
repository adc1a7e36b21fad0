use Rattle.std.proofs.Common.{◌≡◌, ◌<◌, length, slice_get, arith}
use Rattle.std.specs.Prelude.{IfSome}
use Rattle.interfaces.specs.Kept.{FieldsAre, written, places}
use Rattle.interfaces.proofs.TurnLemmas.{some_two, from_two, field_at, fields_long}
use Rattle.interfaces.proofs.interfaces.Interfaces.field.Goals as goal

pub nth-requires : goal.nth-requires
nth-requires c =
    from_two (λ x. c.args.place < length x.inputs) (λ x. FieldsAre c.args.self.now x.inputs c.fields_of.result.now) _ _ c.requires.there
    (λ x p h. let l = fields_long c.args.self.now x.inputs c.fields_of.result.now h in omega (arith, l, p)) c.requires.field c.fields_of.ensures

pub returns : goal.returns
returns c =
    some_two (λ x. c.args.place < length x.inputs) (λ x. FieldsAre c.args.self.now x.inputs c.fields_of.result.now)
    (λ x. IfSome (slice_get x.inputs c.args.place) (λ input. written c.nth.result ≡ places c.args.self.now input)) _
    (λ x p h. field_at c.args.self.now x.inputs c.fields_of.result.now c.args.place c.nth.result h p c.nth.ensures) c.requires.field c.fields_of.ensures
