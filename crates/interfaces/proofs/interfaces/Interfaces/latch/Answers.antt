use Rattle.std.proofs.Common.{◌≡◌, sym, ◌∙◌, subst}
use Rattle.rsml_syntax.specs.limits.Checked.{IsChecked}
use Rattle.rsml_meaning.specs.Interfaces.{ReceiveInstance}
use Rattle.rsml_meaning.specs.Runs.{latched}
use Rattle.interfaces.specs.Kept.{FieldsAre}
use Rattle.interfaces.specs.Writes.{AreTyped}
use Rattle.interfaces.proofs.LatchedLemmas.{all_within, full, with_cells, message_of, latched_is, latched_world}
use Rattle.interfaces.proofs.TurnLemmas.{two_there, from_some, some_two_there, fields_long}
use Rattle.interfaces.proofs.WorldLemmas.{typed_long}
use Rattle.interfaces.proofs.interfaces.Interfaces.latch.Goals as goal

pub write_all-requires-clause-within : goal.write_all-requires-clause-within
write_all-requires-clause-within c =
    from_some (λ (x : ReceiveInstance). FieldsAre c.args.self.now x.inputs c.fields_of-fields.result.now) _ _ c.requires.there
    (λ x e h. all_within c.args.self.now _ x.inputs c.fields_of-fields.result.now (full c.args.self.now c.args.world.now c.requires.world) h) c.fields_of-fields.ensures

pub write_all-requires-clause-count : goal.write_all-requires-clause-count
write_all-requires-clause-count c =
    two_there (λ (x : ReceiveInstance). AreTyped c.args.self.now x.inputs c.args.numbers.now) (λ (x : ReceiveInstance). FieldsAre c.args.self.now x.inputs c.fields_of-fields.result.now) _ _ c.requires.there
    (λ x e t h. typed_long c.args.self.now x.inputs c.args.numbers.now t ∙ sym (fields_long c.args.self.now x.inputs c.fields_of-fields.result.now h)) c.requires.typed c.fields_of-fields.ensures

pub returns-clause-is : goal.returns-clause-is
returns-clause-is c =
    some_two_there (λ (x : ReceiveInstance). AreTyped c.args.self.now x.inputs c.args.numbers.now) (λ (x : ReceiveInstance). FieldsAre c.args.self.now x.inputs c.fields_of-fields.result.now)
    (λ (x : ReceiveInstance). with_cells c.args.world.now c.write_all.new.cells ≡ latched c.args.self.now c.args.world.now (message_of x c.args.numbers.now)) _
    (λ x e t h. latched_is c.args.self.now c.args.world.now c.args.receive x c.fields_of-fields.result.now c.args.numbers.now _ (subst IsChecked c.self.view_is c.self.invariant.checked) c.requires.world e h t c.write_all.ensures)
    c.requires.typed c.fields_of-fields.ensures

pub returns-clause-world : goal.returns-clause-world
returns-clause-world c =
    two_there (λ (x : ReceiveInstance). AreTyped c.args.self.now x.inputs c.args.numbers.now) (λ (x : ReceiveInstance). FieldsAre c.args.self.now x.inputs c.fields_of-fields.result.now) _ _ c.requires.there
    (λ x e t h. latched_world c.args.self.now c.args.world.now c.args.receive x c.fields_of-fields.result.now c.args.numbers.now _ (subst IsChecked c.self.view_is c.self.invariant.checked) c.requires.world e h t c.write_all.ensures)
    c.requires.typed c.fields_of-fields.ensures
