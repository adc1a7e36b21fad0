use Rattle.std.proofs.Common.{◌≡◌, ℕ, Option, Some, slice_get, sym, ap}
use Rattle.std.specs.Prelude.{IfSome}
use Rattle.rsml_meaning.specs.Interfaces.{ReceiveInstance}
use Rattle.state_arrays.specs.Places.{cell_place}
use Rattle.interfaces.specs.Kept.{written, places}
use Rattle.interfaces.proofs.TurnLemmas.{some_more}
use Rattle.interfaces.proofs.interfaces.Interfaces.cell.Goals as goal

pub returns : goal.returns
returns c =
    some_more (λ (x : ReceiveInstance). IfSome (slice_get x.inputs c.args.place) (λ input. written c.field-field.result ≡ places c.args.self.now input))
    (λ (x : ReceiveInstance). IfSome (slice_get x.inputs c.args.place) (λ input. cell_place c.args.self.now input ≡ Some c.field-field.result.cell)) _
    (λ x g. some_more (λ input. written c.field-field.result ≡ places c.args.self.now input) (λ input. cell_place c.args.self.now input ≡ Some c.field-field.result.cell) _ (λ i h. sym (ap (λ (p : Option ℕ × Option ℕ). p.0) h)) g)
    c.field-field.ensures
