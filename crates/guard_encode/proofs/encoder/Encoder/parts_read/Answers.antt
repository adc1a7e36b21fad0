use Rattle.std.proofs.Common.{◌≡◌, ℕ, false, Some, length, slice_get, sym, ap, ◌∙◌, subst, IfOk}
use Rattle.std.proofs.lemmas.Result.{IfOk-weaker}
use Rattle.rsml_meaning.specs.Instances.{components}
use Rattle.rsml_meaning.specs.Cells.{cells}
use Rattle.rsml_ground.specs.Truths.{Grounded}
use Rattle.bdd_core.specs.Diagram.{IsRef}
use Rattle.guard_encode.specs.declared.reading.ReadParts.{ReadParts}
use Rattle.guard_encode.specs.Encoding.{Encoding}
use Rattle.guard_encode.specs.Marking.{AreRead}
use Rattle.guard_encode.specs.Reading.{IgnoresCell, IgnoresChoice}
use Rattle.guard_encode.proofs.ReadLemmas.{cell_unread, choice_unread}
use Rattle.guard_encode.proofs.encoder.Encoder.parts_read.Goals as goal

pub read_by-requires-clause-f_ref : goal.read_by-requires-clause-f_ref
read_by-requires-clause-f_ref c = subst (λ (e : Encoding). IsRef e.diagram c.args.f) (sym c.self.view_is) c.requires

pub read_by-requires-clause-room : goal.read_by-requires-clause-room
read_by-requires-clause-room c = c.self.invariant.stored.same_levels

pub returns-clause-many_choices : goal.returns-clause-many_choices
returns-clause-many_choices c =
    subst (λ (e : Encoding). IfOk c.read_by.result (λ (read : ReadParts). length read.choices ≡ length (components e.machine.base.spec))) c.self.view_is
    (IfOk-weaker c.read_by.result (AreRead c.self.inside.arena c.self.inside.levels c.args.f) _
    (λ read h. h.many_choices ∙ ap (λ (g : Grounded). length (components g.spec)) c.self.invariant.same) c.read_by.ensures)

pub returns-clause-many_cells : goal.returns-clause-many_cells
returns-clause-many_cells c =
    subst (λ (e : Encoding). IfOk c.read_by.result (λ (read : ReadParts). length read.cells ≡ length (cells e.machine.base.spec))) c.self.view_is
    (IfOk-weaker c.read_by.result (AreRead c.self.inside.arena c.self.inside.levels c.args.f) _
    (λ read h. h.many_cells ∙ ap (λ (g : Grounded). length (cells g.spec)) c.self.invariant.same) c.read_by.ensures)

pub returns-clause-choices : goal.returns-clause-choices
returns-clause-choices c =
    subst (λ (e : Encoding). IfOk c.read_by.result (λ (read : ReadParts). (component : ℕ) → slice_get read.choices component ≡ Some false → IgnoresChoice e component c.args.f)) c.self.view_is
    (IfOk-weaker c.read_by.result (AreRead c.self.inside.arena c.self.inside.levels c.args.f) _
    (λ read h. choice_unread c.world_laws.ensures.each c.world_laws.ensures.free c.keyed_laws.ensures.each c.self.inside.machine.now c.self.inside.levels c.self.inside.arena c.args.f read
    c.self.invariant.same c.self.invariant.stored.levels h)
    c.read_by.ensures)

pub returns-clause-cells : goal.returns-clause-cells
returns-clause-cells c =
    subst (λ (e : Encoding). IfOk c.read_by.result (λ (read : ReadParts). (cell : ℕ) → slice_get read.cells cell ≡ Some false → IgnoresCell e cell c.args.f)) c.self.view_is
    (IfOk-weaker c.read_by.result (AreRead c.self.inside.arena c.self.inside.levels c.args.f) _
    (λ read h. cell_unread c.world_laws.ensures.each c.world_laws.ensures.free c.keyed_laws.ensures.each c.self.inside.machine.now c.self.inside.levels c.self.inside.arena c.args.f read
    c.self.invariant.same c.self.invariant.stored.levels h)
    c.read_by.ensures)
