use Rattle.std.proofs.Common.{◌≡◌, List, Some, None, slice_get, find, arith, sym, ap, ◌∙◌}
use Rattle.std.specs.Option.{option_copied}
use Rattle.std.proofs.lemmas.Grind.{common_steps}
use Rattle.std.proofs.lemmas.Option.{gets}
use Rattle.rsml_syntax.specs.declared.syntax.Bus.{Bus}
use Rattle.rsml_syntax.specs.text.Names.{Name, same, place_of}
use Rattle.rsml_names.proofs.NamesLemmas.{named_first}
use Rattle.rsml_names.proofs.buses.Buses.bus.Goals as goal

pub returns-in-Some : goal.returns-in-Some
returns-in-Some c =
    let at : option_copied c.get.result ≡ slice_get c.self.inside.all.now c.in-Some.place = grind (arith, common_steps, gets) in
    let found = ap (λ (k : Name). place_of k c.self.inside.names) (sym c.bytes.ensures) ∙ sym c.find.ensures ∙ c.in-Some.is in
    at ∙ named_first (λ (b : Bus). b.name) c.args.name.now c.self.inside.names c.self.inside.all.now (Some c.in-Some.place) c.self.invariant found
    ∙ ap (λ (bs : List Bus). find (λ b. same c.args.name.now b.name) bs) c.self.view_is

pub returns-in-None : goal.returns-in-None
returns-in-None c =
    let found = ap (λ (k : Name). place_of k c.self.inside.names) (sym c.bytes.ensures) ∙ sym c.find.ensures ∙ c.in-None.is in
    named_first (λ (b : Bus). b.name) c.args.name.now c.self.inside.names c.self.inside.all.now None c.self.invariant found
    ∙ ap (λ (bs : List Bus). find (λ b. same c.args.name.now b.name) bs) c.self.view_is
