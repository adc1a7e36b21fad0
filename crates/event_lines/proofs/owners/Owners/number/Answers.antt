use Rattle.std.proofs.Common.{ℕ, Option, Some, slice_get, sym, ap, ◌∙◌}
use Rattle.std.specs.Option.{option_map}
use Rattle.rsml_syntax.specs.declared.syntax.Decl.{Decl}
use Rattle.event_lines.proofs.OwnerLemmas.{owner_at, no_owner}
use Rattle.event_lines.proofs.owners.Owners.number.Goals as goal

pub returns-in-Some : goal.returns-in-Some
returns-in-Some c =
    ap (λ (o : Option ℕ). option_map (λ n. slice_get c.args.self.now n) o) c.at.ensures
    ∙ owner_at c.args.self.now c.args.name.now c.in-Some.place (sym c.in-Some.ensures)

pub returns-in-None : goal.returns-in-None
returns-in-None c = sym (ap (λ (o : Option Decl). option_map (λ d. Some d) o) (no_owner c.args.self.now c.args.name.now (sym c.in-None.ensures)))
