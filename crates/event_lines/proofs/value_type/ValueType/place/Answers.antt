use Rattle.std.proofs.Common.{List, sym, ap, subst}
use Rattle.rsml_syntax.specs.text.Names.{Name}
use Rattle.rsml_meaning.specs.Words.{Each}
use Rattle.rsml_meaning.specs.Cells.{InputType}
use Rattle.event_lines.specs.declared.known.Known.{Known}
use Rattle.event_lines.specs.helpers.Kept.{IsPlaced}
use Rattle.event_lines.proofs.KnownLemmas.{kept_place}
use Rattle.event_lines.proofs.value_type.ValueType.place.Goals as goal

pub returns-in-Some : goal.returns-in-Some
returns-in-Some c =
    let ks = c.as_slice.result.now in
    kept_place c.args.self.now.names ks c.args.name.now c.in-Some.place
    (subst (λ (names : List Name). Each (IsPlaced names) ks) (ap (λ (t : InputType). t.names) c.self.view_is)
    (subst (λ (xs : List Known). Each (IsPlaced c.self.inside.names) xs) (sym c.as_slice.ensures.value) c.self.invariant)) c.in-Some.ensures
