use Rattle.std.proofs.Common.{List, sym, subst}
use Rattle.rsml_syntax.specs.declared.syntax.Decl.{Decl}
use Rattle.rsml_meaning.specs.Words.{Each}
use Rattle.event_lines.specs.declared.known.Known.{Known}
use Rattle.event_lines.specs.helpers.Kept.{IsKnown}
use Rattle.event_lines.proofs.KnownLemmas.{kept_number}
use Rattle.event_lines.proofs.receives.Receives.number.Goals as goal

pub returns-in-Some : goal.returns-in-Some
returns-in-Some c =
    let ks = c.as_slice.result.now in
    kept_number c.args.self.now ks c.args.name.now c.in-Some.number
    (subst (λ (ds : List Decl). Each (IsKnown ds) ks) c.self.view_is
    (subst (λ (xs : List Known). Each (IsKnown c.self.inside.owners) xs) (sym c.as_slice.ensures.value) c.self.invariant)) c.in-Some.ensures
