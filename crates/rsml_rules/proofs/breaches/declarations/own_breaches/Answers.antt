use Rattle.std.proofs.Common.{◌≡◌, ℕ, Bool, not, List, length, sym, ap, ◌∙◌}
use Rattle.std.specs.List.{list_all}
use Rattle.rsml_syntax.specs.declared.syntax.SendCase.{SendCase}
use Rattle.rsml_syntax.specs.declared.syntax.Decl.{Decl}
use Rattle.rsml_syntax.specs.text.Names.{Name}
use Rattle.rsml_syntax.specs.rules.Breaches.{breach}
use Rattle.rsml_rules.specs.breaches.Noting.{noted}
use Rattle.rsml_syntax.specs.rules.Declarations.{gives, own_breaches}
use Rattle.rsml_rules.proofs.breaches.declarations.own_breaches.Goals as goal

pub returns-in-Send : goal.returns-in-Send
returns-in-Send c =
    let worst = c.args.worst.now in
    let name = c.in-Send.name in
    let all_give = λ (fields : ℕ) (cases : List SendCase). list_all (λ (x : SendCase). gives fields x.answer) cases in
    let right : c.each_gives-right.result ≡ all_give (length c.in-Send.fields) c.in-Send.cases =
    c.each_gives-right.ensures
    ∙ ap (λ n. all_give n c.as_slice-in-Send.result.now) c.len.ensures
    ∙ ap (λ cases. all_give (length c.in-Send.fields) cases) c.as_slice-in-Send.ensures in
    c.note-in-Send.ensures
    ∙ ap (λ (b : Bool). noted worst (breach 15 name (not b))) right
    ∙ ap (λ (d : Decl). noted worst (own_breaches c.args.globals.now d)) (sym c.in-Send.is)
