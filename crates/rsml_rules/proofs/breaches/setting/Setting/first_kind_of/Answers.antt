use Rattle.std.proofs.Common.{ap, ◌∙◌}
use Rattle.rsml_syntax.specs.text.Names.{place_of}
use Rattle.rsml_syntax.specs.rules.Scopes.{NameTables}
use Rattle.rsml_rules.proofs.FirstLemmas.{first_at, first_past}
use Rattle.rsml_rules.proofs.breaches.setting.Setting.first_kind_of.Goals as goal

pub returns-in-Some-get : goal.returns-in-Some-get
returns-in-Some-get c =
    let name = c.args.name.now in
    let found = c.in-Some-get.ensures.lookup in
    let named = c.in-Some.ensures ∙ ap (λ (w : NameTables). place_of name w.globals.names) (c.behind-self.view_is ∙ c.tables.ensures) in
    first_at c.args.self.now.tables.globals name c.first_kinds.result.now c.in-Some.place c.in-Some-get.kind.now c.first_kinds.ensures named found.3.0 found.1

pub returns-in-None-get : goal.returns-in-None-get
returns-in-None-get c =
    let name = c.args.name.now in
    let named = c.in-Some.ensures ∙ ap (λ (w : NameTables). place_of name w.globals.names) (c.behind-self.view_is ∙ c.tables.ensures) in
    first_past c.args.self.now.tables.globals name c.first_kinds.result.now c.in-Some.place c.first_kinds.ensures named c.in-None-get.ensures.lookup.3
