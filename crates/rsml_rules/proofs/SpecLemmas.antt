-- A whole specification: its declarations are judged, and then its top state.
use Rattle.std.proofs.Common.{◌≡◌, List, Option, Result, OnOk, sym, ap, ◌∙◌, subst}
use Rattle.std.specs.Prelude.{flat_map}
use Rattle.std.proofs.lemmas.Grind.{flat_map-append}
use Rattle.rsml_syntax.specs.declared.syntax.Decl.{Decl}
use Rattle.rsml_syntax.specs.declared.syntax.Spec.{Spec}
use Rattle.rsml_syntax.specs.rules.Breaches.{Breach}
use Rattle.rsml_rules.specs.breaches.Noting.{noted}
use Rattle.rsml_syntax.specs.grammar.Parts.{declared, top_of}
use Rattle.rsml_syntax.specs.rules.Rules.{name_tables, judged, breaches}
use Rattle.rsml_syntax.specs.rules.Scopes.{NameTables}
use Rattle.rsml_rules.specs.breaches.Walks.{state_parts}
use Rattle.rsml_rules.proofs.Noting.{noted_append}

-- what is noted of the declarations, and then of the top state, is what is noted of all breaches
noted_parts : (s : Spec) (worst : Option Breach) →
    noted (noted worst (flat_map (judged (name_tables s)) (declared 0 s.decls))) (flat_map (judged (name_tables s)) (state_parts (top_of s))) ≡ noted worst (breaches s)
noted_parts s worst =
    let test = judged (name_tables s) in
    sym (noted_append worst (flat_map test (declared 0 s.decls)) (flat_map test (state_parts (top_of s))))
    ∙ ap (λ (bs : List Breach). noted worst bs) (sym (flat_map-append test (declared 0 s.decls) (state_parts (top_of s))))

pub all_noted : {A E : Type 0} (s : Spec) (w : NameTables) (ds : List Decl) (r : Result A E) (worst first last : Option Breach) → w ≡ name_tables s → ds ≡ s.decls →
    first ≡ noted worst (flat_map (judged w) (declared 0 ds)) →
    OnOk r (last ≡ noted first (flat_map (judged w) (state_parts (top_of s)))) →
    OnOk r (last ≡ noted worst (breaches s))
all_noted s w ds r worst first last e d h k =
    let rest = λ (v : NameTables). flat_map (judged v) (state_parts (top_of s)) in
    let now =
    h
    ∙ ap (λ (v : NameTables). noted worst (flat_map (judged v) (declared 0 ds))) e
    ∙ ap (λ (xs : List Decl). noted worst (flat_map (judged (name_tables s)) (declared 0 xs))) d in
    subst (λ (v : Option Breach). OnOk r (last ≡ v))
    (ap (λ (v : Option Breach). noted v (rest w)) now
    ∙ ap (λ (v : NameTables). noted (noted worst (flat_map (judged (name_tables s)) (declared 0 s.decls))) (rest v)) e
    ∙ noted_parts s worst)
    k
