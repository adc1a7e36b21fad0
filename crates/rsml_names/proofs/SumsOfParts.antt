-- The names that stand after `previous` in a whole specification.
use Rattle.std.proofs.Common.{◌≡◌, ℕ, ◌+◌, List, [], ◌∷◌, ◌++◌, None, length, flat_map, refl, sym, ap, ◌∙◌}
use Rattle.std.proofs.lemmas.Grind.{flat_map-append}
use Rattle.std.proofs.lemmas.List.{append-nil}
use Rattle.rsml_syntax.specs.declared.syntax.Decl.{Decl}
use Rattle.rsml_syntax.specs.declared.syntax.Spec.{Spec}
use Rattle.rsml_syntax.specs.declared.syntax.Sum.{Sum}
use Rattle.rsml_syntax.specs.declared.syntax.Transition.{Transition}
use Rattle.rsml_syntax.specs.text.Names.{Name}
use Rattle.rsml_syntax.specs.rules.Globals.{names_of}
use Rattle.rsml_syntax.specs.grammar.Parts.{Opens, Closes, declared, inside, top_of, transitions_of}
use Rattle.rsml_syntax.specs.limits.Previous.{sums_of_part, written_sums}
use Rattle.rsml_names.specs.PreviousNames.{gathered, previous_names, sums_of_declaration, sums_inside, sums_of_state, sums_of_transitions}
use Rattle.rsml_names.proofs.PreviousGathering.{gathered_twice}

sums_declared : (place : ℕ) (ds : List Decl) → flat_map sums_of_part (declared place ds) ≡ flat_map sums_of_declaration ds
sums_declared place [] = refl
sums_declared place (d ∷ ds) = ap (λ (xs : List Sum). sums_of_declaration d ++ xs) (sums_declared (place + length (names_of d)) ds)

sums_of_parts : (s : Spec) → written_sums s ≡ flat_map sums_of_declaration s.decls ++ sums_of_state s.body
sums_of_parts s =
    let own_sums : List Sum = sums_of_transitions (transitions_of s.body) in
    flat_map-append sums_of_part (declared 0 s.decls) (Opens (top_of s) ∷ (inside None s.body ++ (Closes (top_of s) ∷ [])))
    ∙ ap (λ (xs : List Sum). xs ++ flat_map sums_of_part (inside None s.body ++ (Closes (top_of s) ∷ []))) (sums_declared 0 s.decls)
    ∙ ap (λ (xs : List Sum). flat_map sums_of_declaration s.decls ++ xs)
    (flat_map-append sums_of_part (inside None s.body) (Closes (top_of s) ∷ [])
    ∙ ap (λ (xs : List Sum). flat_map sums_of_part (inside None s.body) ++ xs) (append-nil own_sums))

pub all_gathered : (s : Spec) (n0 n1 n2 : List Name) (ds : List Decl) (ts : List Transition) → n0 ≡ [] → ds ≡ s.decls → n1 ≡ gathered n0 (flat_map sums_of_declaration ds) →
    n2 ≡ gathered n1 (sums_inside s.body) → ts ≡ transitions_of s.body → gathered n2 (sums_of_transitions ts) ≡ previous_names s
all_gathered s n0 n1 n2 ds ts e0 ed e1 e2 et =
    let own_sums : List Sum = sums_of_transitions (transitions_of s.body) in
    ap (λ (xs : List Transition). gathered n2 (sums_of_transitions xs)) et
    ∙ ap (λ (ns : List Name). gathered ns own_sums) (e2 ∙ ap (λ (ns : List Name). gathered ns (sums_inside s.body)) (e1 ∙ ap (λ (xs : List Decl). gathered n0 (flat_map sums_of_declaration xs)) ed))
    ∙ gathered_twice (gathered n0 (flat_map sums_of_declaration s.decls)) (sums_inside s.body) own_sums
    ∙ gathered_twice n0 (flat_map sums_of_declaration s.decls) (sums_of_state s.body)
    ∙ ap (λ (ns : List Name). gathered ns (flat_map sums_of_declaration s.decls ++ sums_of_state s.body)) e0
    ∙ ap (λ (ss : List Sum). gathered [] ss) (sym (sums_of_parts s))
