use Rattle.std.proofs.Common.{◌++◌, List, map, flat_map, filter, ap, ◌∙◌}
use Rattle.rsml_syntax.specs.declared.syntax.Spec.{Spec}
use Rattle.rsml_syntax.specs.declared.syntax.Decl.{Decl}
use Rattle.rsml_syntax.specs.text.Names.{Name, is_in}
use Rattle.rsml_syntax.specs.rules.Globals.{Globals, globals}
use Rattle.rsml_names.specs.PreviousNames.{previous_names}
use Rattle.worlds.specs.declared.cell_ends.CellEnds.{CellEnds}
use Rattle.worlds.specs.Ends.{written, declared_ends}
use Rattle.worlds.proofs.Cells.{all_ends}
use Rattle.worlds.proofs.ends.ends.Goals as goal

-- src/ends.rt:106:1
pub returns : goal.returns
returns c =
    let there = c.as_slice-2.ensures ∙ ap (λ (s : Spec). s.decls) c.spec-spec.ensures.same in
    let here = c.in_ok-globals.ensures ∙ ap (λ (ds : List Decl). globals ds) (c.as_slice.ensures ∙ ap (λ (s : Spec). s.decls) c.spec-spec.ensures.same) in
    let own = c.in_ok-ends.ensures ∙ ap (λ (g : Globals). flat_map (declared_ends g) c.as_slice-2.result.now) here
    ∙ ap (λ (ds : List Decl). flat_map (declared_ends (globals c.args.checked.now.decls)) ds) there in
    let names = c.in_ok-names.ensures ∙ ap (λ (s : Spec). previous_names s) c.spec-spec.ensures.same in
    let kept = c.in_ok-previous.ensures ∙ ap (λ (ns : List Name). filter (λ (e : CellEnds). is_in e.name.now ns) c.as_slice-3.result.now) names
    ∙ ap (λ (es : List CellEnds). filter (λ (e : CellEnds). is_in e.name.now (previous_names c.args.checked.now)) es) c.as_slice-3.ensures.value in
    ap (λ (es : List CellEnds). map written es) (c.in_ok-extend_from_slice.ensures.items
    ∙ ap (λ (es : List CellEnds). c.in_ok-ends.ends.items ++ es) (c.as_slice-4.ensures.value ∙ kept))
    ∙ all_ends c.args.checked.now c.in_ok-ends.ends.items own
