-- Where the instances of macros and functions stand.
use Rattle.std.proofs.Common.{◌≡◌, ℕ, ◌<◌, List, length, take, get_or, Some, sym, ap, ◌∙◌, subst, slice_get, arith}
use Rattle.std.specs.List.{AllZip}
use Rattle.rsml_syntax.specs.declared.syntax.Spec.{Spec}
use Rattle.rsml_meaning.specs.Interfaces.{definitions}
use Rattle.rsml_ground.specs.declared.definitions.Definition.{Definition}
use Rattle.rsml_ground.specs.declared.phrases.GroundPhrase.{GroundPhrase}
use Rattle.rsml_ground.specs.StandsFor.{DefinitionIs}
use Rattle.rsml_ground.specs.Scoped.{DefinitionIsScoped, PhrasesAreScoped}
use Rattle.phrase_builder.specs.declared.sources.Source.{Source}
use Rattle.phrase_builder.specs.Sources.{defined_by, all_defined_by}
use Rattle.phrase_builder.proofs.Lists.{get_map, item_is, zip_length, length_take, length_map}

pub placed : (sources : List Source) (n : ℕ) (x : Source) → n < length sources → x ≡ get_or sources n x → slice_get (all_defined_by sources) n ≡ Some (defined_by x)
placed sources n x l is = get_map defined_by sources n x (item_is sources n x l is)

-- an instance is scoped where it is defined
pub scoped_here : (s : Spec) (sources : List Source) (n : ℕ) (x : Source) (ps : List GroundPhrase) (ds es : List Definition) → PhrasesAreScoped s → all_defined_by sources ≡ definitions s → n < length sources → x ≡ get_or sources n x → es ≡ ds
    → AllZip (DefinitionIs ps s) (take n (all_defined_by sources)) ds → DefinitionIsScoped s (length es) (defined_by x)
scoped_here s sources n x ps ds es scoped all l is e stand =
    let within = length_map defined_by sources in
    let first = length_take (all_defined_by sources) n (omega (arith, within, l)) in
    let count = zip_length (DefinitionIs ps s) (take n (all_defined_by sources)) ds stand in
    let here : n ≡ length ds = omega (arith, first, count) in
    subst (λ k. DefinitionIsScoped s k (defined_by x)) (here ∙ ap length (sym e)) (scoped.definition n (defined_by x) (subst (λ xs. slice_get xs n ≡ Some (defined_by x)) all (placed sources n x l is)))
