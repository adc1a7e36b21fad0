-- The cases of a function, with their numbers and without.
use Rattle.std.proofs.Common.{ℕ, List}
use Rattle.std.specs.List.{AllZip}
use Rattle.rsml_syntax.specs.declared.syntax.Spec.{Spec}
use Rattle.rsml_syntax.specs.declared.syntax.Case.{Case}
use Rattle.rsml_syntax.specs.text.Names.{Name}
use Rattle.rsml_meaning.specs.Words.{Each}
use Rattle.rsml_meaning.specs.Truth.{within}
use Rattle.rsml_meaning.specs.Interfaces.{function_cases, new_function}
use Rattle.rsml_ground.specs.declared.definitions.GroundCase.{GroundCase}
use Rattle.rsml_ground.specs.declared.definitions.Definition.TheVariants as definition
use Rattle.rsml_ground.specs.declared.phrases.GroundPhrase.{GroundPhrase}
use Rattle.rsml_ground.specs.StandsFor.{CaseIs, DefinitionIs}
use Rattle.rsml_ground.specs.Scoped.{CaseIsScoped, DefinitionIsScoped}
use Rattle.phrase_builder.proofs.Lists.{each_numbered, zip_numbered}

pub cases_scoped : (s : Spec) (n : ℕ) (name : Name) (cases : List Case) (index : ℕ) → DefinitionIsScoped s n (function_cases (new_function name cases index)) → Each (CaseIsScoped s n (within index)) cases
cases_scoped s n name cases index h = each_numbered (CaseIsScoped s n (within index)) 1 cases h

pub cases_are : (ps : List GroundPhrase) (s : Spec) (name : Name) (cases : List Case) (index : ℕ) (xs : List GroundCase) → AllZip (CaseIs ps s (within index)) cases xs → DefinitionIs ps s (function_cases (new_function name cases index)) (definition.Function xs)
cases_are ps s name cases index xs e = zip_numbered (CaseIs ps s (within index)) 1 cases xs e
