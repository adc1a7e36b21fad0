-- Which inputs are named after `previous`.
use Rattle.std.specs.Prelude.{Bool, false, List, [], ◌++◌, flat_map}
use Rattle.std.specs.List.{list_any}
use Rattle.rsml_syntax.specs.declared.syntax.Operand.{Operand}
use Rattle.rsml_syntax.specs.declared.syntax.Operand.TheVariants as operands
use Rattle.rsml_syntax.specs.declared.syntax.Sum.{Sum}
use Rattle.rsml_syntax.specs.declared.syntax.Spec.{Spec}
use Rattle.rsml_syntax.specs.text.Names.{Name, same}
use Rattle.rsml_syntax.specs.grammar.Written.{guards_of, sums_of, sums_of_guard}
use Rattle.rsml_syntax.specs.grammar.Parts.{Part, Declared, Opens, Closes, parts, transitions_of}

-- the sums that are written in a part
abbrev pub sums_of_part : Part → List Sum
sums_of_part (Declared _ d) = flat_map sums_of_guard (guards_of d) ++ sums_of d
sums_of_part (Opens _) = []
sums_of_part (Closes state) = flat_map (λ t. sums_of_guard t.guard) (transitions_of state.body)

-- all sums of a specification
abbrev pub written_sums : Spec → List Sum
written_sums s = flat_map sums_of_part (parts s)

-- the operand is `previous` of this name
abbrev pub is_previous : Name → Operand → Bool
is_previous name (operands.Previous m) = same name m.name
is_previous name _ = false

-- the name stands after `previous` somewhere in the specification
abbrev pub names_previous : Spec → Name → Bool
names_previous s name = list_any (λ sum. list_any (λ t. is_previous name t.operand) sum.terms) (written_sums s)
