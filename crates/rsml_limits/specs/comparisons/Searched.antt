-- A search through the comparisons of a specification.
use Rattle.std.specs.Prelude.{List, ◌++◌, flat_map, Option}
use Rattle.rsml_syntax.specs.declared.syntax.Amount.{Amount}
use Rattle.rsml_syntax.specs.declared.syntax.Transition.{Transition}
use Rattle.rsml_syntax.specs.declared.syntax.StateDecl.{StateDecl}
use Rattle.rsml_syntax.specs.rules.Globals.{Globals, indices}
use Rattle.rsml_syntax.specs.grammar.Written.{rows_of}
use Rattle.rsml_syntax.specs.grammar.Parts.{inside, nearer, transitions_of}
use Rattle.rsml_syntax.specs.limits.Comparisons.{Comparison, rows_comparisons, comparisons}

-- What a search has found with these global names.
pub record Searched : Type 0 where
  pub globals : Globals
  pub found : List Comparison

-- a search after more comparisons, which depend on its global names
abbrev pub searched : Searched → (Globals → List Comparison) → Searched
searched s more = record { globals = s.globals; found = s.found ++ more s.globals }

-- the comparisons of transitions, once for each instance of their state
abbrev pub transition_comparisons : Option Amount → List Transition → Globals → List Comparison
transition_comparisons array transitions g = flat_map (rows_comparisons g (flat_map (λ t. rows_of t.guard) transitions)) (indices g array)

-- the comparisons of a child, and of all states inside it
abbrev pub child_comparisons : Globals → Option Amount → StateDecl → List Comparison
child_comparisons g array c =
    flat_map (comparisons g) (inside (nearer c.size array) c.body) ++ transition_comparisons (nearer c.size array) (transitions_of c.body) g
