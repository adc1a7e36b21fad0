-- Where the instances of macros and functions come from.
use Rattle.std.specs.Prelude.{ℕ, List, map}
use Rattle.rsml_syntax.specs.text.Names.{Name}
use Rattle.rsml_meaning.specs.Words.{at}
use Rattle.rsml_meaning.specs.Interfaces.{Definition, macro_table, function_cases, new_function}
use Rattle.phrase_builder.specs.declared.sources.Content.{Content}
use Rattle.phrase_builder.specs.declared.sources.Content.TheVariants as content
use Rattle.phrase_builder.specs.declared.sources.Source.{Source}

-- the instance of this name and index
abbrev pub instance_of : Name → Content → ℕ → Definition
instance_of name (content.Table rows) index = macro_table (at name index) rows.now
instance_of name (content.Cases cases) index = function_cases (new_function name cases.now index)

-- the instance that a source makes
abbrev pub defined_by : Source → Definition
defined_by source = instance_of source.name.now source.content source.index

-- the instances that these sources make
abbrev pub all_defined_by : List Source → List Definition
all_defined_by sources = map defined_by sources
