-- Well-formed specifications: what the grammar can write. And how deep their states nest.
use Rattle.std.specs.Prelude.{ℕ, suc, max, Bool, true, false, ◌&&◌, List, [], ◌∷◌, Option, Some, None, IsTrue}
use Rattle.std.specs.List.{list_all}
use Rattle.rsml_syntax.specs.declared.edition.Edition.TheVariants as editions
use Rattle.rsml_syntax.specs.declared.syntax.Answer.{Answer}
use Rattle.rsml_syntax.specs.declared.syntax.Answer.TheVariants as answers
use Rattle.rsml_syntax.specs.declared.syntax.Body.{Body, Basic, One', All', Row_of-StateDecl, end_of-StateDecl, more_of-StateDecl}
use Rattle.rsml_syntax.specs.declared.syntax.Bus.{Bus}
use Rattle.rsml_syntax.specs.declared.syntax.Case.{Case}
use Rattle.rsml_syntax.specs.declared.syntax.Decl.{Decl}
use Rattle.rsml_syntax.specs.declared.syntax.Decl.TheVariants as decls
use Rattle.rsml_syntax.specs.declared.syntax.Guard.{Guard}
use Rattle.rsml_syntax.specs.declared.syntax.Guard.TheVariants as guards
use Rattle.rsml_syntax.specs.declared.syntax.Phrase.{Phrase}
use Rattle.rsml_syntax.specs.declared.syntax.Phrase.TheVariants as phrases
use Rattle.rsml_syntax.specs.declared.syntax.Row.{Row}
use Rattle.rsml_syntax.specs.declared.syntax.SendCase.{SendCase}
use Rattle.rsml_syntax.specs.declared.syntax.Simple.{Simple}
use Rattle.rsml_syntax.specs.declared.syntax.Simple.TheVariants as simples
use Rattle.rsml_syntax.specs.declared.syntax.Spec.{Spec}
use Rattle.rsml_syntax.specs.declared.syntax.Sum.{Sum}
use Rattle.rsml_syntax.specs.declared.syntax.Transition.{Transition}
use Rattle.rsml_syntax.specs.declared.syntax.Value.{Value}
use Rattle.rsml_syntax.specs.declared.syntax.Value.TheVariants as values
use Rattle.rsml_syntax.specs.grammar.Grammar.{tokens_of}
use Rattle.rsml_syntax.specs.text.Names.{Name}
use Rattle.rsml_syntax.specs.text.Tokens.{AreTokens}

-- The lists that the grammar writes with at least one item have one: the values of an enumeration, the steps of a
-- target and of an `in` path, the members of a bus, and the terms of a sum.

-- the list has an item
abbrev pub has_items : {A : Type 0} → List A → Bool
has_items [] = false
has_items (x ∷ xs) = true

-- the sum has a term
abbrev pub sum_has_items : Sum → Bool
sum_has_items s = has_items s.terms

-- its path has a step, its sums have terms
abbrev pub simple_has_items : Simple → Bool
simple_has_items (simples.In path) = has_items path
simple_has_items (simples.Macro _) = true
simple_has_items (simples.Compare left _ right) = sum_has_items left && sum_has_items right
simple_has_items (simples.Function _ _ right) = sum_has_items right

-- so has what a phrase says
abbrev pub phrase_has_items : Phrase → Bool
phrase_has_items (phrases.Plain inner) = simple_has_items inner
phrase_has_items (phrases.Any _ _ inner) = simple_has_items inner
phrase_has_items (phrases.Every _ _ inner) = simple_has_items inner

-- the phrase of the row has what it needs
abbrev pub row_has_items : Row → Bool
row_has_items r = phrase_has_items r.phrase

-- so have all rows of the guard
abbrev pub guard_has_items : Guard → Bool
guard_has_items guards.Always = true
guard_has_items (guards.Table rows) = list_all row_has_items rows

-- the value and the guard of a case have what they need
abbrev pub case_has_items : Case → Bool
case_has_items c = sum_has_items c.value && guard_has_items c.guard

-- the value has a term, where it is a sum
abbrev pub value_has_items : Value → Bool
value_has_items (values.Sum s) = sum_has_items s
value_has_items (values.Function _) = true

-- so have all values of the answer
abbrev pub answer_has_items : Answer → Bool
answer_has_items answers.Quiet = true
answer_has_items (answers.Values vs) = list_all value_has_items vs

-- the guard and the answer of a case have what they need
abbrev pub send_case_has_items : SendCase → Bool
send_case_has_items c = guard_has_items c.guard && answer_has_items c.answer

-- the enumeration has a value; the rows and cases have what they need
abbrev pub declaration_has_items : Decl → Bool
declaration_has_items (decls.Enumeration _ names) = has_items names
declaration_has_items (decls.Macro _ _ rows) = list_all row_has_items rows
declaration_has_items (decls.Function _ _ cases) = list_all case_has_items cases
declaration_has_items (decls.Send _ _ _ cases) = list_all send_case_has_items cases
declaration_has_items _ = true

-- the bus has a member
abbrev pub bus_has_items : Bus → Bool
bus_has_items b = has_items b.members

-- the target has a step, where there is one
abbrev pub target_has_items : Option (List Name) → Bool
target_has_items None = true
target_has_items (Some target) = has_items target

-- the target and the guard have what they need
abbrev pub transition_has_items : Transition → Bool
transition_has_items t = target_has_items t.target && guard_has_items t.guard

abbrev mutual
  -- so has all that stands in a body
  pub body_has_items : Body → Bool
  body_has_items Basic = true
  body_has_items (One' _ _ children buses transitions) =
      row_of_children_has_items children && (list_all bus_has_items buses && list_all transition_has_items transitions)
  body_has_items (All' _ children) = row_of_children_has_items children

  pub row_of_children_has_items : {shape : _} → Row_of-StateDecl shape → Bool
  row_of_children_has_items end_of-StateDecl = true
  row_of_children_has_items (more_of-StateDecl _ _ b others) = body_has_items b && row_of_children_has_items others

-- so has all that stands in the specification
abbrev pub specification_has_items : Spec → Bool
specification_has_items s = list_all declaration_has_items s.decls && body_has_items s.body

-- A specification that the grammar can write: its names are names and no reserved words, its numbers are at most
-- 1,000,000,000, and no list lacks its item.
pub record WellFormed (s : Spec) : Type 0 where
  pub tokens : AreTokens editions.Second (tokens_of s)
  pub items : IsTrue (specification_has_items s)

-- How many states are nested at most, the outermost one counted.
abbrev mutual
  pub depth_of : Body → ℕ
  depth_of Basic = 1
  depth_of (One' _ _ children _ _) = suc (children_depth children)
  depth_of (All' _ children) = suc (children_depth children)

  pub children_depth : {shape : _} → Row_of-StateDecl shape → ℕ
  children_depth end_of-StateDecl = 0
  children_depth (more_of-StateDecl _ _ b others) = max (depth_of b) (children_depth others)

-- how many states of the specification are nested at most
abbrev pub nests : Spec → ℕ
nests s = depth_of s.body

-- how many states may be nested in a text
abbrev pub deepest : ℕ
deepest = 16
