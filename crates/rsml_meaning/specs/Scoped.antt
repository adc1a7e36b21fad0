-- What the rules give of a specification: each name stands for what is declared.
use Rattle.std.specs.Prelude.{◌≡◌, map, IsTrue, ⊤}
use Rattle.rsml_syntax.specs.declared.syntax.Spec.{Spec}
use Rattle.rsml_syntax.specs.declared.syntax.Mention.{Mention}
use Rattle.rsml_syntax.specs.declared.syntax.Value.{Value}
use Rattle.rsml_syntax.specs.declared.syntax.Value.TheVariants as values
use Rattle.rsml_syntax.specs.declared.syntax.Answer.{Answer}
use Rattle.rsml_syntax.specs.declared.syntax.Answer.TheVariants as answers
use Rattle.rsml_syntax.specs.limits.Comparisons.{Indices}
use Rattle.rsml_syntax.specs.text.Names.{is_in}
use Rattle.rsml_meaning.specs.Words.{Instance, Path, Each, IsOne}
use Rattle.rsml_meaning.specs.Instances.{globals_of, states, components, events}
use Rattle.rsml_meaning.specs.Cells.{cells, input_type, is_of}
use Rattle.rsml_meaning.specs.Truth.{within, instance}
use Rattle.rsml_meaning.specs.Transitions.{transitions}
use Rattle.rsml_meaning.specs.Interfaces.{FunctionInstance, functions, receives, send_cases}
use Rattle.rsml_meaning.specs.InOrder.{IsInOrder}

-- it is the path of a state instance
abbrev pub IsState : Spec → Path → Type 0
IsState s path = IsOne path (map (λ x. x.path) (states s))

-- it is an event instance
abbrev pub IsEvent : Spec → Instance → Type 0
IsEvent s e = IsOne e (events s)

-- a mention of a function is of a function instance
abbrev pub IsFunction : Spec → Indices → Mention → Type 0
IsFunction s r m = (f : FunctionInstance) × IsOne f (functions s) × (f.function ≡ instance (globals_of s) r m)

-- a value that is given by a function is given by a function instance
abbrev pub ValueIsScoped : Spec → Indices → Value → Type 0
ValueIsScoped s r (values.Sum x) = ⊤
ValueIsScoped s r (values.Function f) = IsFunction s r f

-- the functions that an answer names are function instances
abbrev pub AnswerIsScoped : Spec → Indices → Answer → Type 0
AnswerIsScoped s r answers.Quiet = ⊤
AnswerIsScoped s r (answers.Values vs) = Each (ValueIsScoped s r) vs

-- Each name stands for what is declared: macros and functions have names of their own and are used after their
-- declaration; each source is a state, each trigger and each raised event is an event, each function in an answer is a
-- function; the default of a component is one of its children; the initial number of a cell is of its type, which is that
-- of its input's name.
pub record WellScoped (s : Spec) : Type 0 where
  pub in_order : IsInOrder s
  pub sources : Each (λ t. IsState s t.source) (transitions s)
  pub triggers : Each (λ t. IsEvent s t.event) (transitions s)
  pub raises : Each (λ t. Each (IsEvent s) t.raises) (transitions s)
  pub receives : Each (λ r. IsEvent s r.raised) (receives s)
  pub send_triggers : Each (λ c. IsEvent s c.event) (send_cases s)
  pub answers : Each (λ c. AnswerIsScoped s (within c.send.index) c.answer) (send_cases s)
  pub defaults : Each (λ c. IsTrue (is_in c.default c.children)) (components s)
  pub initials : Each (λ c. IsTrue (is_of c.numbers c.initial)) (cells s)
  pub types : Each (λ c. c.numbers ≡ input_type (globals_of s) c.input.name) (cells s)
