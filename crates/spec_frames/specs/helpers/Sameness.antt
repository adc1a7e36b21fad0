-- How declarations and bodies are compared without their guards.
use Rattle.std.specs.Prelude.{Bool, true, false, not, ◌&&◌, List, Option, filter}
use Rattle.std.specs.Option.{option_eq}
use Rattle.std.specs.Cmp.Lexicographic.{pointwise}
use Rattle.rsml_syntax.specs.declared.syntax.Spec.{Spec}
use Rattle.rsml_syntax.specs.declared.syntax.Decl.{Decl}
use Rattle.rsml_syntax.specs.declared.syntax.Decl.TheVariants as decl
use Rattle.rsml_syntax.specs.declared.syntax.Mention.{Mention}
use Rattle.rsml_syntax.specs.declared.syntax.Bus.{Bus}
use Rattle.rsml_syntax.specs.declared.syntax.Case.{Case}
use Rattle.rsml_syntax.specs.declared.syntax.SendCase.{SendCase}
use Rattle.rsml_syntax.specs.declared.syntax.Transition.{Transition}
use Rattle.rsml_syntax.specs.declared.syntax.StateDecl.{StateDecl}
use Rattle.rsml_syntax.specs.declared.syntax.Body.{Body, Basic, One', All', Row_of-StateDecl, end_of-StateDecl, more_of-StateDecl}
use Rattle.rsml_syntax.specs.contracts.syntax.SignedPartialEq.TheImpl as signed_eq
use Rattle.rsml_syntax.specs.contracts.syntax.AmountPartialEq.TheImpl as amount_eq
use Rattle.rsml_syntax.specs.contracts.syntax.InitialPartialEq.TheImpl as initial_eq
use Rattle.rsml_syntax.specs.contracts.syntax.MentionPartialEq.TheImpl as mention_eq
use Rattle.rsml_syntax.specs.contracts.syntax.AnswerPartialEq.TheImpl as answer_eq
use Rattle.rsml_syntax.specs.contracts.syntax.BusPartialEq.TheImpl as bus_eq
use Rattle.rsml_syntax.specs.contracts.syntax.SumPartialEq.TheImpl as sum_eq
use Rattle.rsml_syntax.specs.declared.syntax.Amount.{Amount}
use Rattle.rsml_syntax.specs.text.Names.{same}

abbrev pub same_mention : Mention → Mention → Bool
same_mention = (mention_eq.ghosts).eq

abbrev pub same_bus : Bus → Bus → Bool
same_bus = (bus_eq.ghosts).eq

abbrev pub same_size : Option Amount → Option Amount → Bool
same_size = option_eq (amount_eq.ghosts).eq

-- cases of functions have one value
abbrev pub same_case : Case → Case → Bool
same_case c d = (sum_eq.ghosts).eq c.value d.value

-- cases of sends have one trigger and one answer
abbrev pub same_send_case : SendCase → SendCase → Bool
same_send_case c d = same_mention c.trigger d.trigger && (answer_eq.ghosts).eq c.answer d.answer

-- transitions have one source, one target, one trigger, and raise the same
abbrev pub same_transition : Transition → Transition → Bool
same_transition t u = same t.source u.source && (option_eq (pointwise same) t.target u.target && (same_mention t.trigger u.trigger && pointwise same_mention t.raises u.raises))

-- declarations are the same but for guards
abbrev pub same_decl : Decl → Decl → Bool
same_decl (decl.Enumeration name values) (decl.Enumeration other others) = same name other && pointwise same values others
same_decl (decl.Range name low high) (decl.Range other from to) = same name other && ((signed_eq.ghosts).eq low from && (signed_eq.ghosts).eq high to)
same_decl (decl.Constant name value) (decl.Constant other number) = same name other && (signed_eq.ghosts).eq value number
same_decl (decl.Input name size kind initial) (decl.Input other many sort first) =
    same name other && (same_size size many && (same kind sort && (initial_eq.ghosts).eq initial first))
same_decl (decl.Event name size) (decl.Event other many) = same name other && same_size size many
same_decl (decl.Function name size cases) (decl.Function other many others) = same name other && (same_size size many && pointwise same_case cases others)
same_decl (decl.Receive name size inputs raised) (decl.Receive other many others event) =
    same name other && (same_size size many && (pointwise same_mention inputs others && same_mention raised event))
same_decl (decl.Send name size fields cases) (decl.Send other many names others) =
    same name other && (same_size size many && (pointwise same fields names && pointwise same_send_case cases others))
same_decl _ _ = false

-- the declaration is of a macro
abbrev pub is_macro : Decl → Bool
is_macro (decl.Macro _ _ _) = true
is_macro _ = false

-- the declarations that are of no macros
abbrev pub kept : List Decl → List Decl
kept ds = filter (λ d. not (is_macro d)) ds

abbrev mutual
  -- bodies are the same but for guards
  pub same_body : Body → Body → Bool
  same_body Basic Basic = true
  same_body (One' first _ children buses transitions) (One' other _ others groups moves) =
      same first other && (pointwise same_bus buses groups && (pointwise same_transition transitions moves && same_row children others))
  same_body (All' _ children) (All' _ others) = same_row children others
  same_body _ _ = false

  -- rows of children are the same but for guards
  pub same_row : {m n : _} → Row_of-StateDecl m → Row_of-StateDecl n → Bool
  same_row end_of-StateDecl end_of-StateDecl = true
  same_row (more_of-StateDecl name size body others) (more_of-StateDecl other many inside more) =
      (same name other && (same_size size many && same_body body inside)) && same_row others more
  same_row _ _ = false

-- children are the same but for guards
abbrev pub same_child : StateDecl → StateDecl → Bool
same_child c d = same c.name d.name && (same_size c.size d.size && same_body c.body d.body)

-- specifications are the same but for names, macros and guards
abbrev pub same_spec : Spec → Spec → Bool
same_spec s t = same s.top t.top && (pointwise same_decl (kept s.decls) (kept t.decls) && same_body s.body t.body)
