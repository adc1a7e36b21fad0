-- Whether `this` stands in what a case of a send says. Where it does not, that is the same in all instances.
use Rattle.std.specs.Prelude.{Bool, true, false, ◌||◌, Option, Some, None}
use Rattle.std.specs.List.{list_any}
use Rattle.rsml_syntax.specs.declared.syntax.Index.{Index}
use Rattle.rsml_syntax.specs.declared.syntax.Index.TheVariants as index
use Rattle.rsml_syntax.specs.declared.syntax.Mention.{Mention}
use Rattle.rsml_syntax.specs.declared.syntax.Operand.{Operand}
use Rattle.rsml_syntax.specs.declared.syntax.Operand.TheVariants as operands
use Rattle.rsml_syntax.specs.declared.syntax.Sum.{Sum}
use Rattle.rsml_syntax.specs.declared.syntax.Simple.{Simple}
use Rattle.rsml_syntax.specs.declared.syntax.Simple.TheVariants as simples
use Rattle.rsml_syntax.specs.declared.syntax.Guard.{Guard}
use Rattle.rsml_syntax.specs.declared.syntax.Guard.TheVariants as guards
use Rattle.rsml_syntax.specs.declared.syntax.Value.{Value}
use Rattle.rsml_syntax.specs.declared.syntax.Value.TheVariants as values
use Rattle.rsml_syntax.specs.declared.syntax.Answer.{Answer}
use Rattle.rsml_syntax.specs.declared.syntax.Answer.TheVariants as answers
use Rattle.rsml_syntax.specs.declared.syntax.SendCase.{SendCase}
use Rattle.rsml_syntax.specs.grammar.Written.{simple_of}

-- it is an index
abbrev pub is_this : Option Index → Bool
is_this None = false
is_this (Some (index.Number n)) = false
is_this (Some (index.Name name)) = false
is_this (Some index.This) = true

-- it is the index of a mention
abbrev pub mention_has_this : Mention → Bool
mention_has_this m = is_this m.index

-- it stands in an operand
abbrev pub operand_has_this : Operand → Bool
operand_has_this (operands.Number n) = false
operand_has_this (operands.Mention m) = mention_has_this m
operand_has_this (operands.Previous m) = mention_has_this m

-- in a sum
abbrev pub sum_has_this : Sum → Bool
sum_has_this x = list_any (λ t. operand_has_this t.operand) x.terms

-- in what a phrase says
abbrev pub simple_has_this : Simple → Bool
simple_has_this (simples.In path) = list_any mention_has_this path
simple_has_this (simples.Macro m) = mention_has_this m
simple_has_this (simples.Compare left relation right) = sum_has_this left || sum_has_this right
simple_has_this (simples.Function f relation right) = mention_has_this f || sum_has_this right

-- in a guard
abbrev pub guard_has_this : Guard → Bool
guard_has_this guards.Always = false
guard_has_this (guards.Table rows) = list_any (λ row. simple_has_this (simple_of row.phrase)) rows

-- in a value
abbrev pub value_has_this : Value → Bool
value_has_this (values.Sum x) = sum_has_this x
value_has_this (values.Function f) = mention_has_this f

-- in an answer
abbrev pub answer_has_this : Answer → Bool
answer_has_this answers.Quiet = false
answer_has_this (answers.Values xs) = list_any value_has_this xs

-- in a case of a send
abbrev pub case_has_this : SendCase → Bool
case_has_this c = mention_has_this c.trigger || (guard_has_this c.guard || answer_has_this c.answer)
