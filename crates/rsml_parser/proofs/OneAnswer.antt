-- Each list of tokens has one answer that is true of it: what reading gives.
use Rattle.std.proofs.Common.{◌≡◌, true, false, Result, Ok, Err, refl, sym}
use Rattle.rsml_syntax.specs.declared.syntax.Spec.{Spec}
use Rattle.rsml_syntax.specs.text.Tokens.{Tokens}
use Rattle.rsml_parser.specs.Answers.{answer, room}
use Rattle.rsml_parser.specs.Laws.{IsTrueAnswer, HasOneAnswer}
use Rattle.rsml_parser.specs.Parsers.{Outcome}
use Rattle.rsml_parser.specs.States.{whole}
use Rattle.rsml_parser.specs.declared.error.ParseError.{ParseError}
use Rattle.rsml_parser.specs.declared.error.ParseError.TheVariants as errors
use Rattle.rsml_parser.proofs.AnswerLemmas.{reads_tokens, syntax_fault, depth_place, answers_only, answers_syntax_only, answers_deep_only}
use Rattle.rsml_parser.proofs.Forms.{Fit}

is_true : (ts : Tokens) → Fit ts → (o : Outcome Spec) → whole room ts ≡ o → IsTrueAnswer ts (answer ts o)
is_true ts fit (Ok p) e = reads_tokens ts p.0 p.1 fit e
is_true ts fit (Err (false, left)) e = syntax_fault ts left fit e
is_true ts fit (Err (true, left)) e = depth_place ts left fit e

no_memory : (ts : Tokens) (o : Outcome Spec) → answer ts o ≡ Err errors.NoMemory → ⊥
no_memory ts (Ok p) h = cc
no_memory ts (Err (false, left)) h = cc
no_memory ts (Err (true, left)) h = cc

pub has_one_answer : HasOneAnswer
has_one_answer ts fit = (answer ts (whole room ts), is_true ts fit (whole room ts) refl, only)
  where
    memory : answer ts (whole room ts) ≡ Err errors.NoMemory → ⊥
    memory h = no_memory ts (whole room ts) h

    only : (other : Result Spec ParseError) → IsTrueAnswer ts other → other ≡ answer ts (whole room ts)
    only (Ok s) is = sym (answers_only ts fit (answer ts (whole room ts)) (λ _. refl) s is memory)
    only (Err (errors.Syntax place)) is = sym (answers_syntax_only ts fit (answer ts (whole room ts)) (λ _. refl) place is memory)
    only (Err (errors.TooDeep place)) is = sym (answers_deep_only ts fit (answer ts (whole room ts)) (λ _. refl) place is memory)
    only (Err errors.NoMemory) is = absurd is
