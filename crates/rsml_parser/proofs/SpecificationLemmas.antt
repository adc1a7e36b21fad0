-- Texts and specifications tell each other.
use Rattle.std.proofs.Common.{◌≡◌, ℕ, suc, ◌+◌, ◌≤◌, List, [], sym, ap, ◌∙◌, arith}
use Rattle.rsml_syntax.specs.grammar.Grammar.{tokens_of}
use Rattle.rsml_syntax.specs.grammar.Layout.{layout}
use Rattle.rsml_syntax.specs.text.Lexing.{bare}
use Rattle.rsml_syntax.specs.grammar.Places.{Reads}
use Rattle.rsml_syntax.specs.grammar.WellFormed.{WellFormed, nests, deepest}
use Rattle.rsml_syntax.specs.declared.edition.Edition.TheVariants as editions
use Rattle.rsml_syntax.specs.declared.syntax.Spec.{Spec}
use Rattle.rsml_syntax.proofs.LayoutLemmas.{layout_lexes}
use Rattle.rsml_syntax.proofs.ScanLemmas.{lexes_once}
use Rattle.rsml_parser.specs.States.{whole}
use Rattle.rsml_parser.proofs.AnswerLemmas.{good_of}
use Rattle.rsml_parser.proofs.Outcomes.{same_ok}
use Rattle.rsml_parser.proofs.SpecificationForms.{whole_again}

-- its tokens tell a specification
pub tokens_tell : (s t : Spec) → WellFormed s → WellFormed t → tokens_of s ≡ tokens_of t → s ≡ t
tokens_tell s t one two h =
    let more = nests s + nests t in
    let first = whole_again more s (good_of (suc more) s one (omega arith)) in
    let second = whole_again more t (good_of (suc more) t two (omega arith)) in
    (same_ok s t [] [] (sym first ∙ ap (whole more) h ∙ second)).0

pub reads_once : (bytes : List ℕ) (s t : Spec) → Reads bytes s → Reads bytes t → s ≡ t
reads_once bytes s t one two =
    let same = lexes_once editions.Second bytes one.0 two.0 one.1 two.1 in
    tokens_tell s t one.2.well_formed two.2.well_formed (one.2.tokens ∙ ap bare same ∙ sym two.2.tokens)

pub layout_reads : (s : Spec) → WellFormed s → nests s ≤ deepest → Reads (layout (tokens_of s)) s
layout_reads s is le =
    let lexed = layout_lexes editions.Second (tokens_of s) is.tokens in
    (lexed.0, lexed.1, record { well_formed = is; depth = le; tokens = sym lexed.2 })
