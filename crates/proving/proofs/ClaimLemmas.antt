-- What claims are beside a specification, by what reading and judging them answered.
use Rattle.std.proofs.Common.{◌≡◌, ℕ, ◌≤◌, Bool, true, false, not, List, [], ◌∷◌, Option, Some, None, cond, length, Vec, Result, refl, sym, ap, ◌∙◌, subst, arith}
use Rattle.std.specs.Prelude.{IfOk}
use Rattle.std.specs.declared.alloc.Global.{Global}
use Rattle.std.proofs.lemmas.List.{length-map}
use Rattle.rsml_base.specs.declared.no_memory.NoMemory.{NoMemory}
use Rattle.rsml_syntax.specs.declared.edition.Edition.TheVariants as edition
use Rattle.rsml_syntax.specs.declared.syntax.Spec.{Spec}
use Rattle.rsml_syntax.specs.declared.token.Placed.{Placed}
use Rattle.rsml_syntax.specs.text.Lexing.{Fault, Lexes, LexFault, bare}
use Rattle.rsml_syntax.proofs.ScanLemmas.{lexes_tokens}
use Rattle.rsml_meaning.specs.EventLines.{Bytes}
use Rattle.rsml_meaning.specs.Words.{Each}
use Rattle.rsml_lexer.specs.Answers.{error_of}
use Rattle.rsml_lexer.specs.declared.fault.LexError.{LexError}
use Rattle.rsml_parser.specs.Laws.{AtMostOneSpecification}
use Rattle.rsml_parser.proofs.JoinLemmas.{joined_well_formed}
use Rattle.rsml_parser.specs.declared.error.ParseError.TheVariants as parse_errors
use Rattle.claim_syntax.specs.declared.claim.Claim.{Claim}
use Rattle.claim_syntax.specs.Joined.{joined}
use Rattle.claim_syntax.specs.OfStates.{is_of_states, IsOfStates, first_other}
use Rattle.claim_syntax.specs.Places.{IsClaimsFault}
use Rattle.ground_claims.specs.Checked.{AreChecked}
use Rattle.judging.specs.FaultLines as lines
use Rattle.judging.specs.Steps.{IsLexicalLine, IsParseLine}
use Rattle.judging.specs.Steps as steps
use Rattle.judging.specs.Texts.{IsTextOf, greatest_text}
use Rattle.judging.proofs.ShortLemmas.{short_text}
use Rattle.answering.specs.Lines as own
use Rattle.answering.specs.declared.status.Status.TheVariants as status
use Rattle.proving.specs.ClaimTexts.{AreOfText, AreUnread, AreKept, no_tokens, no_syntax}
use Rattle.proving.specs.Outputs as output
use Rattle.proving.specs.Steps.{AreJudged, TellsBroken, TellsOther}
use Rattle.proving.specs.declared.keeping.KeptClaims.{KeptClaims}
use Rattle.proving.specs.declared.keeping.KeptClaims.TheVariants as kept
use Rattle.proving.proofs.Growth.{joined_length}

-- where none asks for more than states, all ask for states alone
of_states : (cs : List Claim) → first_other cs ≡ None → Each IsOfStates cs
of_states [] h = tt
of_states (c ∷ cs) h = by (is_of_states c) refl h (of_states cs)
  where
    by : (b : Bool) → is_of_states c ≡ b → cond (not b) (Some c) (first_other cs) ≡ None → (first_other cs ≡ None → Each IsOfStates cs) → Each IsOfStates (c ∷ cs)
    by true e f rest = (e, rest f)
    by false e f rest = absurd (let no : ⊥ = cc in no)

-- The text of claims.

-- no tokens
pub lexical_unread : (text : Bytes) (error : LexError) (line : Bytes) → length text ≤ greatest_text → ((f : Fault) → error ≡ error_of f → LexFault edition.Second text f)
    → IsLexicalLine error line → AreUnread text line
lexical_unread text error line short faults is = no_tokens is.fault short (faults is.fault is.named) is.told

-- tokens of no claims
pub syntax_unread : (text : Bytes) (ts : List Placed) (place : ℕ) (line : Bytes) → length text ≤ greatest_text → Lexes edition.Second text ts → IsClaimsFault (bare ts) place
    → IsParseLine (parse_errors.Syntax place) line → AreUnread text line
syntax_unread text ts place line short lexes fault (steps.IsParseLine.syntax at e is) =
    let same : at ≡ place = cc in no_syntax ts place short lexes fault (is ∙ ap lines.syntax same)
syntax_unread text ts place line short lexes fault (steps.IsParseLine.depth at e is) = absurd (let no : ⊥ = cc in no)

-- The joined specification.

-- it is that of the specification that the text reads as, which is one
pub broken_of : AtMostOneSpecification → (text : Bytes) (r s : Spec) (cs : List Claim) (x : Result (Option (Vec ℕ Global)) NoMemory) → IsTextOf text r → IsTextOf text s
    → IfOk x (TellsBroken (joined r cs)) → IfOk x (TellsBroken (joined s cs))
broken_of one text r s cs x t u h = subst (λ (q : Spec). IfOk x (TellsBroken (joined q cs))) (one text r s t.reads u.reads) h

-- What claims come to, by what was found of them.
module _ (s : Spec) (text : Bytes) (cs ds : List Claim) (other : Option (Vec ℕ Global)) (same : ds ≡ cs) (tells : TellsOther ds other) (are : AreOfText text cs) where
  pub other_judged : (line : Vec ℕ Global) (k : KeptClaims) → other ≡ Some line → k ≡ kept.Unfit status.SpecFault line → AreJudged s text k
  other_judged line k e is =
      let told = subst (λ (l : List Claim). TellsOther l (Some line)) same (subst (TellsOther ds) e tells) in
      subst (AreJudged s text) (sym is) (output.other cs told.0 are told.1 refl told.2)

  all_of_states : other ≡ None → Each IsOfStates cs
  all_of_states e = of_states cs (subst (λ (l : List Claim). TellsOther l None) same (subst (TellsOther ds) e tells))

  module _ (none : other ≡ None) (found : Option (Vec ℕ Global)) (broken : TellsBroken (joined s cs) found) where
    pub broken_judged : (line : Vec ℕ Global) (k : KeptClaims) → found ≡ Some line → k ≡ kept.Unfit status.SpecFault line → AreJudged s text k
    broken_judged line k e is =
        let told = subst (TellsBroken (joined s cs)) e broken in
        subst (AreJudged s text) (sym is) (output.ClaimsFault.broken cs (record { of_text = are; of_states = all_of_states none }) told refl)

    pub kept_judged : (v : Vec Claim Global) → found ≡ None → v.items ≡ cs → AreKept s text v.items
    kept_judged v e again =
        subst (AreKept s text) (sym again)
        (record { claims = record { of_text = are; of_states = all_of_states none }; joined = subst (TellsBroken (joined s cs)) e broken })

-- claims that are kept are checked beside the specification of a text
pub checked_of : (text claims : Bytes) (s : Spec) (cs : List Claim) → IsTextOf text s → AreKept s claims cs → AreChecked s cs
checked_of text claims s cs t k =
    let read = k.claims.of_text in
    let own = short_text text s t in
    let few = (lexes_tokens edition.Second claims read.tokens read.lexes).1 in
    let same = ap (λ ts. length ts) read.are.tokens in
    let long = length-map read.tokens (λ (p : Placed). p.token) in
    let short = read.short in
    let all = joined_length s cs in
    let words = (lexes_tokens edition.Second text t.reads.0 t.reads.1).1 in
    let these = ap (λ ts. length ts) t.reads.2.tokens in
    let wide = length-map t.reads.0 (λ (p : Placed). p.token) in
    let small = t.short in
    record {
      of_states = k.claims.of_states;
      checked = record { well_formed = joined_well_formed s cs t.reads.2.well_formed read.are.well_formed; keeps = k.joined };
      short = omega (arith, few, same, long, short, all, words, these, wide, small);
    }
