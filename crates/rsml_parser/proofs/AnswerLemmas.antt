-- Reading answers as the definitions ask: a specification, or the place of the fault.
use Rattle.std.proofs.Common.{◌≡◌, ℕ, suc, ◌+◌, ◌≤◌, true, false, [], ◌∷◌, ◌++◌, length, length-append, Result, Ok, Err, append-nil, append_assoc, refl, sym, ap, subst, ◌∙◌, arith}
use Rattle.std.specs.Prelude.{nat_le, IsTrue, IfOk}
use Rattle.std.specs.List.{list_all}
use Rattle.std.proofs.lemmas.Bool.{leb-true, le-leb}
use Rattle.rsml_syntax.specs.grammar.Grammar.{tokens_of}
use Rattle.rsml_syntax.specs.grammar.Places.{IsTokensOf, Begins, BeginsWithin, StopsAt, IsDepthPlace, IsSyntaxFault}
use Rattle.rsml_syntax.specs.text.Tokens.{Tokens}
use Rattle.rsml_syntax.specs.grammar.WellFormed.{WellFormed, declaration_has_items, body_has_items, depth_of, nests}
use Rattle.rsml_syntax.specs.declared.syntax.Spec.{Spec}
use Rattle.rsml_syntax.specs.declared.token.Token.{Token}
use Rattle.rsml_parser.specs.Answers.{Answers, answer, token_place, room}
use Rattle.rsml_parser.specs.Parsers.{Stop, Outcome}
use Rattle.rsml_parser.specs.States.{whole}
use Rattle.rsml_parser.specs.declared.error.ParseError.{ParseError}
use Rattle.rsml_parser.specs.declared.error.ParseError.TheVariants as errors
use Rattle.rsml_parser.proofs.BodyLists.{good_body}
use Rattle.rsml_parser.proofs.Deeper.{deeper}
use Rattle.rsml_parser.proofs.Forms.{Fit}
use Rattle.rsml_parser.proofs.Outcomes.{not_both, cancel}
use Rattle.rsml_parser.proofs.PlaceLemmas.{within, one_syntax_place, one_depth_place, no_depth_place, no_syntax_place_of, no_depth_place_of}
use Rattle.rsml_parser.proofs.Spelling.{both, halves}
use Rattle.rsml_parser.proofs.SpecificationForms.{good_spec, form_whole, reads_all, whole_again}

pub fit_front : (a b : Tokens) → Fit (a ++ b) → Fit a
fit_front [] b fit = refl
fit_front (t ∷ a) b fit = (fit.0, fit_front a b fit.1)

pub fit_both : (a b : Tokens) → Fit a → Fit b → Fit (a ++ b)
fit_both [] b one two = two
fit_both (t ∷ a) b one two = (one.0, fit_both a b one.1 two)

well_formed : (most : ℕ) (s : Spec) → IsTrue (good_spec most s) → Fit (tokens_of s) → WellFormed s × (nests s ≤ most)
well_formed most s good fit =
    let is = halves (list_all declaration_has_items s.decls) (good_body most s.body) good in
    let b = halves (body_has_items s.body) (nat_le (depth_of s.body) most) is.1 in
    (record { tokens = fit; items = both (list_all declaration_has_items s.decls) (body_has_items s.body) is.0 b.0 }, leb-true (depth_of s.body) most b.1)

pub good_of : (most : ℕ) (s : Spec) → WellFormed s → nests s ≤ most → IsTrue (good_spec most s)
good_of most s is le =
    let items = halves (list_all declaration_has_items s.decls) (body_has_items s.body) is.items in
    both (list_all declaration_has_items s.decls) (good_body most s.body) items.0 (both (body_has_items s.body) (nat_le (depth_of s.body) most) items.1 (le-leb (depth_of s.body) most le))

-- What reading gives, in the words of the definitions.

pub reads_tokens : (ts : Tokens) (s : Spec) (left : Tokens) → Fit ts → whole room ts ≡ Ok (s, left) → IsTokensOf ts s
reads_tokens ts s left fit h =
    let none = reads_all room ts s left h in
    let is = (form_whole room).takes false ts s [] (h ∙ ap (λ (l : Tokens). Ok (s, l)) none) in
    let good = well_formed 16 s is.1 (subst Fit is.0 fit) in
    record { well_formed = good.0; depth = good.1; tokens = sym is.0 }

pub reads_again : (ts : Tokens) (s : Spec) → IsTokensOf ts s → whole room ts ≡ Ok (s, [])
reads_again ts s is = ap (whole room) (sym is.tokens) ∙ whole_again room s (good_of 16 s is.well_formed is.depth)

-- what comes before a fault begins a specification
pub front_begins : (ts : Tokens) (s : Stop) → Fit ts → whole room ts ≡ Err s → (front : Tokens) × (ts ≡ front ++ s.1) × BeginsWithin front
front_begins ts s fit h =
    let b = (form_whole room).begins false ts s h in
    let u = b.1 [] refl in
    let front = fit_front u.shares.front s.1 (subst Fit u.shares.have fit) in
    let is = well_formed 16 b.0 u.spelled.1 (subst Fit (sym u.shares.given ∙ u.spelled.0) (fit_both u.shares.front u.shares.tail front u.shares.fit)) in
    (u.shares.front, u.shares.have, (b.0, u.shares.tail, is.0, is.1, sym u.spelled.0 ∙ u.shares.given))

-- and so it does with the token that opens a state too many
opening_begins : (ts front : Tokens) (t : Token) (a : Tokens) → Fit ts → ts ≡ front ++ t ∷ a → whole room ts ≡ Err (true, t ∷ a) → Begins (front ++ t ∷ [])
opening_begins ts front t a fit e h =
    let b = (form_whole room).begins true ts (true, t ∷ a) h in
    let u = b.1 [] refl in
    let same : u.shares.front ≡ front ++ t ∷ [] = cancel u.shares.front (front ++ t ∷ []) a (sym u.shares.have ∙ e ∙ sym (append_assoc front (t ∷ []) a)) in
    let shared = fit_front u.shares.front a (subst Fit u.shares.have fit) in
    let is = well_formed 17 b.0 u.spelled.1 (subst Fit (sym u.shares.given ∙ u.spelled.0) (fit_both u.shares.front u.shares.tail shared u.shares.fit)) in
    (b.0, u.shares.tail, is.0, sym u.spelled.0 ∙ u.shares.given ∙ ap (λ l. l ++ u.shares.tail) same)

-- the tokens of a well-formed specification have no fault of syntax
no_fault : (s : Spec) (stop : Tokens) → WellFormed s → whole room (tokens_of s) ≡ Err (false, stop) → ⊥
no_fault s stop is h =
    let more = room + nests s in
    not_both (whole more (tokens_of s)) (s, []) (false, stop) (whole_again more s (good_of (suc more) s is (omega arith))) ((deeper room more (omega arith)).err (tokens_of s) stop h)

stops : (ts front left : Tokens) → ts ≡ front ++ left → whole room ts ≡ Err (false, left) → StopsAt front left
stops ts front [] e h = λ s is same. no_fault s [] is (ap (whole room) (same ∙ sym (append-nil front) ∙ sym e) ∙ h)
stops ts front (t ∷ a) e h = λ c.
    no_fault c.0 (t ∷ c.1) c.2 (ap (whole room) (c.3 ∙ append_assoc front (t ∷ []) c.1) ∙ (form_whole room).fails front t a c.1 false [] (sym (ap (whole room) e) ∙ h))

pub not_within : (ts front : Tokens) (t : Token) (a : Tokens) → ts ≡ front ++ t ∷ a → whole room ts ≡ Err (true, t ∷ a) → BeginsWithin (front ++ t ∷ []) → ⊥
not_within ts front t a e h c =
    not_both (whole room (tokens_of c.0)) (c.0, []) (true, t ∷ c.1) (whole_again room c.0 (good_of 16 c.0 c.2 c.3))
    (ap (whole room) (c.4 ∙ append_assoc front (t ∷ []) c.1) ∙ (form_whole room).fails front t a c.1 true [] (sym (ap (whole room) e) ∙ h))

pub place_is : (ts front left : Tokens) → ts ≡ front ++ left → token_place ts left ≡ length front + 1
place_is ts front left e = let n = ap length e in let m = length-append front left in omega (arith, n, m)

pub syntax_fault : (ts left : Tokens) → Fit ts → whole room ts ≡ Err (false, left) → IsSyntaxFault ts (token_place ts left)
syntax_fault ts left fit h =
    let b = front_begins ts (false, left) fit h in
    let s = stops ts b.0 left b.1 h in
    record {
      syntax = record { before = b.0; rest = left; split = b.1; here = place_is ts b.0 left b.1; begins = within b.0 b.2; stops = s };
      not_deep = no_depth_place ts b.0 left b.1 b.2 s;
    }

pub depth_place : (ts left : Tokens) → Fit ts → whole room ts ≡ Err (true, left) → IsDepthPlace ts (token_place ts left)
depth_place ts [] fit h = absurd ((form_whole room).opens ts h)
depth_place ts (t ∷ a) fit h =
    let b = front_begins ts (true, t ∷ a) fit h in
    record {
      before = b.0;
      token = t;
      rest = a;
      split = b.1;
      here = place_is ts b.0 (t ∷ a) b.1;
      within = b.2;
      begins = opening_begins ts b.0 t a fit b.1 h;
      too_deep = not_within ts b.0 t a b.1 h;
    }

-- What is answered.

module _ (ts : Tokens) (fit : Fit ts) (result : Result Spec ParseError) (is : Answers result (answer ts (whole room ts))) where
  pub answers_ok : IfOk result (λ s. IsTokensOf ts s)
  answers_ok = at result is
    where
      read : (o : Outcome Spec) (s : Spec) → whole room ts ≡ o → (let r : Result Spec ParseError = Ok s in r) ≡ answer ts o → IsTokensOf ts s
      read (Ok p) s e a = subst (IsTokensOf ts) (let same : p.0 ≡ s = cc in same) (reads_tokens ts p.0 p.1 fit e)
      read (Err (true, left)) s e a = absurd cc
      read (Err (false, left)) s e a = absurd cc

      at : (r : Result Spec ParseError) → Answers r (answer ts (whole room ts)) → IfOk r (λ s. IsTokensOf ts s)
      at (Ok s) is = read (whole room ts) s refl (is (λ h. cc))
      at (Err e) is = tt

  pub answers_only : (s : Spec) → IsTokensOf ts s → Answers result (Ok s)
  answers_only s tokens memory = is memory ∙ ap (answer ts) (reads_again ts s tokens)

  pub answers_syntax : (place : ℕ) → result ≡ Err (errors.Syntax place) → IsSyntaxFault ts place
  answers_syntax place h = read (whole room ts) refl (sym h ∙ is (λ n. cc))
    where
      read : (o : Outcome Spec) → whole room ts ≡ o → Err (errors.Syntax place) ≡ answer ts o → IsSyntaxFault ts place
      read (Ok p) e a = absurd cc
      read (Err (true, left)) e a = absurd cc
      read (Err (false, left)) e a = subst (IsSyntaxFault ts) (let same : token_place ts left ≡ place = cc in same) (syntax_fault ts left fit e)

  pub answers_deep : (place : ℕ) → result ≡ Err (errors.TooDeep place) → IsDepthPlace ts place
  answers_deep place h = read (whole room ts) refl (sym h ∙ is (λ n. cc))
    where
      read : (o : Outcome Spec) → whole room ts ≡ o → Err (errors.TooDeep place) ≡ answer ts o → IsDepthPlace ts place
      read (Ok p) e a = absurd cc
      read (Err (false, left)) e a = absurd cc
      read (Err (true, left)) e a = subst (IsDepthPlace ts) (let same : token_place ts left ≡ place = cc in same) (depth_place ts left fit e)

  pub answers_syntax_only : (place : ℕ) → IsSyntaxFault ts place → Answers result (Err (errors.Syntax place))
  answers_syntax_only place fault memory = is memory ∙ read (whole room ts) refl
    where
      read : (o : Outcome Spec) → whole room ts ≡ o → answer ts o ≡ Err (errors.Syntax place)
      read (Ok p) e = absurd (no_syntax_place_of ts p.0 (reads_tokens ts p.0 p.1 fit e) place fault.syntax)
      read (Err (true, left)) e = absurd (fault.not_deep (token_place ts left) (depth_place ts left fit e))
      read (Err (false, left)) e = ap (λ (n : ℕ). Err (errors.Syntax n)) (one_syntax_place ts (token_place ts left) place (syntax_fault ts left fit e).syntax fault.syntax)

  pub answers_deep_only : (place : ℕ) → IsDepthPlace ts place → Answers result (Err (errors.TooDeep place))
  answers_deep_only place depth memory = is memory ∙ read (whole room ts) refl
    where
      read : (o : Outcome Spec) → whole room ts ≡ o → answer ts o ≡ Err (errors.TooDeep place)
      read (Ok p) e = absurd (no_depth_place_of ts p.0 (reads_tokens ts p.0 p.1 fit e) place depth)
      read (Err (false, left)) e = absurd ((syntax_fault ts left fit e).not_deep place depth)
      read (Err (true, left)) e = ap (λ (n : ℕ). Err (errors.TooDeep n)) (one_depth_place ts (token_place ts left) place (depth_place ts left fit e) depth)
