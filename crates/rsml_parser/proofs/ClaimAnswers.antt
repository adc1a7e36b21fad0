-- Reading claims answers as the definitions ask: claims, or the place of the fault.
use Rattle.std.proofs.Common.{◌≡◌, inl, inr, ℕ, ◌+◌, true, false, List, [], ◌∷◌, ◌++◌, length, Result, Ok, Err, Vec, append-nil, append_assoc, refl, sym, ap, subst, ◌∙◌}
use Rattle.std.specs.Prelude.{IfOk}
use Rattle.std.specs.declared.alloc.Global.{Global}
use Rattle.rsml_syntax.specs.text.Tokens.{Tokens}
use Rattle.rsml_syntax.specs.declared.token.Token.{Token}
use Rattle.claim_syntax.specs.declared.claim.Claim.{Claim}
use Rattle.claim_syntax.specs.Grammar.{AreWellFormed, AreClaimsOf}
use Rattle.claim_syntax.specs.Places.{BeginClaims, ClaimsStopAt, IsClaimsFault}
use Rattle.rsml_parser.specs.Answers.{token_place}
use Rattle.rsml_parser.specs.Claims.{whole_claims, claims_answer, AnswersClaims}
use Rattle.rsml_parser.specs.Parsers.{Outcome}
use Rattle.rsml_parser.specs.declared.claims.ClaimsError.{ClaimsError}
use Rattle.rsml_parser.specs.declared.claims.ClaimsError.TheVariants as errors
use Rattle.rsml_parser.proofs.AnswerLemmas.{fit_front, fit_both, place_is}
use Rattle.rsml_parser.proofs.Braces.{none_deep}
use Rattle.rsml_parser.proofs.ClaimForms.{form_claims, claims_again, reads_all}
use Rattle.rsml_parser.proofs.Forms.{Fit}
use Rattle.rsml_parser.proofs.Outcomes.{not_both}
use Rattle.rsml_parser.proofs.PlaceLemmas.{cut_again}

-- What reading gives, in the words of the definitions.

reads_claims : (ts : Tokens) (cs : List Claim) (left : Tokens) → Fit ts → whole_claims ts ≡ Ok (cs, left) → AreClaimsOf ts cs
reads_claims ts cs left fit h =
    let none = reads_all ts cs left h in
    let is = form_claims.takes false ts cs [] (h ∙ ap (λ (l : Tokens). Ok (cs, l)) none) in
    record { well_formed = record { tokens = subst Fit is.0 fit; items = is.1 }; tokens = sym is.0 }

reads_again : (ts : Tokens) (cs : List Claim) → AreClaimsOf ts cs → whole_claims ts ≡ Ok (cs, [])
reads_again ts cs is = ap whole_claims (sym is.tokens) ∙ claims_again cs is.well_formed.items

-- what comes before a fault begins claims
front_begins : (ts left : Tokens) → Fit ts → whole_claims ts ≡ Err (false, left) → (front : Tokens) × (ts ≡ front ++ left) × BeginClaims front
front_begins ts left fit h =
    let b = form_claims.begins false ts (false, left) h in
    let u = b.1 [] refl in
    let front = fit_front u.shares.front left (subst Fit u.shares.have fit) in
    let is : AreWellFormed b.0 = record { tokens = subst Fit (sym u.shares.given ∙ u.spelled.0) (fit_both u.shares.front u.shares.tail front u.shares.fit); items = u.spelled.1 } in
    (u.shares.front, u.shares.have, (b.0, u.shares.tail, record { well_formed = is; tokens = sym u.spelled.0 ∙ u.shares.given }))

stops : (ts front left : Tokens) → ts ≡ front ++ left → whole_claims ts ≡ Err (false, left) → ClaimsStopAt front left
stops ts front [] e h = λ cs is.
    not_both (whole_claims ts) (cs, []) (false, []) (reads_again ts cs (subst (λ (l : Tokens). AreClaimsOf l cs) (sym (append-nil front) ∙ sym e) is)) h
stops ts front (t ∷ a) e h = λ c. let us = (front ++ t ∷ []) ++ c.1 in
    not_both (whole_claims us) (c.0, []) (false, t ∷ c.1) (reads_again us c.0 c.2)
    (ap whole_claims (append_assoc front (t ∷ []) c.1) ∙ form_claims.fails front t a c.1 false [] (sym (ap whole_claims e) ∙ h))

fault_at : (ts left : Tokens) → Fit ts → whole_claims ts ≡ Err (false, left) → IsClaimsFault ts (token_place ts left)
fault_at ts left fit h =
    let b = front_begins ts left fit h in
    record { before = b.0; rest = left; split = b.1; here = place_is ts b.0 left b.1; begin = b.2; stop = stops ts b.0 left b.1 h }

-- At most one place.

begins_before : (f : Tokens) (t : Token) (m : Tokens) → BeginClaims (f ++ t ∷ m) → BeginClaims (f ++ t ∷ [])
begins_before f t m b = (b.0, m ++ b.1, subst (λ (l : Tokens). AreClaimsOf l b.0) (append_assoc f (t ∷ m) b.1 ∙ sym (append_assoc f (t ∷ []) (m ++ b.1))) b.2)

goes_on : (f r s : Tokens) (t : Token) (m : Tokens) → BeginClaims (f ++ t ∷ m) → ClaimsStopAt f r → r ≡ (t ∷ m) ++ s → ⊥
goes_on f r s t m begins stops e = subst (ClaimsStopAt f) e stops (begins_before f t m begins)

same_place : (f r g s : Tokens) → f ++ r ≡ g ++ s → BeginClaims f → BeginClaims g → ClaimsStopAt f r → ClaimsStopAt g s → f ≡ g
same_place f r g s h bf bg sf sg = elim (cut_again f r g s h) [
  | inl e ↦ nothing_more e.0 e.1 e.2
  | inr e ↦ absurd (goes_on g s r e.0 e.1 (subst BeginClaims e.2 bf) sg e.3)
]
  where
    nothing_more : (m : Tokens) → g ≡ f ++ m → r ≡ m ++ s → f ≡ g
    nothing_more [] e k = sym (e ∙ append-nil f)
    nothing_more (t ∷ m) e k = absurd (goes_on f r s t m (subst BeginClaims e bg) sf k)

one_place : (ts : Tokens) (a b : ℕ) → IsClaimsFault ts a → IsClaimsFault ts b → a ≡ b
one_place ts a b one two =
    one.here
    ∙ ap (λ (f : Tokens). length f + 1) (same_place one.before one.rest two.before two.rest (sym one.split ∙ two.split) one.begin two.begin one.stop two.stop)
    ∙ sym two.here

-- tokens that are claims have none
no_place : (ts : Tokens) (cs : List Claim) → AreClaimsOf ts cs → (place : ℕ) → IsClaimsFault ts place → ⊥
no_place ts cs is place p = at p.rest p.split p.stop
  where
    at : (r : Tokens) → ts ≡ p.before ++ r → ClaimsStopAt p.before r → ⊥
    at [] e stop = stop cs (subst (λ (l : Tokens). AreClaimsOf l cs) (e ∙ append-nil p.before) is)
    at (t ∷ r) e stop = stop (cs, r, subst (λ (l : Tokens). AreClaimsOf l cs) (e ∙ sym (append_assoc p.before (t ∷ []) r)) is)

-- What is answered.

module _ (ts : Tokens) (fit : Fit ts) (result : Result (Vec Claim Global) ClaimsError) (is : AnswersClaims result (claims_answer ts (whole_claims ts))) where
  pub answers_ok : IfOk result (λ v. AreClaimsOf ts v.items)
  answers_ok = at result is
    where
      read : (o : Outcome (List Claim)) (cs : List Claim) → whole_claims ts ≡ o → claims_answer ts o ≡ Ok cs → AreClaimsOf ts cs
      read (Ok p) cs e a = subst (AreClaimsOf ts) (let same : p.0 ≡ cs = cc in same) (reads_claims ts p.0 p.1 fit e)
      read (Err s) cs e a = absurd cc

      at : (r : Result (Vec Claim Global) ClaimsError) → AnswersClaims r (claims_answer ts (whole_claims ts)) → IfOk r (λ v. AreClaimsOf ts v.items)
      at (Ok v) is = read (whole_claims ts) v.items refl is
      at (Err e) is = tt

  pub answers_only : (cs : List Claim) → AreClaimsOf ts cs → AnswersClaims result (Ok cs)
  answers_only cs tokens = subst (AnswersClaims result) (ap (claims_answer ts) (reads_again ts cs tokens)) is

  pub answers_syntax : (place : ℕ) → result ≡ Err (errors.Syntax place) → IsClaimsFault ts place
  answers_syntax place h = read (whole_claims ts) refl (subst (λ (r : Result (Vec Claim Global) ClaimsError). AnswersClaims r (claims_answer ts (whole_claims ts))) h is)
    where
      read : (o : Outcome (List Claim)) → whole_claims ts ≡ o → claims_answer ts o ≡ Err (errors.Syntax place) → IsClaimsFault ts place
      read (Ok p) e a = absurd cc
      read (Err (true, left)) e a = absurd (none_deep ts left e)
      read (Err (false, left)) e a = subst (IsClaimsFault ts) (let same : token_place ts left ≡ place = cc in same) (fault_at ts left fit e)

  pub answers_syntax_only : (place : ℕ) → IsClaimsFault ts place → AnswersClaims result (Err (errors.Syntax place))
  answers_syntax_only place fault = subst (AnswersClaims result) (read (whole_claims ts) refl) is
    where
      read : (o : Outcome (List Claim)) → whole_claims ts ≡ o → claims_answer ts o ≡ Err (errors.Syntax place)
      read (Ok p) e = absurd (no_place ts p.0 (reads_claims ts p.0 p.1 fit e) place fault)
      read (Err (true, left)) e = absurd (none_deep ts left e)
      read (Err (false, left)) e = ap (λ (n : ℕ). Err (errors.Syntax n)) (one_place ts (token_place ts left) place (fault_at ts left fit e) fault)
