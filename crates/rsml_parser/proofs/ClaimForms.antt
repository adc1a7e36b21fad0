-- The laws of reading claims.
use Rattle.std.proofs.Common.{◌≡◌, ◌≤◌, Bool, List, [], ◌∷◌, length, length-append, Ok, Err, refl, sym, ap, ◌∙◌, arith}
use Rattle.std.specs.Prelude.{IsTrue, ⊤}
use Rattle.std.specs.List.{list_all}
use Rattle.rsml_syntax.specs.grammar.Grammar as grammar
use Rattle.rsml_syntax.specs.grammar.Layout.{is_the_word}
use Rattle.rsml_syntax.specs.text.Tokens.{Tokens}
use Rattle.rsml_syntax.specs.declared.token.Word.TheVariants as words
use Rattle.claim_syntax.specs.declared.claim.Claim.{Claim}
use Rattle.claim_syntax.specs.Grammar as put
use Rattle.claim_syntax.specs.Grammar.{claims_tokens, claim_has_items}
use Rattle.rsml_parser.specs.Claims.{claim, claims, whole_claims}
use Rattle.rsml_parser.specs.Parsers.{◌>>=◌, and_then, pure, word, name, end}
use Rattle.rsml_parser.proofs.Forms.{form_bind, form_pure, form_as, left_at_fault}
use Rattle.rsml_parser.proofs.Leaves.{form_name}
use Rattle.rsml_parser.proofs.Lists.{item_word, item_as, form_end}
use Rattle.rsml_parser.proofs.Outcomes.{same_ok, bind_ok}
use Rattle.rsml_parser.proofs.SpelledLists.{many_again}
use Rattle.rsml_parser.proofs.Spelling.{Reads, ReadsItem, reads_many}
use Rattle.rsml_parser.proofs.TableForms.{form_table, table_again}

item_claim : ReadsItem claim put.claim claim_has_items
item_claim = item_as (item_word words.Macro (λ _. form_bind form_name (λ n. form_bind form_table (λ rows. form_pure (record { name = n; rows = rows })))))
    (λ k x rest us s. let t = s.later.later in rw (s.before, s.later.before, t.before.0, t.later.1, t.later.0) (refl, t.before.1))

claim_again : (c : Claim) (rest : Tokens) → IsTrue (claim_has_items c) → claim (put.claim c rest) ≡ Ok (c, rest)
unfolding and_then word name
claim_again c rest good = rw (table_again c.rows rest good) refl

pub form_each : Reads claims (grammar.each put.claim) (list_all claim_has_items)
form_each = reads_many (is_the_word words.Macro) item_claim

pub each_again : (cs : List Claim) → IsTrue (list_all claim_has_items cs) → claims (claims_tokens cs) ≡ Ok (cs, [])
each_again cs good = many_again (is_the_word words.Macro) claim put.claim claim_has_items (λ _. ⊤) (λ c r is _. claim_again c r is) (λ c r _. refl) (λ _ _ _. tt) item_claim.shrinks cs [] good tt refl

pub form_claims : Reads whole_claims (grammar.each put.claim) (list_all claim_has_items)
unfolding whole_claims
form_claims = form_as (form_bind form_each (λ cs. form_bind form_end (λ _. form_pure cs)))
    (λ k x rest us s. rw (s.before.0, s.later.before, s.later.later.1, s.later.later.0) (refl, s.before.1))

pub claims_again : (cs : List Claim) → IsTrue (list_all claim_has_items cs) → whole_claims (claims_tokens cs) ≡ Ok (cs, [])
unfolding whole_claims and_then end
claims_again cs good = rw (each_again cs good) refl

-- nothing is left after claims
pub reads_all : (ts : Tokens) (cs : List Claim) (rest : Tokens) → whole_claims ts ≡ Ok (cs, rest) → rest ≡ []
unfolding whole_claims end
reads_all ts cs rest h =
    let one = bind_ok (claims ts) (λ cs. end >>= (λ _. pure cs)) (cs, rest) h in
    let two = bind_ok (end one.0.1) (λ _. pure one.0.0) (cs, rest) one.2 in
    sym (same_ok one.0.0 cs two.0.1 rest two.2).1 ∙ at_end one.0.1 two.0.1 two.1
  where
    at_end : (ts rest : Tokens) → end ts ≡ Ok (tt, rest) → rest ≡ []
    at_end [] rest h = sym (same_ok tt tt [] rest h).1
    at_end (t ∷ ts) rest h = absurd cc

-- no more tokens are left at a fault than there were
pub claims_left_within : (ts : Tokens) (deep : Bool) (left : Tokens) → whole_claims ts ≡ Err (deep, left) → length left ≤ length ts
claims_left_within ts deep left h =
    let e = left_at_fault form_claims ts (deep, left) h in
    let n = ap length e.1 in let m = length-append e.0 left in omega (arith, n, m)
