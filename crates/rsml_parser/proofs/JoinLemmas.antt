-- Claims that are joined to a specification.
use Rattle.std.proofs.Common.{◌≡◌, Bool, false, List, [], ◌∷◌, ◌++◌, map, Ok, refl, sym, ap, subst, ◌∙◌}
use Rattle.std.specs.Prelude.{IsTrue}
use Rattle.std.specs.List.{list_all}
use Rattle.std.proofs.lemmas.List.Folds.{list_all-append}
use Rattle.rsml_syntax.specs.grammar.Grammar as grammar
use Rattle.rsml_syntax.specs.grammar.WellFormed.{WellFormed, declaration_has_items, body_has_items}
use Rattle.rsml_syntax.specs.text.Tokens.{Tokens}
use Rattle.rsml_syntax.specs.declared.token.Word.TheVariants as words
use Rattle.rsml_syntax.specs.declared.syntax.Decl.{Decl}
use Rattle.rsml_syntax.specs.declared.syntax.Spec.{Spec}
use Rattle.claim_syntax.specs.declared.claim.Claim.{Claim}
use Rattle.claim_syntax.specs.Grammar as put
use Rattle.claim_syntax.specs.Grammar.{claims_tokens, claim_has_items, AreWellFormed}
use Rattle.claim_syntax.specs.Joined.{macro_of, joined}
use Rattle.rsml_parser.specs.Parsers.{Parser}
use Rattle.rsml_parser.specs.States.{opens_declaration}
use Rattle.rsml_parser.proofs.AnswerLemmas.{fit_front, fit_both}
use Rattle.rsml_parser.proofs.ClaimForms.{form_each, each_again, claims_again}
use Rattle.rsml_parser.proofs.DeclarationForms.{item_declaration}
use Rattle.rsml_parser.proofs.Forms.{Fit, none_yet}
use Rattle.rsml_parser.proofs.Outcomes.{same_ok}
use Rattle.rsml_parser.proofs.SpecificationForms.{declarations_again}
use Rattle.rsml_parser.proofs.Spelling.{Reads, reads_many, both, halves}
use Rattle.rsml_parser.specs.Claims.{whole_claims}

-- its tokens tell claims
pub tokens_tell : (cs ds : List Claim) → AreWellFormed cs → AreWellFormed ds → claims_tokens cs ≡ claims_tokens ds → cs ≡ ds
tokens_tell cs ds one two h = (same_ok cs ds [] [] (sym (claims_again cs one.items) ∙ ap whole_claims h ∙ claims_again ds two.items)).0

fit_back : (a b : Tokens) → Fit (a ++ b) → Fit b
fit_back [] b fit = fit
fit_back (t ∷ a) b fit = fit_back a b fit.1

-- items may stand before other tokens
module _ {A : Type 0} {read : Parser (List A)} (spell : A → Tokens → Tokens) {good : List A → Bool} (form : Reads read (grammar.each spell) good)
    (xs : List A) (rest : Tokens) (again : read (grammar.each spell xs rest) ≡ Ok (xs, rest)) (fit : Fit (grammar.each spell xs rest)) where
  fit_before : (more : Tokens) → Fit more → Fit (grammar.each spell xs more)
  fit_before more also =
      let u = form.lifts false (grammar.each spell xs rest) xs rest again rest more (none_yet rest more also) in
      let front = fit_front u.shares.front rest (subst Fit u.shares.have fit) in
      subst Fit (sym u.shares.given ∙ u.spelled.0) (fit_both u.shares.front u.shares.tail front u.shares.fit)

  fit_after : Fit rest
  fit_after = let u = form.lifts false (grammar.each spell xs rest) xs rest again rest [] (none_yet rest [] refl) in fit_back u.shares.front rest (subst Fit u.shares.have fit)

each_append : {A : Type 0} (spell : A → Tokens → Tokens) (xs ys : List A) (rest : Tokens) → grammar.each spell (xs ++ ys) rest ≡ grammar.each spell xs (grammar.each spell ys rest)
each_append spell [] ys rest = refl
each_append spell (x ∷ xs) ys rest = ap (spell x) (each_append spell xs ys rest)

as_macros : (cs : List Claim) (rest : Tokens) → grammar.each grammar.declaration (map macro_of cs) rest ≡ grammar.each put.claim cs rest
as_macros [] rest = refl
as_macros (c ∷ cs) rest = ap (put.claim c) (as_macros cs rest)

macros_have_items : (cs : List Claim) → IsTrue (list_all claim_has_items cs) → IsTrue (list_all declaration_has_items (map macro_of cs))
macros_have_items [] h = refl
macros_have_items (c ∷ cs) h =
    let is = halves (claim_has_items c) (list_all claim_has_items cs) h in
    both (claim_has_items c) (list_all declaration_has_items (map macro_of cs)) is.0 (macros_have_items cs is.1)

-- the tokens of a specification from its declarations on
abbrev after_name : List Decl → Tokens → Tokens
after_name ds tail = grammar.each grammar.declaration ds tail

fit_joined : (ds : List Decl) (cs : List Claim) (rest : Tokens) → let tail = grammar.word words.State rest in
    IsTrue (list_all declaration_has_items ds) → AreWellFormed cs → Fit (after_name ds tail) → Fit (after_name (ds ++ map macro_of cs) tail)
fit_joined ds cs rest items two fit =
    let tail = grammar.word words.State rest in
    let form = reads_many opens_declaration item_declaration in
    let again = declarations_again ds rest items in
    let claimed = fit_before put.claim form_each cs [] (each_again cs two.items) two.tokens tail (fit_after grammar.declaration form ds tail again fit) in
    subst Fit (sym (each_append grammar.declaration ds (map macro_of cs) tail ∙ ap (after_name ds) (as_macros cs tail))) (fit_before grammar.declaration form ds tail again fit (grammar.each put.claim cs tail) claimed)

pub joined_well_formed : (s : Spec) (cs : List Claim) → WellFormed s → AreWellFormed cs → WellFormed (joined s cs)
joined_well_formed s cs one two =
    let items = halves (list_all declaration_has_items s.decls) (body_has_items s.body) one.items in
    let t = one.tokens in
    record {
      tokens = (t.0, (t.1.0, (t.1.1.0, fit_joined s.decls cs (grammar.name s.top (grammar.body s.body [])) items.0 two t.1.1.1)));
      items = both (list_all declaration_has_items (s.decls ++ map macro_of cs)) (body_has_items s.body)
          (list_all-append declaration_has_items s.decls (map macro_of cs) ∙ both (list_all declaration_has_items s.decls) (list_all declaration_has_items (map macro_of cs)) items.0 (macros_have_items cs two.items))
          items.1;
    }
