-- The laws of reading specifications.
use Rattle.std.proofs.Common.{◌≡◌, ℕ, suc, Bool, true, List, [], ◌∷◌, Ok, refl, sym, ◌∙◌}
use Rattle.std.specs.Prelude.{◌&&◌, IsTrue, ⊤}
use Rattle.std.specs.List.{list_all}
use Rattle.rsml_syntax.specs.grammar.Grammar as put
use Rattle.rsml_syntax.specs.grammar.Grammar.{tokens_of}
use Rattle.rsml_syntax.specs.text.Tokens.{Tokens}
use Rattle.rsml_syntax.specs.grammar.WellFormed.{declaration_has_items}
use Rattle.rsml_syntax.specs.declared.token.Mark.TheVariants as marks
use Rattle.rsml_syntax.specs.declared.token.Word.TheVariants as words
use Rattle.rsml_syntax.specs.declared.syntax.Decl.{Decl}
use Rattle.rsml_syntax.specs.declared.syntax.Decl.TheVariants as decls
use Rattle.rsml_syntax.specs.declared.syntax.Spec.{Spec}
use Rattle.rsml_parser.specs.Declarations.{declaration}
use Rattle.rsml_parser.specs.Parsers.{Parser, ◌>>=◌, and_then, pure, first, word, mark, name, end, many}
use Rattle.rsml_parser.specs.States.{opens_declaration, specification, whole}
use Rattle.rsml_parser.proofs.BodyAgain.{body_again}
use Rattle.rsml_parser.proofs.BodyForms.{slack, form_body}
use Rattle.rsml_parser.proofs.BodyLists.{good_body}
use Rattle.rsml_parser.proofs.DeclarationForms.{item_declaration, declaration_again}
use Rattle.rsml_parser.proofs.Forms.{Form, form_bind, form_pure, form_as}
use Rattle.rsml_parser.proofs.Leaves.{form_word, form_mark, form_name}
use Rattle.rsml_parser.proofs.Lists.{form_end}
use Rattle.rsml_parser.proofs.Outcomes.{same_ok, bind_ok}
use Rattle.rsml_parser.proofs.SpelledLists.{many_again}
use Rattle.rsml_parser.proofs.Spelling.{both, halves, reads_many}

-- the tokens of a specification, before any others
abbrev pub spelled : Spec → Tokens → Tokens
spelled s rest = put.word words.Specification (put.name s.name (put.mark marks.Semicolon (put.each put.declaration s.decls (put.word words.State (put.name s.top (put.body s.body rest))))))

-- a specification that has its items and nests at most so many states
abbrev pub good_spec : ℕ → Spec → Bool
good_spec most s = list_all declaration_has_items s.decls && good_body most s.body

abbrev pub Specifications : Parser Spec → ℕ → Type 0
Specifications read room = Form read (λ k s rest us. (us ≡ spelled s rest) × IsTrue (good_spec (suc (slack k room)) s))

form_specification : (room : ℕ) → Specifications (specification room) room
form_specification room = form_as
    (form_bind (form_word words.Specification) (λ _. form_bind form_name (λ n. form_bind (form_mark marks.Semicolon) (λ _. form_bind (reads_many opens_declaration item_declaration) (λ ds. form_bind (form_word words.State) (λ _.
    form_bind form_name (λ top. form_bind (form_body room) (λ b. form_pure (record { name = n; decls = ds; top = top; body = b })))))))))
    (λ k x rest us s. let d = s.later.later.later in let b = d.later.later.later in
    rw (s.before, s.later.before, s.later.later.before, d.before.0, d.later.before, d.later.later.before, b.before.0, b.later.1, b.later.0)
    (refl, both (list_all declaration_has_items d.got) (good_body (suc (slack k room)) b.got) d.before.1 b.before.1))

pub form_whole : (room : ℕ) → Specifications (whole room) room
unfolding whole
form_whole room = form_as (form_bind (form_specification room) (λ s. form_bind form_end (λ _. form_pure s))) (λ k x rest us s. rw (s.before.0, s.later.before, s.later.later.1, s.later.later.0) (refl, s.before.1))

-- nothing is left after a specification
pub reads_all : (room : ℕ) (ts : Tokens) (s : Spec) (rest : Tokens) → whole room ts ≡ Ok (s, rest) → rest ≡ []
unfolding whole end
reads_all room ts s rest h =
    let one = bind_ok (specification room ts) (λ s. end >>= (λ _. pure s)) (s, rest) h in
    let two = bind_ok (end one.0.1) (λ _. pure one.0.0) (s, rest) one.2 in
    sym (same_ok one.0.0 s two.0.1 rest two.2).1 ∙ at_end one.0.1 two.0.1 two.1
  where
    at_end : (ts rest : Tokens) → end ts ≡ Ok (tt, rest) → rest ≡ []
    at_end [] rest h = sym (same_ok tt tt [] rest h).1
    at_end (t ∷ ts) rest h = absurd cc

-- What is spelled is read again.

pub declarations_again : (ds : List Decl) (rest : Tokens) → IsTrue (list_all declaration_has_items ds) → let more = put.word words.State rest in
    many (first opens_declaration) declaration (put.each put.declaration ds more) ≡ Ok (ds, more)
declarations_again ds rest good =
    many_again opens_declaration declaration put.declaration declaration_has_items (λ _. ⊤) (λ d r is _. declaration_again d r is) (λ d r _. begins d r) (λ _ _ _. tt) item_declaration.shrinks ds _ good tt refl
  where
    begins : (d : Decl) (rest : Tokens) → first opens_declaration (put.declaration d rest) ≡ true
    begins (decls.Enumeration n vs) rest = refl
    begins (decls.Range n l h) rest = refl
    begins (decls.Constant n v) rest = refl
    begins (decls.Input n s t i) rest = refl
    begins (decls.Event n s) rest = refl
    begins (decls.Macro n s rows) rest = refl
    begins (decls.Function n s cs) rest = refl
    begins (decls.Receive n s ms m) rest = refl
    begins (decls.Send n s fs cs) rest = refl

pub whole_again : (room : ℕ) (s : Spec) → IsTrue (good_spec (suc room) s) → whole room (tokens_of s) ≡ Ok (s, [])
unfolding whole and_then word mark name end
whole_again room s good =
    let is = halves (list_all declaration_has_items s.decls) (good_body (suc room) s.body) good in
    rw (declarations_again s.decls (put.name s.top (put.body s.body [])) is.0, (body_again room).again s.body [] is.1) refl
