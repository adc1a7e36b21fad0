-- Writing tokens one after another gives their layout.
use Rattle.std.proofs.Common.{◌≡◌, ℕ, ◌+◌, ◌*◌, ◌≤◌, List, [], ◌∷◌, ◌++◌, length, replicate, Option, Some, None, Result, Ok, Err, refl, sym, ap, ◌∙◌, subst, arith, append_assoc}
use Rattle.rsml_syntax.specs.declared.printing.printer.Printer.{Printer}
use Rattle.rsml_syntax.specs.declared.printing.spacing.Kind.{Kind}
use Rattle.std.specs.Result.{IfOk, OnOk}
use Rattle.std.specs.Str.{IsUtf8}
use Rattle.rsml_syntax.specs.declared.edition.Edition.TheVariants as editions
use Rattle.rsml_base.specs.declared.no_memory.NoMemory.{NoMemory}
use Rattle.rsml_syntax.specs.declared.syntax.Spec.{Spec}
use Rattle.rsml_syntax.specs.declared.token.Placed.{Placed}
use Rattle.rsml_syntax.specs.declared.token.Mark.{Mark}
use Rattle.rsml_syntax.specs.declared.token.Token.{Token}
use Rattle.rsml_syntax.specs.declared.token.Token.TheVariants as token
use Rattle.rsml_syntax.specs.grammar.Grammar.{tokens_of}
use Rattle.rsml_syntax.specs.helpers.TokenKinds.{token_kind, token_like, space_before}
use Rattle.rsml_syntax.specs.grammar.Layout.{text_of, open_after, space_between, layout_from, layout}
use Rattle.rsml_syntax.specs.text.Lexing.{Lexes, bare}
use Rattle.rsml_syntax.specs.text.Marks as marks
use Rattle.rsml_syntax.specs.helpers.Printing.{added, with_tokens, Writes}
use Rattle.rsml_syntax.specs.text.Tokens.{Tokens}
use Rattle.rsml_syntax.specs.grammar.WellFormed.{WellFormed}
use Rattle.rsml_syntax.proofs.LayoutLemmas.{layout_lexes}
use Rattle.rsml_syntax.proofs.WordLemmas.{mark_spelled}
use Rattle.std.proofs.lemmas.List.{replicate-append-replicate, append-nil}

-- one more pair of spaces
pub two_more : (text old : List ℕ) (n : ℕ) → text ≡ old ++ (10 ∷ replicate (2 * n) 32) → text ++ (32 ∷ 32 ∷ []) ≡ old ++ (10 ∷ replicate (2 * (n + 1)) 32)
two_more text old n h =
    let k : 2 * n + 2 ≡ 2 * (n + 1) = omega arith in
    ap (λ l. l ++ (32 ∷ 32 ∷ [])) h ∙ append_assoc old (10 ∷ replicate (2 * n) 32) (32 ∷ 32 ∷ [])
    ∙ ap (λ l. old ++ (10 ∷ l)) (replicate-append-replicate (2 * n) 2 32 ∙ ap (λ m. replicate m 32) k)

-- the space between tokens goes by their kinds
before_like : (depth : ℕ) (last : Option Kind) (t : Token) → space_before depth last (token_like (token_kind t)) ≡ space_before depth last t
before_like depth None t = refl
before_like depth (Some last) (token.Word w) = refl
before_like depth (Some last) (token.Name n) = refl
before_like depth (Some last) (token.Number n) = refl
before_like depth (Some last) (token.Mark m) = refl

-- a token is written
pub wrote : (old new : Printer) (t : Token) (spelling : List ℕ) → text_of t ≡ spelling →
    new.text.items ≡ old.text.items ++ (space_before old.depth old.last (token_like (token_kind t)) ++ spelling) → new.depth ≡ open_after old.depth t → new.last ≡ Some (token_kind t) →
    Writes old new (λ rest. t ∷ rest)
unfolding with_tokens
wrote old new t spelling spelled text depth last rest =
    let more = added (open_after old.depth t) (Some (token_kind t)) rest in
    let gap = space_before old.depth old.last t in
    let is : new.text.items ≡ old.text.items ++ (gap ++ text_of t) = text ∙ ap (λ l. old.text.items ++ (l ++ spelling)) (before_like old.depth old.last t) ∙ ap (λ l. old.text.items ++ (gap ++ l)) (sym spelled) in
    sym (ap (λ l. l ++ added new.depth new.last rest) is
    ∙ ap (λ d. old.text.items ++ (gap ++ text_of t) ++ added d new.last rest) depth
    ∙ ap (λ k. old.text.items ++ (gap ++ text_of t) ++ added (open_after old.depth t) k rest) last
    ∙ append_assoc old.text.items (gap ++ text_of t) more
    ∙ ap (λ l. old.text.items ++ l) (append_assoc gap (text_of t) more))

-- the same for what may fail
pub wrote_on_ok : {A E : Type 0} (r : Result A E) (old new : Printer) (t : Token) (spelling : List ℕ) → text_of t ≡ spelling →
    OnOk r (new.text.items ≡ old.text.items ++ (space_before old.depth old.last (token_like (token_kind t)) ++ spelling)) → new.depth ≡ open_after old.depth t → OnOk r (new.last ≡ Some (token_kind t)) →
    OnOk r (Writes old new (λ rest. t ∷ rest))
wrote_on_ok (Ok x) old new t spelling spelled text depth last = wrote old new t spelling spelled text depth last
wrote_on_ok (Err e) old new t spelling spelled text depth last = tt

-- the depth stays within the text
pub mark_within : (m : Mark) (old new depth len : ℕ) → depth ≤ old → old + length (marks.spelling m) ≤ new → len ≤ depth + 1 → len ≤ new
mark_within m old new depth len le grown most =
    let s = mark_spelled m in
    omega (arith, le, grown, most, ap length s.parts)

-- all tokens are written, and then a line feed
pub finished : (p : Printer) (text : List ℕ) → text ≡ p.text.items ++ (10 ∷ []) → text ≡ with_tokens p [] ++ (10 ∷ [])
unfolding with_tokens
finished p text h = h ∙ ap (λ l. l ++ (10 ∷ [])) (sym (append-nil p.text.items))

between_like : (depth : ℕ) (a b : Token) → space_between depth (token_like (token_kind a)) b ≡ space_between depth a b
between_like depth (token.Word w) b = refl
between_like depth (token.Name n) b = refl
between_like depth (token.Number n) b = refl
between_like depth (token.Mark m) b = refl

-- what a new printer writes is the layout
pub new_layout : (p : Printer) (t : Token) (ts : Tokens) → p.text.items ≡ [] → p.depth ≡ 0 → p.last ≡ None → with_tokens p (t ∷ ts) ++ (10 ∷ []) ≡ layout (t ∷ ts)
unfolding with_tokens
new_layout p t ts text depth last =
    ap (λ l. l ++ added p.depth p.last (t ∷ ts) ++ (10 ∷ [])) text ∙ ap (λ d. added d p.last (t ∷ ts) ++ (10 ∷ [])) depth ∙ ap (λ k. added 0 k (t ∷ ts) ++ (10 ∷ [])) last ∙ laid 0 t ts
  where
    laid : (depth : ℕ) (a : Token) (ts : Tokens) → text_of a ++ added (open_after depth a) (Some (token_kind a)) ts ++ (10 ∷ []) ≡ layout_from depth a ts
    laid depth a [] = ap (λ l. l ++ (10 ∷ [])) (append-nil (text_of a))
    laid depth a (b ∷ ts) =
        let d = open_after depth a in
        let more = text_of b ++ added (open_after d b) (Some (token_kind b)) ts in
        append_assoc (text_of a) (space_between d (token_like (token_kind a)) b ++ more) (10 ∷ [])
        ∙ ap (λ l. text_of a ++ l) (append_assoc (space_between d (token_like (token_kind a)) b) more (10 ∷ []))
        ∙ ap (λ l. text_of a ++ (l ++ (more ++ (10 ∷ [])))) (between_like d a b)
        ∙ ap (λ l. text_of a ++ (space_between d a b ++ l)) (laid d b ts)

-- all of a specification is written, and nothing else
pub printed_layout : {A : Type 0} (r : Result A NoMemory) (view : A → List ℕ) (s : Spec) (p q : Printer) → p.text.items ≡ [] → p.depth ≡ 0 → p.last ≡ None →
    with_tokens p (tokens_of s) ≡ with_tokens q [] → IfOk r (λ v. view v ≡ with_tokens q [] ++ (10 ∷ [])) → IfOk r (λ v. view v ≡ layout (tokens_of s))
printed_layout (Err e) view s p q text depth last all h = tt
printed_layout (Ok v) view s p q text depth last all h = h ∙ ap (λ l. l ++ (10 ∷ [])) (sym all) ∙ new_layout p _ _ text depth last

-- the layout is text, and has the tokens of the specification
pub layout_text : (s : Spec) (bytes : List ℕ) → WellFormed s → bytes ≡ layout (tokens_of s) → IsUtf8 bytes
layout_text s bytes w is =
    let r = (layout_lexes editions.Second (tokens_of s) w.tokens).1 in
    (r.0, (r.1, sym (is ∙ r.2)))

pub layout_reads : (s : Spec) (bytes : List ℕ) → WellFormed s → bytes ≡ layout (tokens_of s) → (ts : List Placed) × Lexes editions.Second bytes ts × (bare ts ≡ tokens_of s)
layout_reads s bytes w is =
    let r = layout_lexes editions.Second (tokens_of s) w.tokens in
    (r.0, subst (λ (l : List ℕ). Lexes editions.Second l r.0) (sym is) r.1, r.2)
