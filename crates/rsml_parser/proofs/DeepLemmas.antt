-- A token that opens a state too many is `state` or `array`, inside 16 states.
use Rattle.std.proofs.Common.{◌≡◌, ◌⊎◌, inl, inr, ◌+◌, Bool, true, false, [], ◌∷◌, ◌++◌, length, Ok, Err, refl, sym, ap, ◌∙◌, subst}
use Rattle.std.specs.Prelude.{◌||◌}
use Rattle.rsml_syntax.specs.declared.syntax.Spec.{Spec}
use Rattle.rsml_syntax.specs.declared.token.Token.{Token}
use Rattle.rsml_syntax.specs.declared.token.Token.TheVariants as token
use Rattle.rsml_syntax.specs.declared.token.Word.TheVariants as words
use Rattle.rsml_syntax.specs.grammar.Layout.{is_the_word, open_braces}
use Rattle.rsml_syntax.specs.grammar.Places.{Begins, BeginsWithin, IsDepthPlace}
use Rattle.rsml_syntax.specs.text.Tokens.{Tokens}
use Rattle.rsml_parser.specs.Answers.{room}
use Rattle.rsml_parser.specs.Laws.{OpensInsideSixteen}
use Rattle.rsml_parser.specs.Parsers.{Outcome}
use Rattle.rsml_parser.specs.States.{opens_state, whole}
use Rattle.rsml_parser.proofs.AnswerLemmas.{fit_front, reads_tokens, front_begins, not_within, syntax_fault}
use Rattle.rsml_parser.proofs.Braces.{of_whole}
use Rattle.rsml_parser.proofs.Forms.{Fit}
use Rattle.rsml_parser.proofs.Leaves.{is_known_word}
use Rattle.rsml_parser.proofs.Outcomes.{cancel}
use Rattle.rsml_parser.proofs.PlaceLemmas.{same_depth, no_depth_place_of}
use Rattle.rsml_parser.proofs.SpecificationForms.{form_whole}

opens_one : (t : Token) → opens_state t ≡ true → (t ≡ token.Word words.State) ⊎ (t ≡ token.Word words.Array)
opens_one t h = elim (either (is_the_word words.State t) (is_the_word words.Array t) h) [
  | inl e ↦ inl (is_known_word words.State t e)
  | inr e ↦ inr (is_known_word words.Array t e)
]
  where
    either : (a b : Bool) → (a || b) ≡ true → (a ≡ true) ⊎ (b ≡ true)
    either true b h = inl refl
    either false b h = inr h

first_same : (f : Tokens) (t u : Token) (a b : Tokens) → f ++ t ∷ a ≡ f ++ u ∷ b → t ≡ u
first_same [] t u a b h = cc
first_same (v ∷ f) t u a b h = first_same f t u a b cc

-- What is known of the token at a depth place.
record Deep (before : Tokens) (t : Token) : Type 0 where
  opens : (t ≡ token.Word words.State) ⊎ (t ≡ token.Word words.Array)
  level : open_braces before ≡ 16

here : (f : Tokens) (t : Token) → BeginsWithin f → (BeginsWithin (f ++ t ∷ []) → ⊥) → Begins (f ++ t ∷ []) → IsDepthPlace (f ++ t ∷ []) (length f + 1)
here f t within too_deep begins = record { before = f; token = t; rest = []; split = refl; here = refl; within = within; begins = begins; too_deep = too_deep }

-- reading the tokens up to a depth place stops there
deep_at : (f : Tokens) (t : Token) → Fit (f ++ t ∷ []) → BeginsWithin f → (BeginsWithin (f ++ t ∷ []) → ⊥) → Begins (f ++ t ∷ []) →
    (o : Outcome Spec) → whole room (f ++ t ∷ []) ≡ o → Deep f t
deep_at f t fit within too_deep begins (Ok p) e =
    absurd (no_depth_place_of (f ++ t ∷ []) p.0 (reads_tokens (f ++ t ∷ []) p.0 p.1 fit e) (length f + 1) (here f t within too_deep begins))
deep_at f t fit within too_deep begins (Err (false, left)) e =
    absurd ((syntax_fault (f ++ t ∷ []) left fit e).not_deep (length f + 1) (here f t within too_deep begins))
deep_at f t fit within too_deep begins (Err (true, [])) e = absurd ((form_whole room).opens (f ++ t ∷ []) e)
deep_at f t fit within too_deep begins (Err (true, u ∷ a)) e =
    let b = front_begins (f ++ t ∷ []) (true, u ∷ a) fit e in
    let same : f ≡ b.0 = same_depth f t [] b.0 u a b.1 within b.2 too_deep (not_within (f ++ t ∷ []) b.0 u a b.1 e) in
    let s = (of_whole room 16 refl).stops (f ++ t ∷ []) (u ∷ a) e in
    let front : s.0.front ≡ b.0 = cancel s.0.front b.0 (u ∷ a) (sym s.0.split ∙ b.1) in
    let head : t ≡ u = first_same f t u [] a (b.1 ∙ ap (λ (l : Tokens). l ++ u ∷ a) (sym same)) in
    record { opens = opens_one t (ap opens_state head ∙ s.1); level = ap open_braces (same ∙ sym front) ∙ s.0.level }

pub opens_inside_sixteen : OpensInsideSixteen
opens_inside_sixteen ts place d =
    let fit = fit_front (d.before ++ d.token ∷ []) d.begins.1 (subst Fit d.begins.3 d.begins.2.tokens) in
    let deep = deep_at d.before d.token fit d.within d.too_deep d.begins (whole room (d.before ++ d.token ∷ [])) refl in
    (deep.opens, deep.level)
