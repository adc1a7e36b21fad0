-- What a text reads as, the line of its fault and the report are one each.
use Rattle.std.proofs.Common.{◌≡◌, ◌≤◌, List, Some, None, Result, Ok, Err, length, map, refl, sym, ap, ◌∙◌, subst, arith}
use Rattle.rsml_lexer.specs.Laws.{AtMostOneTokenList, AtMostOneFirstFault, NeverBoth}
use Rattle.rsml_meaning.specs.EventLines.{Bytes}
use Rattle.rsml_meaning.specs.Laws.{ReportIsOne}
use Rattle.rsml_parser.specs.Laws.{IsTrueAnswer, HasOneAnswer}
use Rattle.rsml_parser.specs.declared.error.ParseError.{ParseError}
use Rattle.rsml_parser.specs.declared.error.ParseError.TheVariants as errors
use Rattle.rsml_syntax.specs.declared.edition.Edition.{Edition}
use Rattle.rsml_syntax.specs.declared.edition.Edition.TheVariants as edition
use Rattle.rsml_syntax.specs.declared.syntax.Spec.{Spec}
use Rattle.rsml_syntax.specs.declared.token.Placed.{Placed}
use Rattle.rsml_syntax.specs.grammar.Places.{IsTokensOf}
use Rattle.rsml_syntax.specs.limits.Limits.{Keeps}
use Rattle.rsml_syntax.specs.text.Lexing.{Lexes, bare}
use Rattle.rsml_syntax.specs.text.Renaming.{IsRenamed, unchanged, changed, rename, numbered_name}
use Rattle.rsml_syntax.specs.text.Tokens.{AreTokens}
use Rattle.rsml_syntax.proofs.RenamingLemmas.{renamed_tokens}
use Rattle.rsml_syntax.proofs.ScanLemmas.{lexes_tokens}
use Rattle.judging.specs.FaultLines as lines
use Rattle.judging.specs.Headline.{IsRightReport}
use Rattle.judging.specs.Judgements.{IsBroken}
use Rattle.judging.specs.Judgements as judged
use Rattle.judging.specs.Texts.{greatest_text, HasFault, AreThemselves, IsTextOf, IsUnread, IsTextByFirst, IsUnreadByFirst, no_tokens, no_syntax, too_deep}

same_some : {A : Type 0} (x y : A) → Some x ≡ Some y → x ≡ y
same_some x y e = ap (λ o. elim o [ Some z ↦ z | None ↦ x ]) e

-- Specifications.

pub one_broken : (s : Spec) (xs ys : Bytes) → IsBroken s xs → IsBroken s ys → xs ≡ ys
one_broken s xs ys (judged.IsBroken.rule b e is) (judged.IsBroken.rule c f at) = is ∙ ap lines.rule (same_some b c (sym e ∙ f)) ∙ sym at
one_broken s xs ys (judged.IsBroken.rule b e is) (judged.IsBroken.limit c f g at) = absurd (cc (e, f))
one_broken s xs ys (judged.IsBroken.limit b e g is) (judged.IsBroken.rule c f at) = absurd (cc (e, f))
one_broken s xs ys (judged.IsBroken.limit b e g is) (judged.IsBroken.limit c f h at) = is ∙ ap lines.limit (same_some b c (sym g ∙ h)) ∙ sym at

pub keeps_none : (s : Spec) (xs : Bytes) → Keeps s → IsBroken s xs → ⊥
keeps_none s xs keeps (judged.IsBroken.rule b e is) = let f = keeps.rules in cc (e, f)
keeps_none s xs keeps (judged.IsBroken.limit c e g is) = let f = keeps.limits in cc (g, f)

pub one_report : ReportIsOne → (s : Spec) (xs ys : Bytes) → IsRightReport s xs → IsRightReport s ys → xs ≡ ys
one_report one s xs ys r q = one s xs ys (r.answers, r.right, r.text) (q.answers, q.right, q.text)

-- Renaming.

one_renaming : (ts us vs : List Placed) → IsRenamed ts us → IsRenamed ts vs → us ≡ vs
one_renaming ts us vs (unchanged _ e) (unchanged _ f) = e ∙ sym f
one_renaming ts us vs (unchanged n e) (changed k m h f) = absurd (cc (n, m))
one_renaming ts us vs (changed k m h e) (unchanged n f) = absurd (cc (n, m))
one_renaming ts us vs (changed k m h e) (changed l n i f) =
    let below = h.least l i.positive i.free in
    let above = i.least k h.positive h.free in
    let same : k ≡ l = omega (arith, below, above) in
    e ∙ ap (λ n. map (rename (numbered_name n)) ts) same ∙ sym f

one_self : (ts us vs : List Placed) → AreThemselves ts us → AreThemselves ts vs → us ≡ vs
one_self ts us vs e f = e ∙ sym f

-- Texts.

module _ (faults : AtMostOneFirstFault) (lists : AtMostOneTokenList) (never : NeverBoth) (answers : HasOneAnswer) where
  module _ (e : Edition) (AreReadAs : List Placed → List Placed → Type 0) (one : (ts us vs : List Placed) → AreReadAs ts us → AreReadAs ts vs → us ≡ vs)
      (fit : (ts us : List Placed) → length ts ≤ greatest_text → AreTokens e (bare ts) → AreReadAs ts us → AreTokens edition.Second (bare us)) where
    -- two answers that are true of the tokens that a text is read as are the same
    one_answer : (text : Bytes) (ts us vs ws : List Placed) (a b : Result Spec ParseError) → length text ≤ greatest_text → Lexes e text ts → AreReadAs ts us
        → Lexes e text vs → AreReadAs vs ws → IsTrueAnswer (bare us) a → IsTrueAnswer (bare ws) b → a ≡ b
    one_answer text ts us vs ws a b small l r k q p o =
        let same = one ts ws us (subst (λ (v : List Placed). AreReadAs v ws) (lists e text vs ts k l) q) r in
        let tokens = lexes_tokens e text ts l in
        let found = answers (bare us) (fit ts us (omega (arith, tokens.1, small)) tokens.0 r) in
        found.2 a p ∙ sym (found.2 b (subst (λ (v : List Placed). IsTrueAnswer (bare v) b) same o))

    one_fault : (text xs ys : Bytes) → HasFault e AreReadAs text xs → HasFault e AreReadAs text ys → xs ≡ ys
    one_fault text xs ys (no_tokens f _ h i) (no_tokens g _ k j) = i ∙ ap lines.lexical (faults e text f g h k) ∙ sym j
    one_fault text xs ys (no_tokens f _ h _) (no_syntax ts _ _ _ l _ _ _) = absurd (never e text ts f l h)
    one_fault text xs ys (no_tokens f _ h _) (too_deep ts _ _ _ l _ _ _) = absurd (never e text ts f l h)
    one_fault text xs ys (no_syntax ts _ _ _ l _ _ _) (no_tokens f _ h _) = absurd (never e text ts f l h)
    one_fault text xs ys (no_syntax ts us p n l r h i) (no_syntax vs ws q _ k s o j) =
        let same = one_answer text ts us vs ws (Err (errors.Syntax p)) (Err (errors.Syntax q)) n l r k s h o in
        let place : p ≡ q = cc same in i ∙ ap lines.syntax place ∙ sym j
    one_fault text xs ys (no_syntax ts us p n l r h i) (too_deep vs ws q _ k s o j) =
        absurd (cc (one_answer text ts us vs ws (Err (errors.Syntax p)) (Err (errors.TooDeep q)) n l r k s h o))
    one_fault text xs ys (too_deep ts _ _ _ l _ _ _) (no_tokens f _ h _) = absurd (never e text ts f l h)
    one_fault text xs ys (too_deep ts us p n l r h i) (no_syntax vs ws q _ k s o j) =
        absurd (cc (one_answer text ts us vs ws (Err (errors.TooDeep p)) (Err (errors.Syntax q)) n l r k s h o))
    one_fault text xs ys (too_deep ts us p n l r h i) (too_deep vs ws q _ k s o j) =
        let same = one_answer text ts us vs ws (Err (errors.TooDeep p)) (Err (errors.TooDeep q)) n l r k s h o in
        let place : p ≡ q = cc same in i ∙ ap lines.depth place ∙ sym j

    read_not : (text xs : Bytes) (ts us : List Placed) (s : Spec) → Lexes e text ts → AreReadAs ts us → IsTokensOf (bare us) s → HasFault e AreReadAs text xs → ⊥
    read_not text xs ts us s l r is (no_tokens f _ h _) = never e text ts f l h
    read_not text xs ts us s l r is (no_syntax vs ws p n k q h _) = let same = one_answer text ts us vs ws (Ok s) (Err (errors.Syntax p)) n l r k q is h in cc same
    read_not text xs ts us s l r is (too_deep vs ws p n k q h _) = let same = one_answer text ts us vs ws (Ok s) (Err (errors.TooDeep p)) n l r k q is h in cc same

    one_read : (text : Bytes) (ts us vs ws : List Placed) (s t : Spec) → length text ≤ greatest_text → Lexes e text ts → AreReadAs ts us → Lexes e text vs → AreReadAs vs ws
        → IsTokensOf (bare us) s → IsTokensOf (bare ws) t → s ≡ t
    one_read text ts us vs ws s t n l r k q is at = let same = one_answer text ts us vs ws (Ok s) (Ok t) n l r k q is at in cc same

    short : (text xs : Bytes) → HasFault e AreReadAs text xs → length text ≤ greatest_text
    short text xs (no_tokens _ h _ _) = h
    short text xs (no_syntax _ _ _ h _ _ _ _) = h
    short text xs (too_deep _ _ _ h _ _ _ _) = h

  self_fit : (ts us : List Placed) → length ts ≤ greatest_text → AreTokens edition.Second (bare ts) → AreThemselves ts us → AreTokens edition.Second (bare us)
  self_fit ts us _ h e = subst (λ (v : List Placed). AreTokens edition.Second (bare v)) (sym e) h

  pub one_unread : (text xs ys : Bytes) → IsUnread text xs → IsUnread text ys → xs ≡ ys
  one_unread = one_fault edition.Second AreThemselves one_self self_fit

  pub text_not : (text xs : Bytes) (s : Spec) → IsTextOf text s → IsUnread text xs → ⊥
  text_not text xs s t = read_not edition.Second AreThemselves one_self self_fit text xs t.reads.0 t.reads.0 s t.reads.1 refl t.reads.2

  pub one_text : (text : Bytes) (s t : Spec) → IsTextOf text s → IsTextOf text t → s ≡ t
  one_text text s t h k =
      one_read edition.Second AreThemselves one_self self_fit text h.reads.0 h.reads.0 k.reads.0 k.reads.0 s t h.short h.reads.1 refl k.reads.1 refl h.reads.2 k.reads.2

  pub short_unread : (text xs : Bytes) → IsUnread text xs → length text ≤ greatest_text
  short_unread = short edition.Second AreThemselves one_self self_fit

  renamed_fit : (ts us : List Placed) → length ts ≤ greatest_text → AreTokens edition.First (bare ts) → IsRenamed ts us → AreTokens edition.Second (bare us)
  renamed_fit ts us few h r = renamed_tokens ts us (omega (arith, few)) h r

  pub one_first : (text xs ys : Bytes) → IsUnreadByFirst text xs → IsUnreadByFirst text ys → xs ≡ ys
  one_first = one_fault edition.First IsRenamed one_renaming renamed_fit

  pub first_not : (text xs : Bytes) (s : Spec) → IsTextByFirst text s → IsUnreadByFirst text xs → ⊥
  first_not text xs s t = read_not edition.First IsRenamed one_renaming renamed_fit text xs t.tokens t.renamed s t.lexes t.are_renamed t.reads

  pub one_text_by_first : (text : Bytes) (s t : Spec) → IsTextByFirst text s → IsTextByFirst text t → s ≡ t
  one_text_by_first text s t h k =
      one_read edition.First IsRenamed one_renaming renamed_fit text h.tokens h.renamed k.tokens k.renamed s t h.short h.lexes h.are_renamed k.lexes k.are_renamed h.reads k.reads

  pub short_first : (text xs : Bytes) → IsUnreadByFirst text xs → length text ≤ greatest_text
  short_first = short edition.First IsRenamed one_renaming renamed_fit
