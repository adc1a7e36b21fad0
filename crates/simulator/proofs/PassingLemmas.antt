-- A reader that goes over lines that are skipped.
use Rattle.std.proofs.Common.{◌≡◌, ◌≢◌, true, false, List, [], ◌∷◌, ◌++◌, length, Option, Some, None, IfSome, refl, sym, ap, ◌∙◌, subst, append-nil, append_assoc}
use Rattle.rsml_meaning.specs.EventLines.{Bytes, is_skipped}
use Rattle.rsml_meaning.specs.EventFiles.{Limits, Line, is_long, is_cut}
use Rattle.event_file.specs.Reading.{Reading, Fits, Answers, GivesLine, lines_ahead, next_at, next_of}
use Rattle.event_file.specs.declared.next.Next.{Next}
use Rattle.event_file.specs.declared.next.Next.TheVariants as next
use Rattle.event_file.proofs.CallerLemmas.{line_ahead, line_is}
use Rattle.simulator.specs.helpers.Skipping.{IsPassed, Passes, AnswersBehind}
use Rattle.simulator.proofs.LineLemmas.{each_more}

not_refused : next.Line ≡ next.ReadFault → ⊥
not_refused h = cc

-- nothing was read
pub passes_none : (content : Bytes) (r : Reading) → Fits content r → Passes content r r
passes_none content r fits = record { limits = refl; fits = fits; lines = []; ahead = sym (append-nil (lines_ahead r.at content)); passed = tt }

-- The reader gives one more line.

module _ (content : Bytes) (mid r' : Reading) (fits : Fits content mid) (a : Answers content mid next.Line r') where
  abbrev pub gives : GivesLine content mid.at r'
  gives = a.line refl

  -- the limits allow it
  pub allowed : (limits : Limits) → mid.limits ≡ limits → (is_long limits gives.line ≡ false) × (is_cut limits (length content) gives.line ≡ false)
  allowed limits same =
      line_is limits (length content) gives.line
      (sym (a.comes not_refused ∙ ap (λ (z : Limits). next_at z content mid.at) same ∙ ap (next_of limits (length content)) gives.there))

  pub ahead_of : lines_ahead r'.at content ≡ lines_ahead mid.at content ++ (gives.line ∷ [])
  ahead_of = line_ahead content mid.at fits.begins gives.line r'.at gives.there gives.after

-- it is skipped too
pub passes_more : (content : Bytes) (r mid r' : Reading) → Passes content r mid → Answers content mid next.Line r' → r'.limits ≡ mid.limits → is_skipped r'.line ≡ true → Passes content r r'
passes_more content r mid r' p a limits skipped =
    let line = (gives content mid r' p.fits a).line in
    let bytes = (gives content mid r' p.fits a).bytes in
    let tests = allowed content mid r' p.fits a r.limits p.limits in
    let passed : IsPassed r.limits content line = record { skipped = ap is_skipped (sym bytes) ∙ skipped; not_long = tests.0; not_cut = tests.1 } in
    record {
      limits = limits ∙ p.limits;
      fits = a.fits;
      lines = p.lines ++ (line ∷ []);
      ahead = ahead_of content mid r' p.fits a ∙ ap (λ (ls : List Line). ls ++ (line ∷ [])) p.ahead ∙ append_assoc (lines_ahead r.at content) p.lines (line ∷ []);
      passed = each_more (IsPassed r.limits content) p.lines line p.passed passed;
    }

-- The same where it may be told what the file holds.

each_told : {A : Type 0} {P Q : A → Type 0} (o : Option A) → ((x : A) → P x → Q x) → IfSome o P → IfSome o Q
each_told None f h = h
each_told (Some x) f h = f x h

both_told : {A : Type 0} {P Q R : A → Type 0} (o : Option A) → ((x : A) → P x → Q x → R x) → IfSome o P → IfSome o Q → IfSome o R
both_told None f h k = h
both_told (Some x) f h k = f x h k

module _ (told : Option Bytes) (r : Reading) where
  pub passes_none_told : IfSome told (λ content. Fits content r) → IfSome told (λ content. Passes content r r)
  passes_none_told h = each_told {P = λ content. Fits content r} {Q = λ content. Passes content r r} told (λ content f. passes_none content r f) h

  module _ (told' : Option Bytes) (same : told' ≡ told) (mid : Reading) (h : IfSome told (λ content. Passes content r mid)) where
    pub mid_fits : IfSome told' (λ content. Fits content mid)
    mid_fits =
        subst (λ (o : Option Bytes). IfSome o (λ content. Fits content mid)) (sym same)
        (each_told {P = λ content. Passes content r mid} {Q = λ content. Fits content mid} told (λ content p. p.fits) h)

    module _ (r' : Reading) where
      pub passes_told : IfSome told' (λ content. Answers content mid next.Line r') → r'.limits ≡ mid.limits → is_skipped r'.line ≡ true → IfSome told (λ content. Passes content r r')
      passes_told a limits skipped =
          both_told {P = λ content. Passes content r mid} {Q = λ content. Answers content mid next.Line r'} {R = λ content. Passes content r r'} told
          (λ content p q. passes_more content r mid r' p q limits skipped) h (subst (λ (o : Option Bytes). IfSome o (λ content. Answers content mid next.Line r')) same a)

      pub behind_told : (n : Next) → IfSome told' (λ content. Answers content mid n r') → (n ≢ next.Line → r'.at ≡ mid.at) → IfSome told (λ content. AnswersBehind content r n r')
      behind_told n a stays =
          both_told {P = λ content. Passes content r mid} {Q = λ content. Answers content mid n r'} {R = λ content. AnswersBehind content r n r'} told
          (λ content p q. record { mid = mid; passes = p; answers = q; stays = stays }) h (subst (λ (o : Option Bytes). IfSome o (λ content. Answers content mid n r')) same a)

-- a read is refused only in a call before which nothing was settled
pub unsettled : (o : Option Next) (n : Next) → o ≢ Some next.ReadFault → ((a : Next) → o ≡ Some a → n ≡ a) → n ≡ next.ReadFault → o ≡ None
unsettled None n unrefused h is = refl
unsettled (Some a) n unrefused h is = absurd (unrefused (ap Some (sym (h a refl) ∙ is)))
