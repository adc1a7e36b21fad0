-- What callers of a reader of lines know of its answers.
use Rattle.std.proofs.Common.{◌≡◌, ℕ, suc, ◌<◌, ◌≤◌, ◌⊎◌, inl, inr, Bool, true, false, List, [], ◌∷◌, ◌++◌, length, Option, Some, None, refl, sym, ap, ◌∙◌, arith, append-nil}
use Rattle.std.specs.Prelude.{min, if◌then◌else◌}
use Rattle.std.proofs.lemmas.Bool.{cases_lt}
use Rattle.rsml_meaning.specs.EventLines.{Bytes}
use Rattle.rsml_meaning.specs.EventFiles.{Line, lines_of, end_of, Limits, is_long, is_cut}
use Rattle.event_file.specs.declared.next.Next.{Next}
use Rattle.event_file.specs.declared.next.Next.TheVariants as next
use Rattle.event_file.specs.Reading.{line_at, Begins, lines_ahead, next_of}
use Rattle.event_file.proofs.LineLists.{lines_from, line_from, past, line_length, lines_step, no_lines}
use Rattle.event_file.proofs.Splits.{Split, split, following, line_there, none_there, ahead, further, further_before}

same_some : {A : Type 0} (x y : A) → Some x ≡ Some y → x ≡ y
same_some x y h = cc

none_some : {A : Type 0} (x : A) → None ≡ Some x → ⊥
none_some x h = cc

-- The lines before an offset.

pub none_ahead : (content : Bytes) → lines_ahead 0 content ≡ []
none_ahead content = ahead content 0 (record { before = []; same = refl; starts = tt; within = omega arith })

module _ (content : Bytes) (at : ℕ) (begins : Begins content at) where
  abbrev s : Split content at
  s = split content at begins

  there : (line : Line) → line_at content at ≡ Some line → (at < length content) × (line ≡ line_from content (following content at s) at)
  there line is = by_at (cases_lt at (length content))
    where
      by_at : (at < length content) ⊎ (length content ≤ at) → (at < length content) × (line ≡ line_from content (following content at s) at)
      by_at (inl inside) = (inside, same_some line (line_from content (following content at s) at) (sym is ∙ line_there content at s inside))
      by_at (inr over) = absurd (none_some line (sym (none_there content at s (omega (arith, over, s.within))) ∙ is))

  -- those, the one there, and more
  pub line_among : (line : Line) → line_at content at ≡ Some line → (more : List Line) × (lines_of content ≡ lines_ahead at content ++ (line ∷ more))
  line_among line is =
      let found = there line is in (
        lines_from content (suc (following content at s)) (past content at),
        s.same ∙ ap (λ ls. s.before ++ ls) (lines_step content (following content at s) at found.0)
            ∙ ap (λ ls. ls ++ (line_from content (following content at s) at ∷ lines_from content (suc (following content at s)) (past content at))) (sym (ahead content at s))
            ∙ ap (λ l. lines_ahead at content ++ (l ∷ lines_from content (suc (following content at s)) (past content at))) (sym found.1),
      )

  -- after the one there
  pub line_ahead : (line : Line) (after : ℕ) → line_at content at ≡ Some line → after ≡ min (end_of line) (length content) → lines_ahead after content ≡ lines_ahead at content ++ (line ∷ [])
  line_ahead line after is e =
      let found = there line is in
      let l = line_from content (following content at s) at in
      let stop : end_of line ≡ past content at = ap end_of found.1 ∙ (let p : end_of l ≡ past content at = omega (arith, line_length content (following content at s) at) in p) in
      let e' : after ≡ min (past content at) (length content) = e ∙ ap (λ n. min n (length content)) stop in
      ahead content after (further content at s after found.0 e') ∙ further_before content at s after found.0 e'
      ∙ ap (λ ls. ls ++ (l ∷ [])) (sym (ahead content at s)) ∙ ap (λ l. lines_ahead at content ++ (l ∷ [])) (sym found.1)

  -- all, where none is there
  pub all_ahead : line_at content at ≡ None → lines_ahead at content ≡ lines_of content
  all_ahead none = by_at (cases_lt at (length content))
    where
      by_at : (at < length content) ⊎ (length content ≤ at) → lines_ahead at content ≡ lines_of content
      by_at (inl inside) = absurd (none_some (line_from content (following content at s) at) (sym none ∙ line_there content at s inside))
      by_at (inr over) =
          ahead content at s ∙ sym (append-nil s.before) ∙ ap (λ ls. s.before ++ ls) (sym (no_lines content (following content at s) at over)) ∙ sym s.same

-- What an answer says of the line at the offset.

module _ (limits : Limits) (size : ℕ) where
  abbrev by_tests : Bool → Bool → Next
  by_tests long cut = if long then next.LineTooLong else if cut then next.TooLong else next.Line

  long_not_cut : next.LineTooLong ≡ next.TooLong → ⊥
  long_not_cut h = cc

  line_not_cut : next.Line ≡ next.TooLong → ⊥
  line_not_cut h = cc

  line_not_end : next.Line ≡ next.End → ⊥
  line_not_end h = cc

  end_not_cut : next.End ≡ next.TooLong → ⊥
  end_not_cut h = cc

  tests_no_end : (long cut : Bool) → by_tests long cut ≡ next.End → ⊥
  tests_no_end true cut h = cc
  tests_no_end false true h = cc
  tests_no_end false false h = cc

  tests_cut : (long cut : Bool) → by_tests long cut ≡ next.TooLong → (long ≡ false) × (cut ≡ true)
  tests_cut true cut h = absurd (long_not_cut h)
  tests_cut false true h = (refl, refl)
  tests_cut false false h = absurd (line_not_cut h)

  tests_line : (long cut : Bool) → by_tests long cut ≡ next.Line → (long ≡ false) × (cut ≡ false)
  tests_line true cut h = absurd (let no : next.LineTooLong ≡ next.Line → ⊥ = λ e. cc in no h)
  tests_line false true h = absurd (line_not_cut (sym h))
  tests_line false false h = (refl, refl)

  pub end_is : (there : Option Line) → next_of limits size there ≡ next.End → there ≡ None
  end_is None h = refl
  end_is (Some line) h = absurd (tests_no_end (is_long limits line) (is_cut limits size line) h)

  pub cut_is : (there : Option Line) → next_of limits size there ≡ next.TooLong → (line : Line) × (there ≡ Some line) × (is_long limits line ≡ false) × (is_cut limits size line ≡ true)
  cut_is None h = absurd (end_not_cut h)
  cut_is (Some line) h = let tests = tests_cut (is_long limits line) (is_cut limits size line) h in (line, refl, tests.0, tests.1)

  pub line_is : (line : Line) → next_of limits size (Some line) ≡ next.Line → (is_long limits line ≡ false) × (is_cut limits size line ≡ false)
  line_is line h = tests_line (is_long limits line) (is_cut limits size line) h
