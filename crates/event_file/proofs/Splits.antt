-- The lines of a file before an offset and from it on.
use Rattle.std.proofs.Common.{◌≡◌, ℕ, zero, suc, ◌+◌, ◌<◌, ◌≤◌, ◌⊎◌, inl, inr, Bool, true, false, cond, List, [], ◌∷◌, ◌++◌, length, Some, None, nat_lt, nat_le, refl, sym, ap, subst, ◌∙◌, arith, append_assoc, length-append}
use Rattle.std.specs.Prelude.{◌==◌, find, take_while, is_some, IsTrue, min}
use Rattle.std.proofs.lemmas.Bool.{cases_eq, cases_lt, eq-eqb, ne_eqb, false≢true}
use Rattle.std.proofs.lemmas.Bool.Decides.{nat_tests}
use Rattle.std.proofs.lemmas.List.Sums.{take_while-cons}
use Rattle.rsml_meaning.specs.Words.{Each}
use Rattle.rsml_meaning.specs.EventLines.{Bytes}
use Rattle.rsml_meaning.specs.EventFiles.{Line, lines_of, end_of, lines_before}
use Rattle.event_file.specs.Reading.{line_at, Begins, lines_ahead}
use Rattle.event_file.proofs.LineLists.{lines_from, line_from, past, past_within, lines_step, no_lines, line_length}

-- Lists.

pub each_append : {A : Type 0} (P : A → Type 0) (xs : List A) (y : A) → Each P xs → P y → Each P (xs ++ y ∷ [])
each_append P [] y h k = (k, tt)
each_append P (x ∷ xs) y h k = (h.0, each_append P xs y h.1 k)

pub each_map : {A : Type 0} {P Q : A → Type 0} → ((x : A) → P x → Q x) → (xs : List A) → Each P xs → Each Q xs
each_map f [] h = tt
each_map f (x ∷ xs) h = (f x h.0, each_map f xs h.1)

taken_all : {A : Type 0} (p : A → Bool) (xs ys : List A) → Each (λ x. p x ≡ true) xs → take_while p ys ≡ [] → take_while p (xs ++ ys) ≡ xs
taken_all p [] ys h k = k
taken_all p (x ∷ xs) ys h k =
    take_while-cons p x (xs ++ ys) ∙ ap (λ b. cond b (x ∷ take_while p (xs ++ ys)) []) h.0 ∙ ap (λ zs. x ∷ zs) (taken_all p xs ys h.1 k)

same_tail : {A : Type 0} (x y : A) (xs ys : List A) → (x ∷ xs) ≡ (y ∷ ys) → xs ≡ ys
same_tail x y xs ys h = cc

not_empty : {A : Type 0} (x : A) (xs : List A) → [] ≡ (x ∷ xs) → ⊥
not_empty x xs h = cc

all_taken : {A : Type 0} (p : A → Bool) (xs ys : List A) → take_while p (xs ++ ys) ≡ xs → Each (λ x. p x ≡ true) xs
all_taken p [] ys h = tt
all_taken p (x ∷ xs) ys h = by_test (p x) refl (sym (take_while-cons p x (xs ++ ys)) ∙ h) (all_taken p xs ys)
  where
    by_test : (b : Bool) → p x ≡ b → cond b (x ∷ take_while p (xs ++ ys)) [] ≡ (x ∷ xs) → (take_while p (xs ++ ys) ≡ xs → Each (λ x. p x ≡ true) xs) → (p x ≡ true) × Each (λ x. p x ≡ true) xs
    by_test true e k more = (e, more (same_tail x x (take_while p (xs ++ ys)) xs k))
    by_test false e k more = absurd (not_empty x xs k)

none_taken : {A : Type 0} (p : A → Bool) (x : A) (xs : List A) → p x ≡ false → take_while p (x ∷ xs) ≡ []
none_taken p x xs h = take_while-cons p x xs ∙ ap (λ b. cond b (x ∷ take_while p xs) []) h

-- Splits.

module _ (content : Bytes) where
  abbrev starts_at : ℕ → Line → Bool
  starts_at at l = l.start == at

  abbrev IsFound : ℕ → List Line → Type 0
  IsFound at ls = IsTrue (is_some (find (starts_at at) ls)) ⊎ (at ≡ length content)

  -- The lines from an offset on are some that begin before another one, and those from that on.
  record SplitFrom (number start at : ℕ) : Type 0 where
    before : List Line
    same : lines_from content number start ≡ before ++ lines_from content (number + length before) at
    starts : Each (λ l. l.start < at) before
    within : at ≤ length content
    after : start ≤ at + 1

  none_found : (at : ℕ) → IsFound at [] → at ≡ length content
  none_found at (inl h) = absurd (false≢true h)
  none_found at (inr h) = h

  found_later : (at : ℕ) (l : Line) (ls : List Line) → (l.start == at) ≡ false → IsFound at (l ∷ ls) → IsFound at ls
  found_later at l ls other (inl h) = inl (rw other at h)
  found_later at l ls other (inr h) = inr h

  split_here : (number start at : ℕ) → start ≡ at → at ≤ length content → SplitFrom number start at
  split_here number start at e within = record {
    before = [];
    same = let n : number + 0 ≡ number = omega arith in rw (e, n) refl;
    starts = tt;
    within = within;
    after = omega (arith, e);
  }

  split_past : (number start at : ℕ) → length content ≤ start → start ≤ length content + 1 → IsFound at (lines_from content number start) → SplitFrom number start at
  split_past number start at past within found =
      let end : at ≡ length content = none_found at (rw (no_lines content number start past) at found) in
      record {
        before = [];
        same = no_lines content number start past ∙ sym (no_lines content (number + 0) at (omega (arith, end)));
        starts = tt;
        within = omega (arith, end);
        after = omega (arith, end, within);
      }

  split_later : (number start at : ℕ) → (start ≡ at → ⊥) → start < length content → SplitFrom (suc number) (past content start) at → SplitFrom number start at
  split_later number start at other inside s =
      let n : suc number + length s.before ≡ number + suc (length s.before) = omega arith in
      record {
        before = line_from content number start ∷ s.before;
        same = lines_step content number start inside ∙ ap (λ ls. line_from content number start ∷ ls) (s.same ∙ ap (λ k. s.before ++ lines_from content k at) n);
        starts = (omega (arith, s.after, other), s.starts);
        within = s.within;
        after = omega (arith, s.after);
      }

  split_from : (fuel number start at : ℕ) → length content < start + fuel → start ≤ length content + 1 → IsFound at (lines_from content number start) → SplitFrom number start at
  split_from zero number start at bound within found = split_past number start at (omega (arith, bound)) within found
  split_from (suc fuel) number start at bound within found =
      by_start (cases_lt start (length content)) (cases_eq start at) (split_from fuel (suc number) (past content start) at)
    where
      by_start : (start < length content) ⊎ (length content ≤ start) → (start ≡ at) ⊎ (start ≡ at → ⊥) →
          (length content < past content start + fuel → past content start ≤ length content + 1 → IsFound at (lines_from content (suc number) (past content start)) → SplitFrom (suc number) (past content start) at) →
          SplitFrom number start at
      by_start (inr past) e more = split_past number start at past within found
      by_start (inl inside) (inl e) more = split_here number start at e (omega (arith, inside, e))
      by_start (inl inside) (inr other) more =
          split_later number start at other inside
          (more (omega (arith, bound)) (past_within content start (omega (arith, inside)))
          (found_later at (line_from content number start) (lines_from content (suc number) (past content start)) (ne_eqb start at other)
          (subst (IsFound at) (lines_step content number start inside) found)))

  -- The lines of the file are some that begin before an offset, and those from that on.
  pub record Split (at : ℕ) : Type 0 where
    pub before : List Line
    pub same : lines_of content ≡ before ++ lines_from content (1 + length before) at
    pub starts : Each (λ l. l.start < at) before
    pub within : at ≤ length content

  pub split : (at : ℕ) → Begins content at → Split at
  unfolding line_at
  split at begins =
      let s = split_from (suc (length content)) 1 0 at (omega arith) (omega arith) begins in
      record { before = s.before; same = s.same; starts = s.starts; within = s.within }

  find_past : (at : ℕ) (xs ys : List Line) → Each (λ l. l.start < at) xs → find (starts_at at) (xs ++ ys) ≡ find (starts_at at) ys
  find_past at [] ys h = refl
  find_past at (x ∷ xs) ys h = let other : (x.start == at) ≡ false = ne_eqb x.start at (λ e. omega (arith, h.0, e)) in rw other (find_past at xs ys h.1)

  module _ (at : ℕ) (s : Split at) where
    abbrev pub following : ℕ
    following = 1 + length s.before

    -- the line that begins at the offset
    pub line_there : at < length content → line_at content at ≡ Some (line_from content following at)
    unfolding line_at
    line_there inside =
        let here : (at == at) ≡ true = eq-eqb at at refl in
        ap (find (starts_at at)) s.same ∙ find_past at s.before (lines_from content following at) s.starts
        ∙ ap (find (starts_at at)) (lines_step content following at inside) ∙ rw here refl

    pub none_there : at ≡ length content → line_at content at ≡ None
    unfolding line_at
    none_there end =
        ap (find (starts_at at)) s.same ∙ find_past at s.before (lines_from content following at) s.starts
        ∙ ap (find (starts_at at)) (no_lines content following at (omega (arith, end)))

    pub begins : Begins content at
    begins = by_at (cases_lt at (length content))
      where
        by_at : (at < length content) ⊎ (length content ≤ at) → Begins content at
        by_at (inl inside) = inl (ap is_some (line_there inside))
        by_at (inr past) = inr (omega (arith, past, s.within))

    -- the lines before it
    pub ahead : lines_ahead at content ≡ s.before
    unfolding lines_ahead
    ahead =
        ap (take_while (λ l. nat_lt l.start at)) s.same
        ∙ taken_all (λ l. nat_lt l.start at) s.before (lines_from content following at) (each_map (λ l h. grind (arith, nat_tests)) s.before s.starts) (rest_after (cases_lt at (length content)))
      where
        rest_after : (at < length content) ⊎ (length content ≤ at) → take_while (λ l. nat_lt l.start at) (lines_from content following at) ≡ []
        rest_after (inl inside) =
            ap (take_while (λ l. nat_lt l.start at)) (lines_step content following at inside)
            ∙ none_taken (λ l. nat_lt l.start at) (line_from content following at) (lines_from content (suc following) (past content at)) (let f : nat_lt at at ≡ false = grind (arith, nat_tests) in f)
        rest_after (inr past) = ap (take_while (λ l. nat_lt l.start at)) (no_lines content following at past)

    -- the lines before the one after that
    pub further : (after : ℕ) → at < length content → after ≡ min (past content at) (length content) → Split after
    further after inside e = record {
      before = s.before ++ line_from content following at ∷ [];
      same =
          s.same ∙ ap (λ ls. s.before ++ ls) (lines_step content following at inside)
          ∙ sym (append_assoc s.before (line_from content following at ∷ []) (lines_from content (suc following) (past content at)))
          ∙ ap (λ ls. (s.before ++ line_from content following at ∷ []) ++ ls) (later (cases_lt (length content) (past content at)));
      starts = each_append (λ l. l.start < after) s.before (line_from content following at) (each_map (λ l h. omega (arith, h, e)) s.before s.starts) (omega (arith, e, inside));
      within = omega (arith, e);
    }
      where
        number : suc following ≡ 1 + length (s.before ++ line_from content following at ∷ [])
        number = omega (arith, length-append s.before (line_from content following at ∷ []))

        later : (length content < past content at) ⊎ (past content at ≤ length content) →
            lines_from content (suc following) (past content at) ≡ lines_from content (1 + length (s.before ++ line_from content following at ∷ [])) after
        later (inl over) =
            no_lines content (suc following) (past content at) (omega (arith, over))
            ∙ sym (no_lines content (1 + length (s.before ++ line_from content following at ∷ [])) after (omega (arith, e, over)))
        later (inr inner) = let same : past content at ≡ after = omega (arith, e, inner) in ap (λ n. lines_from content n (past content at)) number ∙ ap (λ a. lines_from content (1 + length (s.before ++ line_from content following at ∷ [])) a) same

    pub further_before : (after : ℕ) (inside : at < length content) (e : after ≡ min (past content at) (length content)) →
        (further after inside e).before ≡ s.before ++ line_from content following at ∷ []
    unfolding further
    further_before after inside e = refl

    -- the lines whose LF stands before an offset that the next line does not end before
    pub ended : (k : ℕ) → at ≤ k → (at < length content → k < past content at) → Each (λ l. end_of l ≤ at) s.before → lines_before k content ≡ s.before
    ended k after free ends =
        ap (take_while (λ l. nat_le (end_of l) k)) s.same
        ∙ taken_all (λ l. nat_le (end_of l) k) s.before (lines_from content following at) (each_map (λ l h. grind (arith, nat_tests)) s.before ends) (rest_after (cases_lt at (length content)))
      where
        rest_after : (at < length content) ⊎ (length content ≤ at) → take_while (λ l. nat_le (end_of l) k) (lines_from content following at) ≡ []
        rest_after (inl inside) =
            let later : k < end_of (line_from content following at) = omega (arith, free inside, line_length content following at) in
            ap (take_while (λ l. nat_le (end_of l) k)) (lines_step content following at inside)
            ∙ none_taken (λ l. nat_le (end_of l) k) (line_from content following at) (lines_from content (suc following) (past content at)) (grind (arith, nat_tests))
        rest_after (inr over) = ap (take_while (λ l. nat_le (end_of l) k)) (no_lines content following at over)

    -- where those whose LF stands before the offset are all before it, each ends there or before
    pub ends : lines_before at content ≡ lines_ahead at content → Each (λ l. end_of l ≤ at) s.before
    ends whole =
        each_map (λ l h. grind (arith, nat_tests)) s.before
        (all_taken (λ l. nat_le (end_of l) at) s.before (lines_from content following at) (sym (ap (take_while (λ l. nat_le (end_of l) at)) s.same) ∙ whole ∙ ahead))
