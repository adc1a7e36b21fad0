-- Answers of a reader that are right for what the file holds.
use Rattle.std.proofs.Common.{◌≡◌, ℕ, ◌+◌, ◌-◌, ◌<◌, ◌≤◌, ◌⊎◌, inl, inr, Bool, true, false, [], ◌∷◌, ◌++◌, length, take, drop, Some, None, refl, sym, ap, subst, ◌∙◌, arith, length-take, length-drop, length-append}
use Rattle.std.specs.Prelude.{nat_lt, ◌&&◌, min, IsTrue, if◌then◌else◌}
use Rattle.std.proofs.lemmas.Bool.{cases_lt}
use Rattle.std.proofs.lemmas.Bool.Decides.{nat_tests}
use Rattle.std.proofs.lemmas.List.{take-take, drop-take, drop-drop, drop_all}
use Rattle.rsml_meaning.specs.Words.{Each}
use Rattle.rsml_meaning.specs.EventLines.{Bytes}
use Rattle.rsml_meaning.specs.EventFiles.{Line, end_of, without_return, Limits, is_long}
use Rattle.event_file.specs.declared.next.Next.{Next}
use Rattle.event_file.specs.declared.next.Next.TheVariants as next
use Rattle.event_file.specs.Fronts.{width}
use Rattle.event_file.specs.Reading.{line_at, lines_ahead, next_of, next_at, Reading, taken, long_lines, IsRight, Fits, GivesLine, FindsLong, Answers, new_reading}
use Rattle.event_file.specs.helpers.Windows.{Holds}
use Rattle.event_file.specs.helpers.Turns.{settle, give, count_long}
use Rattle.event_file.proofs.LineLists.{rest, line_from, past, line_length, width_within}
use Rattle.event_file.proofs.Widths.{width-take}
use Rattle.event_file.proofs.Splits.{Split, split, following, line_there, none_there, begins, ahead, further, further_before, ended, ends, each_append, each_map}

-- Answers differ.

line_not_long : next.Line ≡ next.LineTooLong → ⊥
line_not_long h = cc

cut_not_line : next.TooLong ≡ next.Line → ⊥
cut_not_line h = cc

cut_not_long : next.TooLong ≡ next.LineTooLong → ⊥
cut_not_long h = cc

end_not_line : next.End ≡ next.Line → ⊥
end_not_line h = cc

end_not_long : next.End ≡ next.LineTooLong → ⊥
end_not_long h = cc

long_not_line : next.LineTooLong ≡ next.Line → ⊥
long_not_line h = cc

fault_not_line : next.ReadFault ≡ next.Line → ⊥
fault_not_line h = cc

fault_not_long : next.ReadFault ≡ next.LineTooLong → ⊥
fault_not_long h = cc

settled_is : (a : Next) → Some a ≡ None → ⊥
settled_is a h = cc

-- What comes, by the line at the offset.

module _ (limits : Limits) (size : ℕ) (line : Line) where
  long_comes : limits.line < length line.bytes → next_of limits size (Some line) ≡ next.LineTooLong
  long_comes h = let long : nat_lt limits.line (length line.bytes) ≡ true = grind (arith, nat_tests) in rw long refl

  not_long : length line.bytes ≤ limits.line → nat_lt limits.line (length line.bytes) ≡ false
  not_long h = grind (arith, nat_tests)

  cut_comes : length line.bytes ≤ limits.line → limits.file < size → limits.file < end_of line → next_of limits size (Some line) ≡ next.TooLong
  cut_comes short over past =
      let big : nat_lt limits.file size ≡ true = grind (arith, nat_tests) in
      let late : nat_lt limits.file (end_of line) ≡ true = grind (arith, nat_tests) in
      rw (not_long short, big, late) refl

  line_comes : length line.bytes ≤ limits.line → (end_of line ≤ limits.file) ⊎ (size ≤ limits.file) → next_of limits size (Some line) ≡ next.Line
  line_comes short (inl early) =
      let late : nat_lt limits.file (end_of line) ≡ false = grind (arith, nat_tests) in
      rw (not_long short, late) (by_test (nat_lt limits.file size))
    where
      by_test : (b : Bool) → (if b && false then next.TooLong else next.Line) ≡ next.Line
      by_test true = refl
      by_test false = refl
  line_comes short (inr small) =
      let big : nat_lt limits.file size ≡ false = grind (arith, nat_tests) in
      rw (not_long short, big) refl

  comes_long : next_of limits size (Some line) ≡ next.LineTooLong → IsTrue (is_long limits line)
  comes_long h = by_test (nat_lt limits.line (length line.bytes)) refl (nat_lt limits.file size && nat_lt limits.file (end_of line)) h
    where
      by_test : (b : Bool) → nat_lt limits.line (length line.bytes) ≡ b → (t : Bool) → (if b then next.LineTooLong else if t then next.TooLong else next.Line) ≡ next.LineTooLong → IsTrue (is_long limits line)
      by_test true e t k = e
      by_test false e true k = absurd (cut_not_long k)
      by_test false e false k = absurd (line_not_long k)

-- Of a reader that fits, and has settled nothing.

module _ (content : Bytes) (r : Reading) (f : Fits content r) where
  s : Split content r.at
  s = split content r.at f.begins

  abbrev left : Bytes
  left = rest content r.at

  abbrev line : Line
  line = line_from content (following content r.at s) r.at

  line_len : length line.bytes ≡ width left
  line_len = line_length content (following content r.at s) r.at

  there : r.at < length content → line_at content r.at ≡ Some line
  there = line_there content r.at s

  ahead_is : lines_ahead r.at content ≡ s.before
  ahead_is = ahead content r.at s

  left_len : length left + r.at ≡ length content
  left_len = omega (arith, length-drop r.at content, s.within)

  held_within : length r.held ≤ length left
  held_within = omega (arith, ap length f.holds, length-take (length r.held) left)

  held_width : width r.held ≡ min (length r.held) (width left)
  held_width = ap width f.holds ∙ width-take left (length r.held)

  -- where it settled something before
  pub repeats : (a : Next) → r.settled ≡ Some a → Answers content r a r
  repeats a is = by_answer a is (rw is at f.right)
    where
      number : r.settled ≡ Some next.LineTooLong → r.number ≡ following content r.at s
      number e = let n : r.number ≡ length (lines_ahead r.at content) + 1 = f.counts ∙ ap (λ o. length (lines_ahead r.at content) + long_lines o) e in omega (arith, n, ap length ahead_is)

      found : next_at r.limits content r.at ≡ next.LineTooLong → r.settled ≡ Some next.LineTooLong → (r.at < length content) ⊎ (length content ≤ r.at) → FindsLong content r.at r
      found comes e (inl inside) = record {
        line = line;
        there = there inside;
        number = number e;
        long = comes_long r.limits (length content) line (rw (there inside) at comes);
      }
      found comes e (inr over) = absurd (end_not_long (rw (none_there content r.at s (omega (arith, over, s.within))) at comes))

      by_answer : (a : Next) → r.settled ≡ Some a → IsRight content r a → Answers content r a r
      by_answer next.Line e right = absurd right
      by_answer next.ReadFault e right = record { fits = f; comes = λ not. absurd (not refl); line = λ h. absurd (fault_not_line h); long = λ h. absurd (fault_not_long h) }
      by_answer next.End e right = record { fits = f; comes = λ not. sym right; line = λ h. absurd (end_not_line h); long = λ h. absurd (end_not_long h) }
      by_answer next.TooLong e right = record { fits = f; comes = λ not. sym right; line = λ h. absurd (cut_not_line h); long = λ h. absurd (cut_not_long h) }
      by_answer next.LineTooLong e right = record {
        fits = f;
        comes = λ not. sym right;
        line = λ h. absurd (long_not_line h);
        long = λ h. found right e (cases_lt r.at (length content));
      }

  module _ (none : r.settled ≡ None) where
    -- after it read on
    pub read_on : (held line : Bytes) → Holds content r.at held → Fits content (record r { held = held; line = line })
    read_on held line holds = record {
      begins = f.begins;
      holds = holds;
      counts = f.counts;
      whole = f.whole;
      right = rw none tt;
    }

    number_ahead : r.number ≡ length (lines_ahead r.at content)
    number_ahead = let n : r.number ≡ length (lines_ahead r.at content) + 0 = f.counts ∙ ap (λ o. length (lines_ahead r.at content) + long_lines o) none in omega (arith, n)

    number_before : r.number ≡ length s.before
    number_before = number_ahead ∙ ap length ahead_is

    each_ends : Each (λ l. end_of l ≤ r.at) s.before
    each_ends = ends content r.at s (f.whole none)

    -- a settled answer that is right
    settles : (a : Next) → long_lines (Some a) ≡ 0 → IsRight content (settle a r) a → Fits content (settle a r)
    settles a short right = record {
      begins = f.begins;
      holds = f.holds;
      counts = let n : length (lines_ahead r.at content) + long_lines (Some a) ≡ length (lines_ahead r.at content) = omega (arith, short) in number_ahead ∙ sym n;
      whole = λ is. absurd (settled_is a is);
      right = right;
    }

    pub fault : width r.held ≡ length r.held → Answers content r next.ReadFault (settle next.ReadFault r)
    fault free = record {
      fits = settles next.ReadFault refl
          (ended content r.at s (taken r) (omega arith) (λ inside. omega (arith, held_width, free)) each_ends ∙ sym ahead_is);
      comes = λ not. absurd (not refl);
      line = λ h. absurd (fault_not_line h);
      long = λ h. absurd (fault_not_long h);
    }

    pub end_found : r.at ≡ length content → Answers content r next.End (settle next.End r)
    end_found end =
        let comes : next_at r.limits content r.at ≡ next.End = rw (none_there content r.at s end) refl in
        record {
          fits = settles next.End refl comes;
          comes = λ not. sym comes;
          line = λ h. absurd (end_not_line h);
          long = λ h. absurd (end_not_long h);
        }

    pub cut_found : r.at < length content → width left ≤ r.limits.line → r.limits.file < length content → r.limits.file < past content r.at → Answers content r next.TooLong (settle next.TooLong r)
    cut_found inside short over late =
        let comes : next_at r.limits content r.at ≡ next.TooLong =
        ap (next_of r.limits (length content)) (there inside) ∙ cut_comes r.limits (length content) line (omega (arith, line_len, short)) over (omega (arith, line_len, late)) in
        record {
          fits = settles next.TooLong refl comes;
          comes = λ not. sym comes;
          line = λ h. absurd (cut_not_line h);
          long = λ h. absurd (cut_not_long h);
        }

    pub long_found : r.limits.line < width r.held → Answers content r next.LineTooLong (settle next.LineTooLong (count_long r))
    long_found long =
        let over : r.limits.line < width left = omega (arith, long, held_width) in
        let inside : r.at < length content = omega (arith, over, width_within left, left_len) in
        let comes : next_at r.limits content r.at ≡ next.LineTooLong =
        ap (next_of r.limits (length content)) (there inside) ∙ long_comes r.limits (length content) line (omega (arith, line_len, over)) in
        record {
          fits = record {
            begins = f.begins;
            holds = f.holds;
            counts = ap (λ n. n + 1) number_ahead;
            whole = λ is. absurd (settled_is next.LineTooLong is);
            right = comes;
          };
          comes = λ not. sym comes;
          line = λ h. absurd (long_not_line h);
          long = λ h. record {
            line = line;
            there = there inside;
            number = omega (arith, number_before);
            long = comes_long r.limits (length content) line (rw (there inside) at comes);
          };
        }

    -- a line whose bytes are among those held, or are all that the file has left

    given_number : r.number + 1 ≡ length (s.before ++ line ∷ [])
    given_number = omega (arith, number_before, length-append s.before (line ∷ []))

    line_given : (n after : ℕ) (new : Reading) → take n r.held ≡ line.bytes → r.at < length content → r.at + after ≡ min (past content r.at) (length content) →
        new.number ≡ r.number + 1 → new.line ≡ without_return (take n r.held) → new.at ≡ r.at + after → GivesLine content r.at new
    line_given n after new whole inside e number bytes at = record {
      line = line;
      there = there inside;
      number = number ∙ omega (arith, number_before);
      bytes = bytes ∙ ap without_return whole;
      after = at ∙ e ∙ ap (λ n. min n (length content)) (let p : past content r.at ≡ end_of line = omega (arith, line_len) in p);
    }

    pub whole_given : (n : ℕ) → n ≡ width r.held → n < length r.held → n ≤ r.limits.line → r.at + n + 1 ≤ r.limits.file → Answers content r next.Line (give n (n + 1) r)
    whole_given n same within short early =
        let w : n ≡ width left = omega (arith, same, held_width, within) in
        let inside : r.at < length content = omega (arith, held_within, left_len, within) in
        let e : r.at + (n + 1) ≡ min (past content r.at) (length content) = omega (arith, w, held_within, left_len, within) in
        let bytes : take n r.held ≡ line.bytes = ap (take n) f.holds ∙ take-take n (length r.held) left (omega (arith, within)) ∙ ap (λ k. take k left) w in
        let t = further content r.at s (r.at + (n + 1)) inside e in
        let before' = further_before content r.at s (r.at + (n + 1)) inside e in
        let ahead' = ahead content (r.at + (n + 1)) t ∙ before' in
        let comes : next_at r.limits content r.at ≡ next.Line =
        ap (next_of r.limits (length content)) (there inside) ∙ line_comes r.limits (length content) line (omega (arith, line_len, w, short)) (inl (omega (arith, line_len, w, early))) in
        let m : length r.held ≡ n + 1 + (length r.held - (n + 1)) = omega (arith, within) in
        let rest_len : length (drop (n + 1) r.held) ≡ length r.held - (n + 1) = length-drop (n + 1) r.held in
        record {
          fits = record {
            begins = begins content (r.at + (n + 1)) t;
            holds =
                ap (drop (n + 1)) f.holds ∙ ap (λ k. drop (n + 1) (take k left)) m ∙ drop-take (n + 1) (length r.held - (n + 1)) left
                ∙ ap (take (length r.held - (n + 1))) (drop-drop (n + 1) r.at content) ∙ ap (λ k. take k (drop (r.at + (n + 1)) content)) (sym rest_len);
            counts = given_number ∙ ap length (sym ahead') ∙ (let z : length (lines_ahead (r.at + (n + 1)) content) ≡ length (lines_ahead (r.at + (n + 1)) content) + long_lines r.settled = rw none (omega arith) in z);
            whole = λ _. ended content (r.at + (n + 1)) t (r.at + (n + 1)) (omega arith) (λ _. omega arith)
                (subst (Each (λ l. end_of l ≤ r.at + (n + 1))) (sym before') (each_append (λ l. end_of l ≤ r.at + (n + 1)) s.before line (each_map (λ l h. omega (arith, h)) s.before each_ends) (omega (arith, line_len, w)))) ∙ sym (ahead content (r.at + (n + 1)) t);
            right = rw none tt;
          };
          comes = λ not. sym comes;
          line = λ h. line_given n (n + 1) (give n (n + 1) r) bytes inside e refl refl refl;
          long = λ h. absurd (line_not_long h);
        }

    pub last_given : (n : ℕ) → n ≡ length r.held → width r.held ≡ n → 0 < n → n ≤ r.limits.line → length content ≤ r.at + n → r.at + n ≤ r.limits.file → Answers content r next.Line (settle next.End (give n n r))
    last_given n all free some short past_end early =
        let inside : r.at < length content = omega (arith, held_within, left_len, all, some) in
        let size : r.at + n ≡ length content = omega (arith, held_within, left_len, all, past_end) in
        let w : n ≡ width left = omega (arith, all, free, held_width, width_within left, left_len, size) in
        let e : r.at + n ≡ min (past content r.at) (length content) = omega (arith, w, size) in
        let bytes : take n r.held ≡ line.bytes = ap (take n) f.holds ∙ take-take n (length r.held) left (omega (arith, all)) ∙ ap (λ k. take k left) w in
        let t = further content r.at s (r.at + n) inside e in
        let before' = further_before content r.at s (r.at + n) inside e in
        let ahead' = ahead content (r.at + n) t ∙ before' in
        let comes : next_at r.limits content r.at ≡ next.Line =
        ap (next_of r.limits (length content)) (there inside) ∙ line_comes r.limits (length content) line (omega (arith, line_len, w, short)) (inr (omega (arith, size, early))) in
        let after : next_at r.limits content (r.at + n) ≡ next.End = rw (none_there content (r.at + n) t size) refl in
        let nothing : drop n r.held ≡ [] = drop_all n r.held (omega (arith, all)) in
        record {
          fits = record {
            begins = begins content (r.at + n) t;
            holds = rw nothing refl;
            counts = given_number ∙ ap length (sym ahead') ∙ (let z : length (lines_ahead (r.at + n) content) ≡ length (lines_ahead (r.at + n) content) + 0 = omega arith in z);
            whole = λ is. absurd (settled_is next.End is);
            right = after;
          };
          comes = λ not. sym comes;
          line = λ h. line_given n n (settle next.End (give n n r)) bytes inside e refl refl refl;
          long = λ h. absurd (line_not_long h);
        }

    -- a line that the limit of the file cuts, whose LF is held, or that is all that the file has left

    pub whole_cut : width r.held < length r.held → width r.held ≤ r.limits.line → r.limits.file < r.at + width r.held + 1 → Answers content r next.TooLong (settle next.TooLong r)
    whole_cut within short late =
        let w : width r.held ≡ width left = omega (arith, held_width, within) in
        cut_found (omega (arith, held_within, left_len, within)) (omega (arith, w, short)) (omega (arith, held_within, left_len, within, late)) (omega (arith, w, late))

    pub last_cut : width r.held ≡ length r.held → 0 < length r.held → length r.held ≤ r.limits.line → length content ≤ r.at + length r.held → r.limits.file < r.at + length r.held →
        Answers content r next.TooLong (settle next.TooLong r)
    last_cut free some short past_end late =
        let size : r.at + length r.held ≡ length content = omega (arith, held_within, left_len, past_end) in
        let w : length r.held ≡ width left = omega (arith, free, held_width, width_within left, left_len, size) in
        cut_found (omega (arith, size, some)) (omega (arith, w, short)) (omega (arith, size, late)) (omega (arith, w, late))

    pub end_held : length r.held ≡ 0 → length content ≤ r.at + length r.held → Answers content r next.End (settle next.End r)
    end_held nothing past_end = end_found (omega (arith, nothing, past_end, s.within))

-- Of a reader that has read nothing.

abbrev at_front : (content : Bytes) → Split content 0
at_front content = record { before = []; same = refl; starts = tt; within = omega arith }

pub new_fits : (limits : Limits) (content : Bytes) → Fits content (new_reading limits)
new_fits limits content =
    let s = at_front content in
    let none = ahead content 0 s in
    record {
      begins = begins content 0 s;
      holds = refl;
      counts = let n : 0 ≡ length (lines_ahead 0 content) + 0 = rw none (omega arith) in n;
      whole = λ _. ended content 0 s 0 (omega arith) (λ _. omega arith) tt ∙ sym none;
      right = tt;
    }

-- What an answer of the reader after it read on is of the reader before.

pub before_reading : (content : Bytes) (old mid new : Reading) (a : Next) → mid.limits ≡ old.limits → mid.at ≡ old.at → Answers content mid a new → Answers content old a new
before_reading content old mid new a limits at answers = record {
  fits = answers.fits;
  comes = λ not. rw (← limits, ← at) (answers.comes not);
  line = λ h. rw (← at) (answers.line h);
  long = λ h. rw (← at) (answers.long h);
}
