-- Answers of a reader where it may be told what the file holds.
use Rattle.std.proofs.Common.{◌≡◌, ℕ, ◌+◌, ◌<◌, ◌≤◌, ◌⊎◌, inl, inr, length, Option, Some, None, refl, ap, ◌∙◌, arith}
use Rattle.std.specs.Prelude.{IfSome}
use Rattle.std.proofs.lemmas.Bool.{cases_lt}
use Rattle.rsml_meaning.specs.EventLines.{Bytes}
use Rattle.event_file.specs.declared.next.Next.{Next}
use Rattle.event_file.specs.declared.next.Next.TheVariants as next
use Rattle.event_file.specs.Fronts.{width}
use Rattle.event_file.specs.Reading.{Reading, Fits, Answers}
use Rattle.event_file.specs.helpers.Windows.{Holds}
use Rattle.event_file.specs.helpers.Turns.{settle, give, count_long}
use Rattle.event_file.proofs.AnswerLemmas.{repeats, read_on, fault, end_held, whole_cut, last_cut, long_found, whole_given, last_given, before_reading}

pub repeats_told : (told : Option Bytes) (r : Reading) (a : Next) → r.settled ≡ Some a → IfSome told (λ content. Fits content r) → IfSome told (λ content. Answers content r a r)
repeats_told None r a is f = tt
repeats_told (Some content) r a is f = repeats content r f a is

-- a reader before it reads on, and after that
module _ (old mid : Reading) (none : old.settled ≡ None) (same : mid ≡ record old { held = mid.held; line = mid.line }) where
  limits_kept : mid.limits ≡ old.limits
  limits_kept = ap (λ (r : Reading). r.limits) same

  at_kept : mid.at ≡ old.at
  at_kept = ap (λ (r : Reading). r.at) same

  unsettled : mid.settled ≡ None
  unsettled = ap (λ (r : Reading). r.settled) same ∙ none

  module _ (content : Bytes) (f : Fits content old) (holds : Holds content old.at old.held → Holds content old.at mid.held) where
    fits : Fits content mid
    fits = rw same (read_on content old f none mid.held mid.line (holds f.holds))

    answered : (a b : Next) (new new' : Reading) → a ≡ b → new ≡ new' → Answers content mid b new' → Answers content old a new
    answered a b new new' is made answers = before_reading content old mid new a limits_kept at_kept (rw (is, made) answers)

    whole_answer : (n : ℕ) (a : Next) (new : Reading) → n ≡ width mid.held → n < length mid.held → n ≤ old.limits.line →
        (mid.limits.file < mid.at + n + 1 → (a ≡ next.TooLong) × (new ≡ settle next.TooLong mid)) →
        (mid.at + n + 1 ≤ mid.limits.file → (a ≡ next.Line) × (new ≡ give n (n + 1) mid)) → Answers content old a new
    whole_answer n a new w within short cut line = by_size (cases_lt mid.limits.file (mid.at + n + 1))
      where
        short' : n ≤ mid.limits.line
        short' = rw limits_kept short

        by_size : (mid.limits.file < mid.at + n + 1) ⊎ (mid.at + n + 1 ≤ mid.limits.file) → Answers content old a new
        by_size (inl late) =
            let made = cut late in
            answered a next.TooLong new (settle next.TooLong mid) made.0 made.1
            (whole_cut content mid fits unsettled (omega (arith, w, within)) (omega (arith, w, short')) (omega (arith, w, late)))
        by_size (inr early) =
            let made = line early in
            answered a next.Line new (give n (n + 1) mid) made.0 made.1 (whole_given content mid fits unsettled n w within short' early)

    last_answer : (a : Next) (new : Reading) → width mid.held ≡ length mid.held → length mid.held ≤ old.limits.line → length content ≤ old.at + length mid.held →
        (length mid.held ≡ 0 → (a ≡ next.End) × (new ≡ settle next.End mid)) →
        (0 < length mid.held → mid.limits.file < mid.at + length mid.held → (a ≡ next.TooLong) × (new ≡ settle next.TooLong mid)) →
        (0 < length mid.held → mid.at + length mid.held ≤ mid.limits.file → (a ≡ next.Line) × (new ≡ settle next.End (give (length mid.held) (length mid.held) mid))) → Answers content old a new
    last_answer a new free short past end cut line = by_some (cases_lt 0 (length mid.held)) (cases_lt mid.limits.file (mid.at + length mid.held))
      where
        short' : length mid.held ≤ mid.limits.line
        short' = rw limits_kept short

        past' : length content ≤ mid.at + length mid.held
        past' = rw at_kept past

        by_some : (0 < length mid.held) ⊎ (length mid.held ≤ 0) → (mid.limits.file < mid.at + length mid.held) ⊎ (mid.at + length mid.held ≤ mid.limits.file) → Answers content old a new
        by_some (inr nothing) _ =
            let empty : length mid.held ≡ 0 = omega (arith, nothing) in
            let made = end empty in
            answered a next.End new (settle next.End mid) made.0 made.1 (end_held content mid fits unsettled empty past')
        by_some (inl some) (inl late) =
            let made = cut some late in
            answered a next.TooLong new (settle next.TooLong mid) made.0 made.1 (last_cut content mid fits unsettled free some short' past' late)
        by_some (inl some) (inr early) =
            let made = line some early in
            answered a next.Line new (settle next.End (give (length mid.held) (length mid.held) mid)) made.0 made.1
            (last_given content mid fits unsettled (length mid.held) refl free some short' past' early)

  pub fault_told : (told : Option Bytes) (a : Next) (new : Reading) → IfSome told (λ content. Fits content old) → IfSome told (λ content. Holds content old.at old.held → Holds content old.at mid.held) →
      width mid.held ≡ length mid.held → a ≡ next.ReadFault → new ≡ settle next.ReadFault mid → IfSome told (λ content. Answers content old a new)
  fault_told None a new f holds free is made = tt
  fault_told (Some content) a new f holds free is made =
      answered content f holds a next.ReadFault new (settle next.ReadFault mid) is made (fault content mid (fits content f holds) unsettled free)

  pub long_told : (told : Option Bytes) (a : Next) (new : Reading) → IfSome told (λ content. Fits content old) → IfSome told (λ content. Holds content old.at old.held → Holds content old.at mid.held) →
      old.limits.line < width mid.held → a ≡ next.LineTooLong → new ≡ settle next.LineTooLong (count_long mid) → IfSome told (λ content. Answers content old a new)
  long_told None a new f holds long is made = tt
  long_told (Some content) a new f holds long is made =
      answered content f holds a next.LineTooLong new (settle next.LineTooLong (count_long mid)) is made (long_found content mid (fits content f holds) unsettled (rw limits_kept long))

  pub whole_told : (told : Option Bytes) (n : ℕ) (a : Next) (new : Reading) → IfSome told (λ content. Fits content old) → IfSome told (λ content. Holds content old.at old.held → Holds content old.at mid.held) →
      n ≡ width mid.held → n < length mid.held → n ≤ old.limits.line →
      (mid.limits.file < mid.at + n + 1 → (a ≡ next.TooLong) × (new ≡ settle next.TooLong mid)) →
      (mid.at + n + 1 ≤ mid.limits.file → (a ≡ next.Line) × (new ≡ give n (n + 1) mid)) → IfSome told (λ content. Answers content old a new)
  whole_told None n a new f holds w within short cut line = tt
  whole_told (Some content) n a new f holds w within short cut line = whole_answer content f holds n a new w within short cut line

  pub last_told : (told : Option Bytes) (a : Next) (new : Reading) → IfSome told (λ content. Fits content old) → IfSome told (λ content. Holds content old.at old.held → Holds content old.at mid.held) →
      IfSome told (λ content. length content ≤ old.at + length mid.held) → width mid.held ≡ length mid.held → length mid.held ≤ old.limits.line →
      (length mid.held ≡ 0 → (a ≡ next.End) × (new ≡ settle next.End mid)) →
      (0 < length mid.held → mid.limits.file < mid.at + length mid.held → (a ≡ next.TooLong) × (new ≡ settle next.TooLong mid)) →
      (0 < length mid.held → mid.at + length mid.held ≤ mid.limits.file → (a ≡ next.Line) × (new ≡ settle next.End (give (length mid.held) (length mid.held) mid))) → IfSome told (λ content. Answers content old a new)
  last_told None a new f holds past free short end cut line = tt
  last_told (Some content) a new f holds past free short end cut line = last_answer content f holds a new free short past end cut line
