-- The lines before an offset, and the first fault of a file.
use Rattle.std.proofs.Common.{◌≡◌, ℕ, Bool, true, false, cond, List, [], ◌∷◌, ◌++◌, length, Option, Some, None, refl, sym, ap, ◌∙◌, subst}
use Rattle.std.specs.Prelude.{is_none, take_while, min}
use Rattle.std.specs.List.{cons_option}
use Rattle.std.proofs.lemmas.List.Sums.{take_while-cons}
use Rattle.rsml_syntax.specs.declared.syntax.Spec.{Spec}
use Rattle.rsml_meaning.specs.Words.{Each, first_some}
use Rattle.rsml_meaning.specs.EventLines.{Bytes, LineRule, Outcome, breaks, tells}
use Rattle.rsml_meaning.specs.EventFiles.{Line, Limits, FileFault, long_line, broken_line, long_file, lines_of, end_of, without_return, outcome, rule_broken, messages, is_long, is_cut, fault_at, sound_lines, IsWellFormed, IsFirstFault}
use Rattle.rsml_meaning.specs.Laws.{WellFormedHasNoFault, FirstFaultIsOfLine}
use Rattle.event_file.specs.Reading.{line_at, Begins, lines_ahead}
use Rattle.event_file.proofs.CallerLemmas.{line_among, line_ahead, all_ahead}
use Rattle.simulator.specs.helpers.Turns.{said, rule_in, told_in}

-- Lists.

none_first : {A B : Type 0} (f : A → Option B) (xs : List A) → Each (λ x. f x ≡ None) xs → first_some f xs ≡ None
none_first f [] h = refl
none_first {A} {B} f (x ∷ xs) h = ap (λ (o : Option B). elim o [ Some y ↦ Some y | None ↦ first_some f xs ]) h.0 ∙ none_first f xs h.1

first_after : {A B : Type 0} (f : A → Option B) (xs : List A) (y : A) (ys : List A) (b : B) → Each (λ x. f x ≡ None) xs → f y ≡ Some b → first_some f (xs ++ (y ∷ ys)) ≡ Some b
first_after {A} {B} f [] y ys b h k = ap (λ (o : Option B). elim o [ Some z ↦ Some z | None ↦ first_some f ys ]) k
first_after {A} {B} f (x ∷ xs) y ys b h k = ap (λ (o : Option B). elim o [ Some z ↦ Some z | None ↦ first_some f (xs ++ (y ∷ ys)) ]) h.0 ∙ first_after f xs y ys b h.1 k

taken_before : {A B : Type 0} (f : A → Option B) (xs : List A) (y : A) (ys : List A) (b : B) → Each (λ x. f x ≡ None) xs → f y ≡ Some b → take_while (λ x. is_none (f x)) (xs ++ (y ∷ ys)) ≡ xs
taken_before f [] y ys b h k = take_while-cons (λ x. is_none (f x)) y ys ∙ ap (λ o. cond (is_none o) (y ∷ take_while (λ x. is_none (f x)) ys) []) k
taken_before f (x ∷ xs) y ys b h k =
    take_while-cons (λ x. is_none (f x)) x (xs ++ (y ∷ ys)) ∙ ap (λ o. cond (is_none o) (x ∷ take_while (λ x. is_none (f x)) (xs ++ (y ∷ ys))) []) h.0
    ∙ ap (λ zs. x ∷ zs) (taken_before f xs y ys b h.1 k)

pub each_more : {A : Type 0} (P : A → Type 0) (xs : List A) (y : A) → Each P xs → P y → Each P (xs ++ (y ∷ []))
each_more P [] y h k = (k, tt)
each_more P (x ∷ xs) y h k = (h.0, each_more P xs y h.1 k)

-- The fault of a line.

module _ (s : Spec) (limits : Limits) (size : ℕ) (line : Line) where
  abbrev by_rule : Option LineRule → Option FileFault
  by_rule o = elim o [ Some rule ↦ Some (broken_line line.number rule) | None ↦ None ]

  abbrev by_cut : Bool → Option FileFault
  by_cut b = elim b [ true ↦ Some long_file | false ↦ by_rule (rule_broken s line) ]

  abbrev by_long : Bool → Option FileFault
  by_long b = elim b [ true ↦ Some (long_line line.number) | false ↦ by_cut (is_cut limits size line) ]

  pub long_fault : is_long limits line ≡ true → fault_at s limits size line ≡ Some (long_line line.number)
  long_fault h = ap by_long h

  pub cut_fault : is_long limits line ≡ false → is_cut limits size line ≡ true → fault_at s limits size line ≡ Some long_file
  cut_fault h k = ap by_long h ∙ ap by_cut k

  pub rule_fault : (rule : LineRule) → is_long limits line ≡ false → is_cut limits size line ≡ false → rule_broken s line ≡ Some rule → fault_at s limits size line ≡ Some (broken_line line.number rule)
  rule_fault rule h k r = ap by_long h ∙ ap by_cut k ∙ ap by_rule r

  pub no_fault : is_long limits line ≡ false → is_cut limits size line ≡ false → rule_broken s line ≡ None → fault_at s limits size line ≡ None
  no_fault h k r = ap by_long h ∙ ap by_cut k ∙ ap by_rule r

-- What a line says, by its bytes without the CR.

module _ (s : Spec) (line : Line) (text : Bytes) (same : text ≡ without_return line.bytes) where
  said_outcome : outcome s line ≡ said s text
  said_outcome = ap (said s) (sym same)

  pub rule_of_said : rule_broken s line ≡ rule_in (said s text)
  rule_of_said = ap rule_in said_outcome

  of_outcome : (o : Option Outcome) → cons_option (elim o [ Some (tells m) ↦ Some m | _ ↦ None ]) [] ≡ told_in o
  of_outcome None = refl
  of_outcome (Some (breaks rule)) = refl
  of_outcome (Some (tells m)) = refl

  pub messages_of_said : messages s (line ∷ []) ≡ told_in (said s text)
  messages_of_said = of_outcome (outcome s line) ∙ ap told_in said_outcome

-- Lines before an offset that have no fault.

abbrev pub AreSound : Spec → Limits → Bytes → List Line → Type 0
AreSound s limits content ls = Each (λ l. fault_at s limits (length content) l ≡ None) ls

module _ (s : Spec) (limits : Limits) (content : Bytes) (at : ℕ) (begins : Begins content at) (sound : AreSound s limits content (lines_ahead at content)) where
  pub sound_whole : WellFormedHasNoFault → line_at content at ≡ None → IsWellFormed s limits content
  sound_whole law none =
      (law s limits content).0 (none_first (fault_at s limits (length content)) (lines_of content) (subst (AreSound s limits content) (all_ahead content at begins none) sound))

  module _ (line : Line) (there : line_at content at ≡ Some line) (fault : FileFault) (is : fault_at s limits (length content) line ≡ Some fault) where
    pub fault_is_first : FirstFaultIsOfLine → IsFirstFault s limits content fault
    fault_is_first law =
        let among = line_among content at begins line there in
        (law s limits content fault).0 (ap (first_some (fault_at s limits (length content))) among.1 ∙ first_after (fault_at s limits (length content)) (lines_ahead at content) line among.0 fault sound is)

    pub sound_before : sound_lines s limits content ≡ lines_ahead at content
    sound_before =
        let among = line_among content at begins line there in
        ap (take_while (λ l. is_none (fault_at s limits (length content) l))) among.1 ∙ taken_before (fault_at s limits (length content)) (lines_ahead at content) line among.0 fault sound is

  module _ (line : Line) (after : ℕ) (there : line_at content at ≡ Some line) (goes : after ≡ min (end_of line) (length content)) where
    pub ahead_of_next : lines_ahead after content ≡ lines_ahead at content ++ (line ∷ [])
    ahead_of_next = line_ahead content at begins line after there goes

    pub sound_next : fault_at s limits (length content) line ≡ None → AreSound s limits content (lines_ahead after content)
    sound_next none = subst (AreSound s limits content) (sym ahead_of_next) (each_more (λ l. fault_at s limits (length content) l ≡ None) (lines_ahead at content) line sound none)
