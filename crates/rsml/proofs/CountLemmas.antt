-- The number that digits write, digit by digit.
use Rattle.std.proofs.Common.{◌≡◌, ℕ, ◌+◌, ◌-◌, ◌*◌, ◌<◌, ◌≤◌, List, Bool, true, false, [], ◌∷◌, length, drop, get_or, Option, Some, None, refl, sym, ap, ◌∙◌, subst, arith}
use Rattle.std.specs.Prelude.{if◌then◌else◌, ◌==◌, ◌&&◌, codes, fold, nat_le, option_and_then}
use Rattle.std.specs.Option.{option_map, option_or}
use Rattle.std.specs.Char.{is_ascii_digit}
use Rattle.std.specs.Str.{byte, all_ascii_digits}
use Rattle.std.proofs.lemmas.Bool.Decides.{nat_tests}
use Rattle.std.proofs.lemmas.List.{drop_all, drop_more}
use Rattle.rsml_meaning.specs.EventLines.{Bytes, digits_number}
use Rattle.rsml_syntax.specs.text.Names.{same}
use Rattle.following.specs.declared.event_action.EventAction.{EventAction}
use Rattle.pairing.specs.declared.pair_action.PairAction.{PairAction}
use Rattle.rsml.specs.Commands.{Command, act, follow, pair, demo, version, command_of, command_on, explained_command_on, with_file, with_files, with_texts, with_columns, with_explained_columns, explains_gaps, action_of, event_action_of, explained_action_of, pair_action_of, explained_pair_action_of, IsCounted, AreCounted}
use Rattle.rsml.specs.Counts.{most, within, count_of}
use Rattle.rsml.specs.declared.command.Action.{Action}
use Rattle.rsml.specs.declared.command.Action.TheVariants as action

-- the number that more digits make of a number
abbrev pub counted : ℕ → Bytes → ℕ
counted n cs = fold (λ n c. n * 10 + (c - byte "0")) n cs

-- the same, or 100 in place of a greater one, if all are digits
abbrev pub more_digits : ℕ → Bytes → Option ℕ
more_digits n cs = if all_ascii_digits cs then Some (most (counted n cs)) else None

-- a bound before the last digits is as good as one after them
most_before : (a b : ℕ) (cs : Bytes) → most a ≡ most b → most (counted a cs) ≡ most (counted b cs)
most_before a b [] h = h
most_before a b (c ∷ cs) h = most_before (a * 10 + (c - 48)) (b * 10 + (c - 48)) cs (omega (arith, h))

same_digits : (a b : ℕ) (cs : Bytes) → most a ≡ most b → more_digits a cs ≡ more_digits b cs
same_digits a b cs h = ap (λ n. if all_ascii_digits cs then Some n else None) (most_before a b cs h)

-- one digit more
digit_more : (n : ℕ) (c : ℕ) (cs : Bytes) → is_ascii_digit c ≡ true → more_digits n (c ∷ cs) ≡ more_digits (n * 10 + (c - 48)) cs
digit_more n c cs h = ap (λ b. if b && all_ascii_digits cs then Some (most (counted n (c ∷ cs))) else None) h

after_most : (n d r : ℕ) → r ≡ most (n * 10 + d) → most r ≡ most (n * 10 + d)
after_most n d r h = omega (arith, h)

-- a turn of the loop over digits
pub digit_turn : (text : Bytes) (i n r : ℕ) (all : Option ℕ) → i < length text → is_ascii_digit (get_or text i 0) ≡ true →
    r ≡ most (n * 10 + (get_or text i 0 - 48)) → more_digits n (drop i text) ≡ all → more_digits r (drop (i + 1) text) ≡ all
digit_turn text i n r all h digit is e =
    let c = get_or text i 0 in
    same_digits r (n * 10 + (c - 48)) (drop (i + 1) text) (after_most n (c - 48) r is)
    ∙ sym (digit_more n c (drop (i + 1) text) digit) ∙ sym (ap (more_digits n) (drop_more text i 0 h)) ∙ e

-- all digits were read
pub digits_end : (text : Bytes) (i n : ℕ) → length text ≤ i → n ≤ 100 → more_digits n (drop i text) ≡ Some n
digits_end text i n h small = ap (more_digits n) (drop_all i text h) ∙ ap Some (omega (arith, small))

pub digits_are : (text : Bytes) → false ≡ (length text == 0) → option_map most (digits_number text) ≡ more_digits 0 text
digits_are [] h = absurd (let no : false ≡ true = h in cc)
digits_are (c ∷ cs) h = by (all_ascii_digits (c ∷ cs))
  where
    by : (b : Bool) → option_map most (if b then Some (counted 0 (c ∷ cs)) else None) ≡ (if b then Some (most (counted 0 (c ∷ cs))) else None)
    by true = refl
    by false = refl

-- they are from 1 to the limit
pub count_within : (limit : ℕ) (word : Bytes) (n : ℕ) → count_of limit word ≡ Some n → (1 ≤ n) × (n ≤ limit)
count_within limit word n e = by (digits_number word) e
  where
    of : (d : ℕ) (a b : Bool) → nat_le 1 d ≡ a → nat_le d limit ≡ b → (if a && b then Some d else None) ≡ Some n → (1 ≤ n) × (n ≤ limit)
    of d true true h k f = let same : d ≡ n = cc in (grind (arith, nat_tests), grind (arith, nat_tests))
    of d true false h k f = absurd (let no : ⊥ = cc in no)
    of d false b h k f = absurd (let no : ⊥ = cc in no)

    by : (o : Option ℕ) → option_and_then (within limit) o ≡ Some n → (1 ≤ n) × (n ≤ limit)
    by None f = absurd (let no : ⊥ = cc in no)
    by (Some d) f = of d (nat_le 1 d) (nat_le d limit) refl refl f

-- The units and the columns of a command.

module _ (P : Command → Type 0) where
  -- what holds of the commands that actions make holds of the one that is made
  of_action : (file : Bytes) (c : Command) (o : Option Action) → ((does : Action) → o ≡ Some does → P (act does file)) → option_map (with_file file) o ≡ Some c → P c
  of_action file c None h e = absurd (let no : ⊥ = cc in no)
  of_action file c (Some does) h e = let same : act does file ≡ c = cc in subst P same (h does refl)

  of_events : (file events : Bytes) (c : Command) (o : Option EventAction) → ((does : EventAction) → P (follow does file events)) → option_map (with_files file events) o ≡ Some c → P c
  of_events file events c None h e = absurd (let no : ⊥ = cc in no)
  of_events file events c (Some does) h e = let same : follow does file events ≡ c = cc in subst P same (h does)

  -- of those on two texts, and of these
  of_two : (file other : Bytes) (c : Command) (o : Option PairAction) (p : Option EventAction) → ((does : PairAction) → P (pair does file other))
      → ((does : EventAction) → P (follow does file other)) → option_or (option_map (with_texts file other) o) (option_map (with_files file other) p) ≡ Some c
      → P c
  of_two file other c (Some does) p h k e = let same : pair does file other ≡ c = cc in subst P same (h does)
  of_two file other c None p h k e = of_events file other c p k e

  -- of the commands that a number makes
  of_count : (make : ℕ → Command) (limit : ℕ) (word : Bytes) (c : Command) (o : Option ℕ) → count_of limit word ≡ o
      → ((n : ℕ) → (1 ≤ n) × (n ≤ limit) → P (make n)) → option_map make o ≡ Some c → P c
  of_count make limit word c None is h e = absurd (let no : ⊥ = cc in no)
  of_count make limit word c (Some n) is h e = let same : make n ≡ c = cc in subst P same (h n (count_within limit word n is))

-- the action by whether the word is each of these
abbrev chosen : Bool → Bool → Bool → Bool → Option Action
chosen a b c d = elim a [
  | true ↦ Some action.Check
  | false ↦ elim b [
    | true ↦ Some action.Explain
    | false ↦ elim c [
      | true ↦ Some action.Format
      | false ↦ elim d [ true ↦ Some action.Migrate | false ↦ None ]
    ]
  ]
]

-- an action that a word alone asks for has no columns
plain : (word : Bytes) (does : Action) → action_of word ≡ Some does → IsCounted does
plain word does e = by (same word (codes "check")) (same word (codes "explain")) (same word (codes "format")) (same word (codes "migrate")) e
  where
    made : (one : Action) → IsCounted one → Some one ≡ Some does → IsCounted does
    made one h f = let is : one ≡ does = cc in subst IsCounted is h

    by : (a b c d : Bool) → chosen a b c d ≡ Some does → IsCounted does
    by true b c d f = made action.Check tt f
    by false true c d f = made action.Explain tt f
    by false false true d f = made action.Format tt f
    by false false false true f = made action.Migrate tt f
    by false false false false f = absurd (let no : ⊥ = cc in no)

pub are_counted : (words : List Bytes) (c : Command) → command_of words ≡ Some c → AreCounted c
are_counted [] c e = absurd (let no : ⊥ = cc in no)
are_counted (word ∷ []) c e = by (same word (codes "version")) e
  where
    by : (b : Bool) → (if b then Some version else None) ≡ Some c → AreCounted c
    by true f = let same : version ≡ c = cc in subst AreCounted same tt
    by false f = absurd (let no : ⊥ = cc in no)
are_counted (word ∷ file ∷ []) c e = by (same word (codes "demo")) e
  where
    by : (b : Bool) → (if b then option_map demo (count_of 64 file) else option_map (with_file file) (action_of word)) ≡ Some c → AreCounted c
    by true f = of_count AreCounted demo 64 file c (count_of 64 file) refl (λ n h. h) f
    by false f = of_action AreCounted file c (action_of word) (λ does g. plain word does g) f
are_counted (word ∷ file ∷ other ∷ []) c e = by (same word (codes "gaps")) e
  where
    by : (b : Bool) → (if b then option_map (with_columns file) (count_of 99 other) else command_on word file other) ≡ Some c → AreCounted c
    by true f = of_count AreCounted (with_columns file) 99 other c (count_of 99 other) refl (λ n h. h) f
    by false f = of_two AreCounted file other c (pair_action_of word) (event_action_of word) (λ does. tt) (λ does. tt) f
are_counted (first ∷ word ∷ file ∷ other ∷ []) c e = by (explains_gaps first word) e
  where
    by : (b : Bool) → (if b then option_map (with_explained_columns file) (count_of 99 other) else explained_command_on first word file other) ≡ Some c
        → AreCounted c
    by true f = of_count AreCounted (with_explained_columns file) 99 other c (count_of 99 other) refl (λ n h. h) f
    by false f = of_two AreCounted file other c (explained_pair_action_of first word) (explained_action_of first word) (λ does. tt) (λ does. tt) f
are_counted (first ∷ word ∷ file ∷ other ∷ more ∷ words) c e = absurd (let no : ⊥ = cc in no)
