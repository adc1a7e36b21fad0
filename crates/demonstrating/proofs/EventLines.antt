-- A line that gives a unit a depth breaks no rule.
use Rattle.std.proofs.Common.{◌≡◌, ℕ, suc, ◌<◌, ◌≤◌, Bool, true, false, not, ◌&&◌, ◌||◌, ◌==◌, [], ◌∷◌, ◌++◌, length, filter, nat_eq, zero, inl, inr, Option, Some, None, refl, sym, ap, ◌∙◌, true≢false, append_assoc, length-append, arith}
use Rattle.std.specs.Cmp.{first_so, second_so}
use Rattle.std.specs.Fmt.{digits}
use Rattle.std.specs.List.{list_all}
use Rattle.std.specs.Prelude.{nat_lt, nat_le, codes, decimal, if◌then◌else◌, ℤ, pos, negsuc, int_le, zip, option_and_then}
use Rattle.std.specs.Str.{is_utf8}
use Rattle.std.proofs.lemmas.Bool.Decides.{nat_tests}
use Rattle.std.proofs.lemmas.List.Sums.{AllPass-from_list_all}
use Rattle.std.proofs.lemmas.Str.{IsUtf8-from_ascii, is_utf8-from_IsUtf8}
use Rattle.std.proofs.lemmas.Str.Ascii.{IsAscii-from_all}
use Rattle.rsml_syntax.specs.declared.syntax.Spec.{Spec}
use Rattle.rsml_syntax.specs.rules.Globals.{Globals, up_to}
use Rattle.rsml_meaning.specs.Words.{IsOne}
use Rattle.rsml_meaning.specs.Instances.{globals_of}
use Rattle.rsml_meaning.specs.Cells.{input_type, is_of}
use Rattle.rsml_meaning.specs.Interfaces.{new_receive}
use Rattle.rsml_meaning.specs.EventLines.{Bytes, LineRule, Outcome, all_some, up_to_size, read_fields, E3, E6, E7, is_blank, is_empty, is_skipped, words, digits_number, signed_number, before_close, Message, breaks, tells, read_words, read_line, E1}
use Rattle.rsml_meaning.specs.EventFiles.{rule_broken}
use Rattle.rsml_meaning.proofs.Lists.{list_all_one, all_append}
use Rattle.demonstrating.specs.Writing.{plain, at_this}
use Rattle.demonstrating.specs.Plant.{plant}
use Rattle.demonstrating.specs.Events.{load}
use Rattle.demonstrating.proofs.Lists.{up_to_has}
use Rattle.demonstrating.proofs.Pieces.{is_unparted, one_piece, next_piece, is_feed, no_return, closed}

-- Characters.

-- one that is seen, or a space
abbrev pub printed : ℕ → Bool
printed c = nat_lt 31 c && nat_lt c 128

-- one that is seen
abbrev seen : ℕ → Bool
seen c = nat_lt 32 c && nat_lt c 128

more_pass : (p q : ℕ → Bool) → ((c : ℕ) → p c ≡ true → q c ≡ true) → (cs : Bytes) → list_all p cs ≡ true → list_all q cs ≡ true
more_pass p q f [] h = refl
more_pass p q f (c ∷ cs) h = λ i. f c (first_so (p c) (list_all p cs) h) i && more_pass p q f cs (second_so (p c) (list_all p cs) h) i

seen_printed : (c : ℕ) → seen c ≡ true → printed c ≡ true
seen_printed c h = grind (arith, nat_tests)

seen_unblank : (c : ℕ) → seen c ≡ true → not (c == 32 || c == 9) ≡ true
seen_unblank c h = grind (arith, nat_tests)

printed_fed : (c : ℕ) → printed c ≡ true → not (c == 10) ≡ true
printed_fed c h = grind (arith, nat_tests)

printed_unreturned : (c : ℕ) → printed c ≡ true → not (c == 13) ≡ true
printed_unreturned c h = grind (arith, nat_tests)

printed_low : (c : ℕ) → printed c ≡ true → c < 128
printed_low c h = grind (arith, nat_tests)

printed_utf8 : (cs : Bytes) → list_all printed cs ≡ true → is_utf8 cs ≡ true
printed_utf8 cs h =
    let ascii = IsAscii-from_all cs (λ k d within. printed_low _ (AllPass-from_list_all printed cs h k d within)) in
    is_utf8-from_IsUtf8 cs (IsUtf8-from_ascii cs ascii)

-- Numbers of at most three digits, each computed.

is_number : ℕ → Option ℕ → Bool
is_number n None = false
is_number n (Some m) = nat_eq m n

is_positive : ℕ → Option ℤ → Bool
is_positive n None = false
is_positive n (Some (pos m)) = nat_eq m n
is_positive n (Some (negsuc m)) = false

-- it is a depth
abbrev is_ranged : ℕ → Bool
is_ranged n = int_le (pos 0) (pos n) && int_le (pos n) (pos 999)

is_told : ℕ → Bool
is_told n =
    is_number n (digits_number (decimal n)) && (is_positive n (signed_number (decimal n))
    && (is_ranged n && (nat_le (length (decimal n)) 3 && list_all seen (decimal n))))

all_told : list_all is_told (0 ∷ up_to 999) ≡ true
unfolding is_told is_number is_positive digits
all_told = refl

-- What is known of a number in decimal.
pub record IsTold (n : ℕ) : Type 0 where
  pub number : digits_number (decimal n) ≡ Some n
  pub positive : signed_number (decimal n) ≡ Some (pos n)
  pub ranged : is_ranged n ≡ true
  pub short : length (decimal n) ≤ 3
  pub shown : list_all seen (decimal n) ≡ true

number_is : (n : ℕ) (o : Option ℕ) → is_number n o ≡ true → o ≡ Some n
unfolding is_number
number_is n None h = absurd (true≢false (sym h))
number_is n (Some m) h = ap (λ k. Some k) (same m n h)
  where
    same : (m n : ℕ) → nat_eq m n ≡ true → m ≡ n
    same m n h = grind (arith, nat_tests)

positive_is : (n : ℕ) (o : Option ℤ) → is_positive n o ≡ true → o ≡ Some (pos n)
unfolding is_positive
positive_is n None h = absurd (true≢false (sym h))
positive_is n (Some (pos m)) h = ap (λ k. Some (pos k)) (same m n h)
  where
    same : (m n : ℕ) → nat_eq m n ≡ true → m ≡ n
    same m n h = grind (arith, nat_tests)
positive_is n (Some (negsuc m)) h = absurd (true≢false (sym h))

told : (n : ℕ) → is_told n ≡ true → IsTold n
unfolding is_told
told n h =
    let number = is_number n (digits_number (decimal n)) in
    let positive = is_positive n (signed_number (decimal n)) in
    let few = nat_le (length (decimal n)) 3 in
    let shown = list_all seen (decimal n) in
    let others = second_so number (positive && (is_ranged n && (few && shown))) h in
    let more = second_so positive (is_ranged n && (few && shown)) others in
    let last = second_so (is_ranged n) (few && shown) more in
    record {
      number = number_is n (digits_number (decimal n)) (first_so number (positive && (is_ranged n && (few && shown))) h);
      positive = positive_is n (signed_number (decimal n)) (first_so positive (is_ranged n && (few && shown)) others);
      ranged = first_so (is_ranged n) (few && shown) more;
      short = is_few (length (decimal n)) (first_so few shown last);
      shown = second_so few shown last;
    }
  where
    is_few : (k : ℕ) → nat_le k 3 ≡ true → k ≤ 3
    is_few k h = grind (arith, nat_tests)

pub number_told : (n : ℕ) → n ≤ 999 → IsTold n
number_told n h = told n (list_all_one is_told (0 ∷ up_to 999) n all_told (at_place n h))
  where
    at_place : (n : ℕ) → n ≤ 999 → IsOne n (0 ∷ up_to 999)
    at_place zero h = inl refl
    at_place (suc n) h = inr (up_to_has 999 (suc n) (omega arith) h)

-- The line.

abbrev first_word : ℕ → Bytes
first_word unit = codes "Load[" ++ (decimal unit ++ codes "]")

abbrev second_word : ℕ → Bytes
second_word depth = codes "Depth=" ++ decimal depth

pub load_printed : (unit depth : ℕ) → IsTold unit → IsTold depth → list_all printed (load unit depth) ≡ true
load_printed unit depth u d =
    all_append printed (decimal unit) (codes "] Depth=" ++ decimal depth) (more_pass seen printed seen_printed (decimal unit) u.shown)
    (more_pass seen printed seen_printed (decimal depth) d.shown)

first_unblank : (unit : ℕ) → IsTold unit → is_unparted is_blank (first_word unit) ≡ true
first_unblank unit u =
    all_append (λ c. not (is_blank c)) (decimal unit) (codes "]")
    (more_pass seen (λ c. not (is_blank c)) seen_unblank (decimal unit) u.shown) refl

second_unblank : (depth : ℕ) → IsTold depth → is_unparted is_blank (second_word depth) ≡ true
second_unblank depth d = more_pass seen (λ c. not (is_blank c)) seen_unblank (decimal depth) d.shown

words_are : (unit depth : ℕ) → IsTold unit → IsTold depth → words (load unit depth) ≡ first_word unit ∷ second_word depth ∷ []
words_are unit depth u d =
    ap words (ap (λ r. codes "Load[" ++ r) (sym (append_assoc (decimal unit) (codes "]") (32 ∷ second_word depth))))
    ∙ ap (λ ps. filter (λ piece. not (is_empty piece)) ps)
    (next_piece is_blank (first_word unit) 32 (second_word depth) (first_unblank unit u) refl
    ∙ ap (λ ps. first_word unit ∷ ps) (one_piece is_blank (second_word depth) (second_unblank depth d)))

at_most : (m n : ℕ) → m ≤ n → nat_le m n ≡ true
at_most m n h = grind (arith, nat_tests)

-- the event that such a line tells
abbrev pub loaded : ℕ → ℕ → ℕ → Message
loaded n unit depth =
    record {
      receive = new_receive (globals_of (plant n)) (codes "Load") (at_this "Depth" ∷ []) (plain "Go") unit;
      numbers = pos depth ∷ [];
    }

-- the index between the brackets is that of the unit
index_is : (n unit : ℕ) → 1 ≤ unit → unit ≤ n → IsTold unit
    → option_and_then (up_to_size n) (option_and_then digits_number (before_close (decimal unit ++ (93 ∷ [])))) ≡ Some unit
index_is n unit h k u =
    ap (λ o. option_and_then (up_to_size n) (option_and_then digits_number o)) (closed (decimal unit))
    ∙ ap (option_and_then (up_to_size n)) u.number
    ∙ (λ i. if at_most 1 unit h i && at_most unit n k i then Some unit else None)

-- what the words come to by the index, and then by the number of the depth
abbrev by_index : Globals → ℕ → Option ℕ → Outcome
by_index g depth o = elim o [
  | None ↦ breaks E3
  | Some index ↦
      read_fields g (codes "Depth" ∷ []) (new_receive g (codes "Load") (at_this "Depth" ∷ []) (plain "Go") index) (second_word depth ∷ [])
]

abbrev by_number : ℕ → ℕ → Option ℤ → Outcome
by_number n unit o = elim (all_some (o ∷ [])) [
  | None ↦ breaks E6
  | Some numbers ↦
      if list_all (λ x. is_of x.0 x.1) (zip (input_type (globals_of (plant n)) (codes "Depth") ∷ []) numbers)
      then tells (record { receive = (loaded n unit 0).receive; numbers = numbers }) else breaks E7
]

reads_index : (n unit depth : ℕ) → read_words (globals_of (plant n)) (first_word unit ∷ second_word depth ∷ [])
    ≡ by_index (globals_of (plant n)) depth
    (option_and_then (up_to_size n) (option_and_then digits_number (before_close (decimal unit ++ (93 ∷ [])))))
reads_index n unit depth = refl

reads_number : (n unit depth : ℕ) → by_index (globals_of (plant n)) depth (Some unit) ≡ by_number n unit (signed_number (decimal depth))
reads_number n unit depth = refl

words_tell : (n unit depth : ℕ) → 1 ≤ unit → unit ≤ n → IsTold unit → IsTold depth
    → read_words (globals_of (plant n)) (first_word unit ∷ second_word depth ∷ []) ≡ tells (loaded n unit depth)
words_tell n unit depth h k u d =
    reads_index n unit depth ∙ ap (by_index (globals_of (plant n)) depth) (index_is n unit h k u)
    ∙ reads_number n unit depth ∙ ap (by_number n unit) d.positive
    ∙ (λ i. if d.ranged i && true then tells (loaded n unit depth) else breaks E7)

load_told : (n unit depth : ℕ) → 1 ≤ unit → unit ≤ n → IsTold unit → IsTold depth
    → read_line (plant n) (load unit depth) ≡ tells (loaded n unit depth)
load_told n unit depth h k u d =
    let utf8 = printed_utf8 (load unit depth) (load_printed unit depth u d) in
    (λ i. if utf8 i then read_words (globals_of (plant n)) (words_are unit depth u d i) else breaks E1)
    ∙ words_tell n unit depth h k u d

-- the rule that a line without its return breaks
abbrev rule_of : Spec → Bytes → Option LineRule
rule_of s line = elim (if is_skipped line then None else Some (read_line s line)) [ Some (breaks rule) ↦ Some rule | _ ↦ None ]

pub load_kept : (n unit depth number start : ℕ) → 1 ≤ unit → unit ≤ n → IsTold unit → IsTold depth
    → rule_broken (plant n) (record { number = number; start = start; bytes = load unit depth }) ≡ None
load_kept n unit depth number start h k u d =
    let printed_line = load_printed unit depth u d in
    let unreturned = more_pass printed (λ c. not (c == 13)) printed_unreturned (load unit depth) printed_line in
    ap (rule_of (plant n)) (no_return (load unit depth) unreturned)
    ∙ ap (λ o. elim o [ breaks rule ↦ Some rule | tells m ↦ None ]) (load_told n unit depth h k u d)

pub load_short : (unit depth : ℕ) → IsTold unit → IsTold depth → length (load unit depth) ≤ 19
load_short unit depth u d =
    let front = length-append (decimal unit) (codes "] Depth=" ++ decimal depth) in
    let few = u.short in
    let more = d.short in
    omega (arith, front, few, more)

pub load_fed : (unit depth : ℕ) → IsTold unit → IsTold depth → is_unparted is_feed (load unit depth) ≡ true
load_fed unit depth u d = more_pass printed (λ c. not (is_feed c)) printed_fed (load unit depth) (load_printed unit depth u d)
