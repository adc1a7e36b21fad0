-- A file is well-formed exactly where it has no first fault.
use Rattle.std.proofs.Common.{◌≡◌, ℕ, suc, ◌+◌, ◌≤◌, Bool, true, false, ◌&&◌, cond, List, [], ◌∷◌, length, Option, Some, None, is_none, if◌then◌else◌, ◌==◌, nat_lt, take_while, refl, sym, ap, ◌∙◌, arith}
use Rattle.std.proofs.lemmas.Bool.Decides.{nat_tests}
use Rattle.std.proofs.lemmas.List.Sums.{take_while-cons}
use Rattle.std.specs.Str.{byte}
use Rattle.rsml_syntax.specs.declared.syntax.Spec.{Spec}
use Rattle.rsml_meaning.specs.Words.{Each, first_some}
use Rattle.rsml_meaning.specs.EventLines.{Bytes, pieces, before_pieces, LineRule}
use Rattle.rsml_meaning.specs.EventFiles.{without_empty_last, lines, Line, placed_from, lines_of, end_of, rule_broken, Limits, IsWellFormed, FileFault, long_line, broken_line, long_file, is_long, is_cut, fault_at, first_fault}
use Rattle.rsml_meaning.specs.Laws.{WellFormedHasNoFault, WellFormedIsSound}

-- The lines go over the whole file.

-- the bytes of the lines, with an LF after each
abbrev total : List Bytes → ℕ
total [] = 0
total (line ∷ more) = length line + 1 + total more

before_total : (c : ℕ) (xs : List Bytes) → total xs + 1 ≤ total (before_pieces c xs)
before_total c [] = omega arith
before_total c (x ∷ xs) = omega arith

pieces_total : (parts : ℕ → Bool) (file : Bytes) → length file + 1 ≤ total (pieces parts file)
pieces_total parts [] = omega arith
pieces_total parts (c ∷ cs) = by_test (parts c) (pieces_total parts cs)
  where
    by_test : (b : Bool) → length cs + 1 ≤ total (pieces parts cs) → suc (length cs) + 1 ≤ total (if b then [] ∷ pieces parts cs else before_pieces c (pieces parts cs))
    by_test true h = omega (arith, h)
    by_test false h = omega (arith, h, before_total c (pieces parts cs))

without_total : (xs : List Bytes) → total xs ≤ total (without_empty_last xs) + 1
without_total [] = omega arith
without_total ([] ∷ []) = omega arith
without_total ([] ∷ x ∷ xs) = omega (arith, without_total (x ∷ xs))
without_total ((c ∷ cs) ∷ xs) = omega (arith, without_total xs)

lines_total : (file : Bytes) → length file ≤ total (lines file)
lines_total file = omega (arith, pieces_total (λ c. c == byte "\n") file, without_total (pieces (λ c. c == byte "\n") file))

-- where each line ends within the limit, so do all together
ends_total : (limit number start : ℕ) (xs : List Bytes) → start ≤ limit → Each (λ l. end_of l ≤ limit) (placed_from number start xs) → start + total xs ≤ limit
ends_total limit number start [] h k = omega (arith, h)
ends_total limit number start (x ∷ xs) h k = omega (arith, ends_total limit (suc number) (start + length x + 1) xs k.0 k.1)

-- What has no fault.

each_map : {A : Type 0} {P Q : A → Type 0} → ((x : A) → P x → Q x) → (xs : List A) → Each P xs → Each Q xs
each_map f [] h = tt
each_map f (x ∷ xs) h = (f x h.0, each_map f xs h.1)

some_is_not_none : {A : Type 0} (x : A) → Some x ≡ None → ⊥
some_is_not_none x h = cc

abbrev first_or : {B : Type 0} → Option B → Option B → Option B
first_or o rest = elim o [ Some y ↦ Some y | None ↦ rest ]

first_none : {B : Type 0} (o rest : Option B) → first_or o rest ≡ None → (o ≡ None) × (rest ≡ None)
first_none (Some y) rest h = absurd (some_is_not_none y h)
first_none None rest h = (refl, h)

all_none : {A B : Type 0} (f : A → Option B) (xs : List A) → first_some f xs ≡ None → Each (λ x. f x ≡ None) xs
all_none f [] h = tt
all_none f (x ∷ xs) h = let p = first_none (f x) (first_some f xs) h in (p.0, all_none f xs p.1)

none_all : {A B : Type 0} (f : A → Option B) (xs : List A) → Each (λ x. f x ≡ None) xs → first_some f xs ≡ None
none_all f [] h = refl
none_all f (x ∷ xs) h = ap (λ o. first_or o (first_some f xs)) h.0 ∙ none_all f xs h.1

-- A line with no fault is short, is not cut, and breaks no rule.
pub record Kept (s : Spec) (limits : Limits) (size : ℕ) (l : Line) : Type 0 where
  pub short : is_long limits l ≡ false
  pub whole : is_cut limits size l ≡ false
  pub kept : rule_broken s l ≡ None

abbrev by_rule : ℕ → Option LineRule → Option FileFault
by_rule number rule = elim rule [ Some r ↦ Some (broken_line number r) | None ↦ None ]

abbrev by_tests : ℕ → Bool → Bool → Option LineRule → Option FileFault
by_tests number long cut rule = elim long [ true ↦ Some (long_line number) | false ↦ elim cut [ true ↦ Some long_file | false ↦ by_rule number rule ] ]

no_tests : (number : ℕ) (long cut : Bool) (rule : Option LineRule) → by_tests number long cut rule ≡ None → (long ≡ false) × (cut ≡ false) × (rule ≡ None)
no_tests number true cut rule h = absurd (some_is_not_none (long_line number) h)
no_tests number false true rule h = absurd (some_is_not_none long_file h)
no_tests number false false (Some r) h = absurd (some_is_not_none (broken_line number r) h)
no_tests number false false None h = (refl, refl, refl)

no_fault : (s : Spec) (limits : Limits) (size : ℕ) (l : Line) → fault_at s limits size l ≡ None → Kept s limits size l
no_fault s limits size l h =
    let p = no_tests l.number (is_long limits l) (is_cut limits size l) (rule_broken s l) h in
    record { short = p.0; whole = p.1; kept = p.2 }

kept_has_none : (s : Spec) (limits : Limits) (size : ℕ) (l : Line) → Kept s limits size l → fault_at s limits size l ≡ None
kept_has_none s limits size l k =
    ap (λ a. by_tests l.number a (is_cut limits size l) (rule_broken s l)) k.short ∙ ap (λ b. by_tests l.number false b (rule_broken s l)) k.whole ∙ ap (λ r. by_tests l.number false false r) k.kept

-- The law.

ends_within : (limits : Limits) (size : ℕ) (l : Line) → nat_lt limits.file size ≡ true → is_cut limits size l ≡ false → end_of l ≤ limits.file
ends_within limits size l h k = let past : nat_lt limits.file (end_of l) ≡ false = ap (λ b. b && nat_lt limits.file (end_of l)) (sym h) ∙ k in grind (arith, nat_tests)

fits : (s : Spec) (limits : Limits) (content : Bytes) → Each (Kept s limits (length content)) (lines_of content) → length content ≤ limits.file
fits s limits content h = by_test (nat_lt limits.file (length content)) refl
  where
    by_test : (b : Bool) → nat_lt limits.file (length content) ≡ b → length content ≤ limits.file
    by_test true e =
        let ends = ends_total limits.file 1 0 (lines content) (omega arith) (each_map (λ l k. ends_within limits (length content) l e k.whole) (lines_of content) h) in
        omega (arith, lines_total content, ends)
    by_test false e = grind (arith, nat_tests)

is_short : (limits : Limits) (l : Line) → is_long limits l ≡ false → length l.bytes ≤ limits.line
is_short limits l h = grind (arith, nat_tests)

not_long : (limits : Limits) (l : Line) → length l.bytes ≤ limits.line → is_long limits l ≡ false
not_long limits l h = grind (arith, nat_tests)

not_cut : (limits : Limits) (size : ℕ) (l : Line) → size ≤ limits.file → is_cut limits size l ≡ false
not_cut limits size l h = let past : nat_lt limits.file size ≡ false = grind (arith, nat_tests) in ap (λ b. b && nat_lt limits.file (end_of l)) past

pub without_fault : (s : Spec) (limits : Limits) (content : Bytes) → first_fault s limits content ≡ None → IsWellFormed s limits content
without_fault s limits content h =
    let kept = each_map (no_fault s limits (length content)) (lines_of content) (all_none (fault_at s limits (length content)) (lines_of content) h) in
    record {
      short = fits s limits content kept;
      short_lines = each_map (λ l k. is_short limits l k.short) (lines_of content) kept;
      kept = each_map (λ l k. k.kept) (lines_of content) kept;
    }

both_each : {A : Type 0} (P Q : A → Type 0) (xs : List A) → Each P xs → Each Q xs → Each (λ x. P x × Q x) xs
both_each P Q [] h k = tt
both_each P Q (x ∷ xs) h k = ((h.0, k.0), both_each P Q xs h.1 k.1)

each_without : (s : Spec) (limits : Limits) (content : Bytes) → IsWellFormed s limits content → Each (λ l. fault_at s limits (length content) l ≡ None) (lines_of content)
each_without s limits content w =
    each_map (λ l p. kept_has_none s limits (length content) l (record { short = not_long limits l p.0; whole = not_cut limits (length content) l w.short; kept = p.1 }))
    (lines_of content) (both_each (λ l. length l.bytes ≤ limits.line) (λ l. rule_broken s l ≡ None) (lines_of content) w.short_lines w.kept)

pub well_formed_has_no_fault : WellFormedHasNoFault
well_formed_has_no_fault s limits content =
    (without_fault s limits content, λ w. none_all (fault_at s limits (length content)) (lines_of content) (each_without s limits content w))

all_taken : {A : Type 0} (p : A → Bool) (xs : List A) → Each (λ x. p x ≡ true) xs → take_while p xs ≡ xs
all_taken p [] h = refl
all_taken p (x ∷ xs) h = take_while-cons p x xs ∙ ap (λ b. cond b (x ∷ take_while p xs) []) h.0 ∙ ap (λ ys. x ∷ ys) (all_taken p xs h.1)

pub well_formed_is_sound : WellFormedIsSound
well_formed_is_sound s limits content w =
    all_taken (λ l. is_none (fault_at s limits (length content) l)) (lines_of content) (each_map (λ l k. ap is_none k) (lines_of content) (each_without s limits content w))
