-- The first fault of a file is that of the first line that has one.
use Rattle.std.proofs.Common.{◌≡◌, ℕ, ◌≤◌, Bool, true, false, ◌&&◌, List, [], ◌∷◌, ◌++◌, length, Option, Some, None, nat_lt, ltb-true, ltb-false, lt-ltb, ◌⊎◌, inl, inr, refl, sym, ap, ◌∙◌, subst}
use Rattle.std.proofs.lemmas.Bool.{le-ltb}
use Rattle.std.specs.Cmp.{first_so, second_so}
use Rattle.rsml_syntax.specs.declared.syntax.Spec.{Spec}
use Rattle.rsml_meaning.specs.Words.{Each, first_some}
use Rattle.rsml_meaning.specs.EventLines.{LineRule}
use Rattle.rsml_meaning.specs.EventFiles.{Line, lines_of, end_of, rule_broken, Limits, FileFault, long_line, broken_line, long_file, is_long, is_cut, fault_at, IsFaultAt, IsFirstFault}
use Rattle.rsml_meaning.specs.Laws.{FirstFaultIsOfLine}

some_or_none : {A : Type 0} (x : A) → Some x ≡ None → ⊥
some_or_none x h = cc

some_is : {A : Type 0} (x y : A) → Some x ≡ Some y → x ≡ y
some_is x y h = cc

-- The fault of a line.

module _ (s : Spec) (limits : Limits) (size : ℕ) (l : Line) where
  abbrev by_rule : Option LineRule → Option FileFault
  by_rule o = elim o [ Some rule ↦ Some (broken_line l.number rule) | None ↦ None ]

  abbrev by_cut : Bool → Option FileFault
  by_cut b = elim b [ true ↦ Some long_file | false ↦ by_rule (rule_broken s l) ]

  abbrev by_long : Bool → Option FileFault
  by_long b = elim b [ true ↦ Some (long_line l.number) | false ↦ by_cut (is_cut limits size l) ]

  is_short : is_long limits l ≡ false → length l.bytes ≤ limits.line
  is_short e = ltb-false limits.line (length l.bytes) e

  whole : (a b : ℕ) → (nat_lt limits.file a && nat_lt limits.file b) ≡ false → (a ≤ limits.file) ⊎ (b ≤ limits.file)
  whole a b e = by_test (nat_lt limits.file a) refl e
    where
      by_test : (t : Bool) → nat_lt limits.file a ≡ t → (t && nat_lt limits.file b) ≡ false → (a ≤ limits.file) ⊎ (b ≤ limits.file)
      by_test true q e = inr (ltb-false limits.file b e)
      by_test false q e = inl (ltb-false limits.file a q)

  fault_is : (fault : FileFault) → fault_at s limits size l ≡ Some fault → IsFaultAt s limits size l fault
  fault_is fault h = of_long (is_long limits l) refl h
    where
      of_rule : (o : Option LineRule) → rule_broken s l ≡ o → is_long limits l ≡ false → is_cut limits size l ≡ false → by_rule o ≡ Some fault → IsFaultAt s limits size l fault
      of_rule None q a b k = absurd (some_or_none fault (sym k))
      of_rule (Some rule) q a b k = subst (IsFaultAt s limits size l) (some_is (broken_line l.number rule) fault k) (refl, is_short a, whole size (end_of l) b, q)

      of_cut : (b : Bool) → is_cut limits size l ≡ b → is_long limits l ≡ false → by_cut b ≡ Some fault → IsFaultAt s limits size l fault
      of_cut true q a k = subst (IsFaultAt s limits size l) (some_is long_file fault k)
          (is_short a, ltb-true limits.file size (first_so (nat_lt limits.file size) (nat_lt limits.file (end_of l)) q), ltb-true limits.file (end_of l) (second_so (nat_lt limits.file size) (nat_lt limits.file (end_of l)) q))
      of_cut false q a k = of_rule (rule_broken s l) refl a q k

      of_long : (b : Bool) → is_long limits l ≡ b → by_long b ≡ Some fault → IsFaultAt s limits size l fault
      of_long true q k = subst (IsFaultAt s limits size l) (some_is (long_line l.number) fault k) (refl, ltb-true limits.line (length l.bytes) q)
      of_long false q k = of_cut (is_cut limits size l) refl q k

  not_long : length l.bytes ≤ limits.line → is_long limits l ≡ false
  not_long h = le-ltb limits.line (length l.bytes) h

  not_cut : (size ≤ limits.file) ⊎ (end_of l ≤ limits.file) → is_cut limits size l ≡ false
  not_cut (inl h) = ap (λ b. b && nat_lt limits.file (end_of l)) (le-ltb limits.file size h)
  not_cut (inr h) = by_test (nat_lt limits.file size)
    where
      by_test : (b : Bool) → (b && nat_lt limits.file (end_of l)) ≡ false
      by_test true = le-ltb limits.file (end_of l) h
      by_test false = refl

  is_fault : (fault : FileFault) → IsFaultAt s limits size l fault → fault_at s limits size l ≡ Some fault
  is_fault (long_line n) f = ap by_long (lt-ltb limits.line (length l.bytes) f.1) ∙ ap (λ k. Some (long_line k)) (sym f.0)
  is_fault long_file f =
      let cut : is_cut limits size l ≡ true = ap (λ b. b && nat_lt limits.file (end_of l)) (lt-ltb limits.file size f.1) ∙ lt-ltb limits.file (end_of l) f.2 in
      ap by_long (not_long f.0) ∙ ap by_cut cut
  is_fault (broken_line n rule) f = ap by_long (not_long f.1) ∙ ap by_cut (not_cut f.2) ∙ ap by_rule f.3 ∙ ap (λ k. Some (broken_line k rule)) (sym f.0)

-- The first that there is.

-- Where it stands, and that there is none before.
record FirstAt {A B : Type 0} (f : A → Option B) (xs : List A) (y : B) : Type 0 where
  before : List A
  x : A
  after : List A
  among : xs ≡ before ++ (x ∷ after)
  found : f x ≡ Some y
  none : Each (λ x. f x ≡ None) before

abbrev or_else : {B : Type 0} → Option B → Option B → Option B
or_else o rest = elim o [ Some y ↦ Some y | None ↦ rest ]

first_at : {A B : Type 0} (f : A → Option B) (xs : List A) (y : B) → first_some f xs ≡ Some y → FirstAt f xs y
first_at f [] y h = absurd (some_or_none y (sym h))
first_at {A} {B} f (x ∷ xs) y h = by_first (f x) refl h (first_at f xs y)
  where
    by_first : (o : Option B) → f x ≡ o → or_else o (first_some f xs) ≡ Some y → (first_some f xs ≡ Some y → FirstAt f xs y) → FirstAt f (x ∷ xs) y
    by_first (Some z) e k rest = record { before = []; x = x; after = xs; among = refl; found = e ∙ k; none = tt }
    by_first None e k rest = let r = rest k in record { before = x ∷ r.before; x = r.x; after = r.after; among = ap (λ ys. x ∷ ys) r.among; found = r.found; none = (e, r.none) }

at_first : {A B : Type 0} (f : A → Option B) (before : List A) (x : A) (after : List A) (y : B) → f x ≡ Some y → Each (λ x. f x ≡ None) before → first_some f (before ++ (x ∷ after)) ≡ Some y
at_first f [] x after y e none = ap (λ o. or_else o (first_some f after)) e
at_first f (z ∷ before) x after y e none = ap (λ o. or_else o (first_some f (before ++ (x ∷ after)))) none.0 ∙ at_first f before x after y e none.1

-- The law.

each_more : {A : Type 0} {P Q : A → Type 0} → ((x : A) → P x → Q x) → (xs : List A) → Each P xs → Each Q xs
each_more f [] h = tt
each_more f (x ∷ xs) h = (f x h.0, each_more f xs h.1)

not_some : (s : Spec) (limits : Limits) (size : ℕ) (l : Line) → ((fault : FileFault) → IsFaultAt s limits size l fault → ⊥) → fault_at s limits size l ≡ None
not_some s limits size l none = by_fault (fault_at s limits size l) refl
  where
    by_fault : (o : Option FileFault) → fault_at s limits size l ≡ o → o ≡ None
    by_fault None e = refl
    by_fault (Some fault) e = absurd (none fault (fault_is s limits size l fault e))

pub first_fault_is_of_line : FirstFaultIsOfLine
first_fault_is_of_line s limits content fault = (to, from)
  where
    to : first_some (fault_at s limits (length content)) (lines_of content) ≡ Some fault → IsFirstFault s limits content fault
    to h =
        let r = first_at (fault_at s limits (length content)) (lines_of content) fault h in
        record {
          before = r.before;
          line = r.x;
          after = r.after;
          among = r.among;
          is_fault = fault_is s limits (length content) r.x fault r.found;
          none_before = each_more (λ l e other f. some_or_none other (sym (is_fault s limits (length content) l other f) ∙ e)) r.before r.none;
        }

    from : IsFirstFault s limits content fault → first_some (fault_at s limits (length content)) (lines_of content) ≡ Some fault
    from r =
        ap (first_some (fault_at s limits (length content))) r.among
        ∙ at_first (fault_at s limits (length content)) r.before r.line r.after fault (is_fault s limits (length content) r.line fault r.is_fault)
        (each_more (λ l none. not_some s limits (length content) l none) r.before r.none_before)
