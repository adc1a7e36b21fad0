-- Marks of parts, made one after another.
use Rattle.std.proofs.Common.{◌≡◌, ℕ, zero, suc, ◌+◌, ◌<◌, ◌≤◌, ◌==◌, ◌⊎◌, inl, inr, Bool, true, false, ◌&&◌, ◌||◌, List, [], ◌∷◌, ◌++◌, length, map, take, set, refl, sym, ap, ◌∙◌, true≢false, arith, Some, slice_get, slice_index_or}
use Rattle.std.specs.List.{list_any}
use Rattle.std.proofs.lemmas.Bool.{ne_eqb}
use Rattle.std.proofs.lemmas.Bool.Decides.{eqb_tells}
use Rattle.std.proofs.lemmas.List.{length-append, length-set}
use Rattle.std.proofs.lemmas.List.Folds.{list_any_at, list_any_more}
use Rattle.std.proofs.lemmas.Option.{same_Some, slice_get_within}
use Rattle.rsml_meaning.specs.Instances.{components}
use Rattle.rsml_meaning.specs.Cells.{cells}
use Rattle.bdd_core.specs.Diagram.{Diagram}
use Rattle.bdd_core.specs.Calls as arena
use Rattle.spelled_numbers.specs.declared.weighted.Weighted.{Weighted}
use Rattle.spelled_numbers.specs.declared.slot.Slot.{Slot}
use Rattle.spelled_numbers.specs.Bits.{bits_of}
use Rattle.free_levels.specs.Values.{is_in}
use Rattle.free_levels.proofs.StageLemmas.{never_true}
use Rattle.free_levels.proofs.ValueLemmas.{or-false_left, or-false_right}
use Rattle.keyed_levels.specs.declared.keyed.Keyed.{Keyed}
use Rattle.keyed_levels.specs.Keyed.{KeyedWorlds, key_at, no_key, phrases_of}
use Rattle.rsml_ground.specs.declared.phrases.GroundPhrase.{GroundPhrase}
use Rattle.settled_worlds.specs.Steps.{compares}
use Rattle.guard_encode.specs.Marking.{AreOfPart, AreRead, Marks, is_compared, is_named, is_used_at}

-- One mark more.

pushed : (xs : List Bool) (x : Bool) (k : ℕ) (y : Bool) → slice_get (xs ++ x ∷ []) k ≡ Some y → (slice_get xs k ≡ Some y) ⊎ ((k ≡ length xs) × (x ≡ y))
pushed [] x zero y at = inr (refl, same_Some x y at)
pushed [] x (suc k) y at = absurd (let no : ⊥ = cc in no)
pushed (z ∷ zs) x zero y at = inl at
pushed (z ∷ zs) x (suc k) y at = elim (pushed zs x k y at) [ inl e ↦ inl e | inr e ↦ inr (ap suc e.0, e.1) ]

pub no_parts : (used : List Bool) (slots : List Slot) (first : ℕ) (marks : List Bool) → marks ≡ [] → AreOfPart used slots first 0 marks
no_parts used slots first marks none = record {
  many = ap length none;
  unused = λ place at. let no : ⊥ = cc in absurd no;
}

pub one_part : (used : List Bool) (slots : List Slot) (first n : ℕ) (b : Bool) (bits : List Weighted) (marks more : List Bool) → more ≡ marks ++ b ∷ [] → b ≡ list_any (is_used_at used) bits
    → bits ≡ bits_of (first + n) false slots 0 → AreOfPart used slots first n marks → AreOfPart used slots first (n + 1) more
one_part used slots first n b bits marks more is tells own are = record {
  many = omega (arith, ap length is, length-append marks (b ∷ []), are.many);
  unused = λ place at. elim (pushed marks b place false (ap (λ xs. slice_get xs place) (sym is) ∙ at)) [
    | inl e ↦ are.unused place e
    | inr e ↦
        let same : place ≡ n = omega (arith, e.0, are.many) in
        ap (λ p. list_any (is_used_at used) (bits_of (first + p) false slots 0)) same
        ∙ ap (list_any (is_used_at used)) (sym own)
        ∙ sym tells
        ∙ e.1
  ];
}

-- More places marked.

pub none_marked : (marks : List Bool) → Marks (λ place. false) marks marks
none_marked marks = record { many = refl; unmarked = λ place at. (at, refl) }

pub marked_as : (these those : ℕ → Bool) (a b : List Bool) → ((place : ℕ) → these place ≡ those place) → Marks these a b → Marks those a b
marked_as these those a b same h = record {
  many = h.many;
  unmarked = λ place at. let u = h.unmarked place at in (u.0, sym (same place) ∙ u.1);
}

neither : (p q : Bool) → p ≡ false → q ≡ false → (p || q) ≡ false
neither p q e f = ap (λ b. b || q) e ∙ f

pub both_marked : (these those : ℕ → Bool) (a b c : List Bool) → Marks these a b → Marks those b c → Marks (λ place. these place || those place) a c
both_marked these those a b c one other = record {
  many = other.many ∙ one.many;
  unmarked = λ place at.
      let u = other.unmarked place at in
      let t = one.unmarked place u.0 in
      (t.0, neither (these place) (those place) t.1 u.1);
}

marked : (xs : List Bool) (i k : ℕ) → slice_get (set xs i true) k ≡ Some false → (slice_get xs k ≡ Some false) × (i ≡ k → ⊥)
marked [] i k at = absurd (let no : ⊥ = cc in no)
marked (x ∷ xs) zero zero at = absurd (true≢false (same_Some true false at))
marked (x ∷ xs) zero (suc k) at = (at, λ e. omega (arith, e))
marked (x ∷ xs) (suc i) zero at = (at, λ e. omega (arith, e))
marked (x ∷ xs) (suc i) (suc k) at = let r = marked xs i k at in (r.0, λ e. r.1 (omega (arith, e)))

pub one_marked : (cell : ℕ) (old new : List Bool) → new ≡ set old cell true → Marks (λ other. cell == other) old new
one_marked cell old new is = record {
  many = ap length is ∙ length-set old cell true;
  unmarked = λ place at. let r = marked old cell place (ap (λ xs. slice_get xs place) (sym is) ∙ at) in (r.0, ne_eqb cell place r.1);
}

pub past_marked : (cell : ℕ) (marks : List Bool) → length marks ≤ cell → Marks (λ other. cell == other) marks marks
past_marked cell marks past = record {
  many = refl;
  unmarked = λ place at. (at, ne_eqb cell place (λ e. omega (arith, e, past, slice_get_within marks place false at)));
}

-- the places of one more item of a list
pub more_marked : {X : Type 0} (these : ℕ → X → Bool) (xs : List X) (n : ℕ) (d : X) (a b c : List Bool) → n < length xs
    → Marks (λ place. list_any (these place) (take n xs)) a b → Marks (λ place. these place (slice_index_or xs n d)) b c → Marks (λ place. list_any (these place) (take (n + 1) xs)) a c
more_marked these xs n d a b c less before here =
    marked_as (λ place. list_any (these place) (take n xs) || these place (slice_index_or xs n d)) (λ place. list_any (these place) (take (n + 1) xs)) a c
    (λ place. sym (list_any_more (these place) xs n d less))
    (both_marked (λ place. list_any (these place) (take n xs)) (λ place. these place (slice_index_or xs n d)) a b c before here)

-- a key whose level is not used names nothing
pub unused_marked : (k : KeyedWorlds) (used : List Bool) (x : Keyed) (marks : List Bool) → slice_index_or used x.level false ≡ false → Marks (is_named k used x) marks marks
unused_marked k used x marks not =
    marked_as (λ place. false) (is_named k used x) marks marks (λ place. sym (ap (λ b. b && compares place (slice_get (phrases_of k) x.phrase)) not)) (none_marked marks)

-- one whose level is used names what its comparison does
pub used_marked : (k : KeyedWorlds) (used : List Bool) (x : Keyed) (p : GroundPhrase) (a b : List Bool) → slice_index_or used x.level false ≡ true
    → slice_get (phrases_of k) x.phrase ≡ Some p → Marks (λ cell. compares cell (Some p)) a b → Marks (is_named k used x) a b
used_marked k used x p a b is at h =
    marked_as (λ cell. compares cell (Some p)) (is_named k used x) a b
    (λ place. sym (ap (λ t. t && compares place (slice_get (phrases_of k) x.phrase)) is ∙ ap (compares place) at)) h

-- What is marked at the end.

unused_levels : (used : List Bool) (ts : List Weighted) → list_any (is_used_at used) ts ≡ false → (level : ℕ) → is_in (map (λ t. t.level) ts) level ≡ true → slice_index_or used level false ≡ false
unused_levels used [] none level there = absurd (true≢false (sym there))
unused_levels used (t ∷ ts) none level there = elim (eqb_tells level t.level) [
  | inl h ↦ ap (λ l. slice_index_or used l false) h.1 ∙ or-false_left (is_used_at used t) (list_any (is_used_at used) ts) none
  | inr h ↦ unused_levels used ts (or-false_right (is_used_at used t) (list_any (is_used_at used) ts) none) level
      (sym (ap (λ b. b || is_in (map (λ t. t.level) ts) level) h.0) ∙ there)
]

unused_key : (used reads : Bool) → (used && reads) ≡ false → reads ≡ true → used ≡ false
unused_key true reads none is = absurd (true≢false (sym is ∙ none))
unused_key false reads none is = refl

pub all_read : (d : Diagram) (k : KeyedWorlds) (f many_components many_cells : ℕ) (used choices spelled marks : List Bool)
    → ((level : ℕ) → slice_index_or used level false ≡ false → arena.Ignores d f level)
    → many_components ≡ length (components k.base.spec) → many_cells ≡ length (cells k.base.spec)
    → AreOfPart used k.slots 0 many_components choices → AreOfPart used k.slots many_components many_cells spelled → Marks (is_compared k used) spelled marks
    → AreRead d k f (record { choices = choices; cells = marks })
all_read d k f many_components many_cells used choices spelled marks ignores all_components all_cells of_choices of_cells compared = record {
  many_choices = of_choices.many ∙ all_components;
  many_cells = compared.many ∙ of_cells.many ∙ all_cells;
  of_choice = λ component at level there. ignores level (unused_levels used (bits_of component false k.slots 0)
      (let z : component ≡ 0 + component = omega arith in ap (λ p. list_any (is_used_at used) (bits_of p false k.slots 0)) z ∙ of_choices.unused component at) level there);
  of_cell = λ cell at level there. ignores level (unused_levels used (bits_of (length (components k.base.spec) + cell) false k.slots 0)
      (ap (λ n. list_any (is_used_at used) (bits_of (n + cell) false k.slots 0)) (sym all_components) ∙ of_cells.unused cell (compared.unmarked cell at).0) level there);
  of_key = λ cell i at less reads. ignores (key_at k.keyed i).level (unused_key (slice_index_or used (key_at k.keyed i).level false)
      (compares cell (slice_get (phrases_of k) (key_at k.keyed i).phrase))
      (never_true (is_named k used (key_at k.keyed i) cell) (λ e.
      true≢false (sym (list_any_at (λ x. is_named k used x cell) k.keyed i no_key less e) ∙ (compared.unmarked cell at).1))) reads);
}
