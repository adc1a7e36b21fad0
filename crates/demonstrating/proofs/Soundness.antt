-- All groups of a plant are sound: of each child of a unit two transitions lead, with guards of which one is true where the other is not.
use Rattle.std.proofs.Common.{◌≡◌, ℕ, Bool, true, false, not, ◌&&◌, ◌||◌, [], ◌∷◌, map, filter, length, refl, ap, ◌∙◌, subst}
use Rattle.std.specs.Cmp.{first_so, second_so}
use Rattle.std.specs.List.{list_any}
use Rattle.rsml_syntax.specs.declared.syntax.Cell.TheVariants.{T, F, Dot}
use Rattle.rsml_syntax.specs.rules.Globals.{Globals, up_to}
use Rattle.rsml_syntax.specs.rules.Tables.{table_truth}
use Rattle.rsml_meaning.specs.Words.{Instance, Path, Each, IsOne, same_path}
use Rattle.rsml_meaning.specs.Instances.{states, events, globals_of}
use Rattle.rsml_meaning.specs.Truth.{View, view, within, phrase}
use Rattle.rsml_meaning.specs.Transitions.{transitions, is_on, is_from}
use Rattle.rsml_meaning.specs.Groups.{state, transition, groups, state_groups, enabled, reacts_inside, Sound}
use Rattle.rsml_meaning.proofs.Prefixes.{same_path_is}
use Rattle.rsml_meaning.proofs.Same.{instance_same}
use Rattle.rsml_meaning.proofs.Lists.{any_some, each_append, each_flat_map, each_one}
use Rattle.demonstrating.specs.Plant.{plant, is_deep, is_full, is_high}
use Rattle.demonstrating.proofs.Lists.{each_passing, one_of_two}
use Rattle.demonstrating.proofs.Transitions.{go, off, on, child_at, starting, resting, stopping, running, each_transition, line_is, line_of_off, line_of_on}

-- The tables of the guards, over the truths of their phrases.

one_true : (b : Bool) → table_truth ((b, T ∷ []) ∷ []) ≡ b
one_true true = refl
one_true false = refl

one_false : (b : Bool) → table_truth ((b, F ∷ []) ∷ []) ≡ not b
one_false true = refl
one_false false = refl

either_true : (b c : Bool) → table_truth ((b, T ∷ Dot ∷ []) ∷ (c, Dot ∷ F ∷ []) ∷ []) ≡ (b || not c)
either_true true true = refl
either_true true false = refl
either_true false true = refl
either_true false false = refl

neither_true : (b c : Bool) → table_truth ((b, F ∷ []) ∷ (c, T ∷ []) ∷ []) ≡ not (b || not c)
neither_true true true = refl
neither_true true false = refl
neither_true false true = refl
neither_true false false = refl

-- The transitions from a child that is active.

one_from_off : (v : View) (g : Globals) (i : ℕ) → v.is_active (child_at i off) ≡ true
    → length (filter (enabled v) (map transition (starting g i ∷ resting g i ∷ []))) ≡ 1
one_from_off v g i active =
    let deep = phrase v (within (starting g i).this) is_deep in
    one_of_two (enabled v) (transition (starting g i)) (transition (resting g i)) deep
    (λ k. active k && one_true deep k) (λ k. active k && one_false deep k)

one_from_on : (v : View) (g : Globals) (i : ℕ) → v.is_active (child_at i on) ≡ true
    → length (filter (enabled v) (map transition (stopping g i ∷ running g i ∷ []))) ≡ 1
one_from_on v g i active =
    let full = phrase v (within (stopping g i).this) is_full in
    let high = phrase v (within (stopping g i).this) is_high in
    one_of_two (enabled v) (transition (stopping g i)) (transition (running g i)) (full || not high)
    (λ k. active k && either_true full high k) (λ k. active k && neither_true full high k)

-- The groups.

off_sound : (n i : ℕ) → IsOne i (up_to n) → Sound (plant n) (state (child_at i off) go)
off_sound n i m w is met =
    let v = view (plant n) w in
    let g = globals_of (plant n) in
    ap (λ ts. length (filter (enabled v) (map transition ts))) (line_is n i off m ∙ line_of_off g i)
    ∙ one_from_off v g i (first_so (v.is_active (child_at i off)) (not (reacts_inside (plant n) v (child_at i off) go)) met)

on_sound : (n i : ℕ) → IsOne i (up_to n) → Sound (plant n) (state (child_at i on) go)
on_sound n i m w is met =
    let v = view (plant n) w in
    let g = globals_of (plant n) in
    ap (λ ts. length (filter (enabled v) (map transition ts))) (line_is n i on m ∙ line_of_on g i)
    ∙ one_from_on v g i (first_so (v.is_active (child_at i on)) (not (reacts_inside (plant n) v (child_at i on) go)) met)

each_source_sound : (n : ℕ) → Each (λ t. Sound (plant n) (state t.source t.event)) (transitions (plant n))
each_source_sound n =
    each_transition n (λ t. Sound (plant n) (state t.source t.event))
    (λ i m. (off_sound n i m, (off_sound n i m, (on_sound n i m, (on_sound n i m, tt)))))

-- a state from which a transition on the event leads
state_sound : (n : ℕ) (path : Path) (e : Instance) → list_any (is_from path e) (transitions (plant n)) ≡ true
    → Sound (plant n) (state path e)
state_sound n path e h =
    let some = any_some (is_from path e) (transitions (plant n)) h in
    let t = some.0 in
    let is_event = instance_same t.event e (first_so (is_on e t) (same_path t.source path) some.2) in
    let is_source = same_path_is t.source path (second_so (is_on e t) (same_path t.source path) some.2) in
    subst (λ (p : Path). Sound (plant n) (state p e)) is_source
    (subst (λ (x : Instance). Sound (plant n) (state t.source x)) is_event
    (each_one (λ t. Sound (plant n) (state t.source t.event)) (transitions (plant n)) t (each_source_sound n) some.1))

pub all_sound : (n : ℕ) → Each (Sound (plant n)) (groups (plant n))
all_sound n =
    each_append (Sound (plant n)) _ []
    (each_flat_map (Sound (plant n)) (λ x. state_groups (plant n) x.path) (states (plant n))
    (λ x _.
    each_passing (Sound (plant n)) (state x.path) (λ e. list_any (is_from x.path e) (transitions (plant n))) (events (plant n))
    (state_sound n x.path)))
    tt
