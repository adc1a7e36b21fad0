-- What is told turn by turn.
use Rattle.std.proofs.Common.{◌≡◌, ℕ, zero, suc, ◌+◌, ◌<◌, ◌==◌, Bool, true, false, ◌&&◌, ◌||◌, List, [], ◌∷◌, ◌++◌, drop, length, get_or, Some, slice_get, inl, inr, ⊎_elim, refl, sym, ap, ◌∙◌, subst, arith}
use Rattle.std.specs.List.{list_any}
use Rattle.std.proofs.lemmas.Bool.{cases_lt, eqb-true}
use Rattle.std.proofs.lemmas.Option.{same_Some, slice_get-get_or}
use Rattle.std.proofs.Math.Seq.{drop-length}
use Rattle.std.specs.Cmp.{nat_eq_equiv, first_so, second_so}
use Rattle.rsml_syntax.specs.declared.syntax.Spec.{Spec}
use Rattle.rsml_meaning.specs.Words.{Each, IsOne, on_one_line}
use Rattle.rsml_meaning.specs.Instances.{states}
use Rattle.rsml_meaning.proofs.Lists.{both, or_left, or_right, or_cases, same_truth, each_one, any_one, any_some}
use Rattle.state_tree.specs.Numbers.{path_of}
use Rattle.state_tree.proofs.Lists.{one_at}
use Rattle.event_graph.specs.declared.events.Events.{Events}
use Rattle.event_graph.specs.Sets.{has, has_at}
use Rattle.event_graph.proofs.RowLemmas.{read_is}
use Rattle.event_chains.specs.declared.reaction.Reaction.{Reaction}
use Rattle.event_chains.specs.Reactions.{reacts, reacts_on_line}

-- Items.

pub each_at : {A : Type 0} (P : A → Type 0) (xs : List A) (i : ℕ) (d : A) → Each P xs → i < length xs → P (get_or xs i d)
each_at P xs i d h l = each_one P xs (get_or xs i d) h (one_at xs i (get_or xs i d) (slice_get-get_or xs i d l))

pub drop_there : {A : Type 0} (xs : List A) (i : ℕ) (x : A) → slice_get xs i ≡ Some x → drop i xs ≡ x ∷ drop (i + 1) xs
drop_there [] i x h = absurd (let no : ⊥ = cc in no)
drop_there (y ∷ xs) zero x h = ap (λ z. z ∷ xs) (same_Some y x h)
drop_there (y ∷ xs) (suc i) x h = let e : suc (i + 1) ≡ suc i + 1 = omega arith in drop_there xs i x h ∙ ap (λ (n : ℕ). x ∷ drop n (y ∷ xs)) e

pub drop_at : {A : Type 0} (xs : List A) (i : ℕ) (d : A) → i < length xs → drop i xs ≡ get_or xs i d ∷ drop (i + 1) xs
drop_at xs i d l = drop_there xs i (get_or xs i d) (slice_get-get_or xs i d l)

pub drop_all : {A : Type 0} (xs : List A) (i : ℕ) → i ≡ length xs → drop i xs ≡ []
drop_all xs i e = ap (λ n. drop n xs) e ∙ drop-length xs

-- Turns: what was told, one item more, and the rest.

-- of any test
pub any_turn : {A : Type 0} (p : A → Bool) (xs : List A) (i : ℕ) (x : A) (old new first : Bool) → drop i xs ≡ x ∷ drop (i + 1) xs → new ≡ (old || p x) → (old || list_any p (drop i xs)) ≡ first → (new || list_any p (drop (i + 1) xs)) ≡ first
any_turn p xs i x old new first e h k = ap (λ b. b || list_any p (drop (i + 1) xs)) h ∙ joined old (p x) (list_any p (drop (i + 1) xs)) ∙ ap (λ ys. old || list_any p ys) (sym e) ∙ k
  where
    joined : (a b c : Bool) → ((a || b) || c) ≡ (a || (b || c))
    joined true b c = refl
    joined false b c = refl

pub any_end : {A : Type 0} (p : A → Bool) (xs : List A) (i : ℕ) (now first : Bool) → i ≡ length xs → (now || list_any p (drop i xs)) ≡ first → now ≡ first
any_end p xs i now first e h = none now (list_any p (drop i xs)) (ap (list_any p) (drop_all xs i e)) ∙ h
  where
    none : (a b : Bool) → b ≡ false → a ≡ (a || b)
    none true b q = refl
    none false b q = sym q

-- Sets behind others.

pub set_below : (sets : List Events) (e : Events) (k b : ℕ) → k < length sets → has_at (sets ++ e ∷ []) k b ≡ has_at sets k b
unfolding has_at
set_below [] e k b l = absurd (omega (arith, l))
set_below (s ∷ sets) e zero b l = refl
set_below (s ∷ sets) e (suc k) b l = set_below sets e k b (omega (arith, l))

pub set_last : (sets : List Events) (e : Events) (k b : ℕ) → k ≡ length sets → has_at (sets ++ e ∷ []) k b ≡ has e b
unfolding has_at
set_last [] e zero b l = refl
set_last [] e (suc k) b l = absurd (omega (arith, l))
set_last (s ∷ sets) e zero b l = absurd (omega (arith, l))
set_last (s ∷ sets) e (suc k) b l = set_last sets e k b (omega (arith, l))

pub lines_turn : (s : Spec) (rs : List Reaction) (old new : List Events) (e : Events) (node : ℕ) → length old ≡ node → new ≡ old ++ e ∷ []
    → ((k b : ℕ) → k < node → has_at old k b ≡ reacts_on_line s rs k b) → ((b : ℕ) → has e b ≡ reacts_on_line s rs node b) → (k b : ℕ) → k < node + 1 → has_at new k b ≡ reacts_on_line s rs k b
lines_turn s rs old new e node long is before here k b l = ap (λ xs. has_at xs k b) is ∙ ⊎_elim
    (λ less. set_below old e k b (omega (arith, less, long)) ∙ before k b less)
    (λ above. let same : k ≡ node = omega (arith, l, above) in set_last old e k b (same ∙ sym long) ∙ here b ∙ ap (λ n. reacts_on_line s rs n b) (sym same))
    (cases_lt k node)

-- the events that states on a line react to, by state or by reaction
pub line_is : (s : Spec) (rs : List Reaction) (sets : List Events) (e : Events) (node : ℕ) → ((k b : ℕ) → has_at sets k b ≡ reacts rs k b) → Each (λ r. r.owner < length (states s)) rs
    → ((b : ℕ) → has e b ≡ true → (k : ℕ) × (k < length (states s)) × (on_one_line (path_of s node) (path_of s k) ≡ true) × (has_at sets k b ≡ true))
    → ((k b : ℕ) → k < length (states s) → on_one_line (path_of s node) (path_of s k) ≡ true → has_at sets k b ≡ true → has e b ≡ true)
    → (b : ℕ) → has e b ≡ reacts_on_line s rs node b
line_is s rs sets e node are below some all b = same_truth (has e b) (reacts_on_line s rs node b) there back
  where
    there : has e b ≡ true → reacts_on_line s rs node b ≡ true
    there h =
        let k = some b h in
        let r = any_some (λ r. r.owner == k.0 && r.event == b) rs (sym (are k.0 b) ∙ k.3) in
        any_one (λ r. on_one_line (path_of s node) (path_of s r.owner) && r.event == b) rs r.0 r.1
        (both (on_one_line (path_of s node) (path_of s r.0.owner)) (r.0.event == b) (ap (λ n. on_one_line (path_of s node) (path_of s n)) (eqb-true r.0.owner k.0 (first_so (r.0.owner == k.0) (r.0.event == b) r.2)) ∙ k.2) (second_so (r.0.owner == k.0) (r.0.event == b) r.2))

    back : reacts_on_line s rs node b ≡ true → has e b ≡ true
    back h =
        let r = any_some (λ r. on_one_line (path_of s node) (path_of s r.owner) && r.event == b) rs h in
        all r.0.owner b (each_one (λ r. r.owner < length (states s)) rs r.0 below r.1) (first_so (on_one_line (path_of s node) (path_of s r.0.owner)) (r.0.event == b) r.2)
        (are r.0.owner b ∙ any_one (λ q. q.owner == r.0.owner && q.event == b) rs r.0 r.1 (both (r.0.owner == r.0.owner) (r.0.event == b) (nat_eq_equiv.refl r.0.owner) (second_so (on_one_line (path_of s node) (path_of s r.0.owner)) (r.0.event == b) r.2)))

-- the events that states on lines react to, one state more
pub line_turn : (s : Spec) (sets : List Events) (old new : Events) (node other : ℕ) (d : Events) (on : Bool) → other < length sets → on ≡ on_one_line (path_of s node) (path_of s other)
    → ((b : ℕ) → has new b ≡ (has old b || (on && has (get_or sets other d) b)))
    → ((b : ℕ) → has old b ≡ true → (k : ℕ) × (k < other) × (on_one_line (path_of s node) (path_of s k) ≡ true) × (has_at sets k b ≡ true))
    → ((k b : ℕ) → k < other → on_one_line (path_of s node) (path_of s k) ≡ true → has_at sets k b ≡ true → has old b ≡ true)
    → ((b : ℕ) → has new b ≡ true → (k : ℕ) × (k < other + 1) × (on_one_line (path_of s node) (path_of s k) ≡ true) × (has_at sets k b ≡ true))
    × ((k b : ℕ) → k < other + 1 → on_one_line (path_of s node) (path_of s k) ≡ true → has_at sets k b ≡ true → has new b ≡ true)
line_turn s sets old new node other d on l same is some all = (there, back)
  where
    there : (b : ℕ) → has new b ≡ true → (k : ℕ) × (k < other + 1) × (on_one_line (path_of s node) (path_of s k) ≡ true) × (has_at sets k b ≡ true)
    there b h = ⊎_elim
        (λ m. let k = some b m in (k.0, (let n = k.1 in omega (arith, n)), k.2, k.3))
        (λ m. (other, omega arith, sym same ∙ first_so on (has (get_or sets other d) b) m, sym (read_is sets other d l b) ∙ second_so on (has (get_or sets other d) b) m))
        (or_cases (has old b) (on && has (get_or sets other d) b) (sym (is b) ∙ h))

    back : (k b : ℕ) → k < other + 1 → on_one_line (path_of s node) (path_of s k) ≡ true → has_at sets k b ≡ true → has new b ≡ true
    back k b m h g = is b ∙ ⊎_elim
        (λ less. or_left (has old b) (on && has (get_or sets other d) b) (all k b less h g))
        (λ above.
        let last : k ≡ other = omega (arith, m, above) in
        or_right (has old b) (on && has (get_or sets other d) b)
        (both on (has (get_or sets other d) b) (same ∙ ap (λ n. on_one_line (path_of s node) (path_of s n)) (sym last) ∙ h) (read_is sets other d l b ∙ ap (λ n. has_at sets n b) (sym last) ∙ g)))
        (cases_lt k other)

-- what reacts is below what bounds all
pub reacts_below : (events : ℕ) (rs : List Reaction) → Each (λ r. r.event < events) rs → (k b : ℕ) → reacts rs k b ≡ true → b < events
reacts_below events rs h k b t =
    let r = any_some (λ r. r.owner == k && r.event == b) rs t in
    subst (λ z. z < events) (eqb-true r.0.event b (second_so (r.0.owner == k) (r.0.event == b) r.2)) (each_one (λ r. r.event < events) rs r.0 h r.1)

pub line_below : (s : Spec) (events : ℕ) (rs : List Reaction) → Each (λ r. r.event < events) rs → (k b : ℕ) → reacts_on_line s rs k b ≡ true → b < events
line_below s events rs h k b t =
    let r = any_some (λ r. on_one_line (path_of s k) (path_of s r.owner) && r.event == b) rs t in
    subst (λ z. z < events) (eqb-true r.0.event b (second_so (on_one_line (path_of s k) (path_of s r.0.owner)) (r.0.event == b) r.2)) (each_one (λ r. r.event < events) rs r.0 h r.1)

-- lists that are asked alike of each item
pub any_alike : {A : Type 0} (p q : A → Bool) (xs : List A) → ((x : A) → IsOne x xs → p x ≡ q x) → list_any p xs ≡ list_any q xs
any_alike p q [] h = refl
any_alike p q (x ∷ xs) h = λ i. h x (inl refl) i || any_alike p q xs (λ y m. h y (inr m)) i
