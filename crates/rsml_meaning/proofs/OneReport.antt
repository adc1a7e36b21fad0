-- A group has at most one verdict, and a specification at most one report.
use Rattle.std.proofs.Common.{◌≡◌, ℕ, ◌+◌, ◌≤◌, Bool, true, false, ◌||◌, cond, List, [], ◌∷◌, Option, Some, None, unwrap_or, refl, sym, ap, ◌∙◌, subst, true≢false, arith, IsTrue, ◌↔◌}
use Rattle.std.specs.List.{AllZip, position_from}
use Rattle.std.specs.Ordering.{nat_cmp}
use Rattle.std.specs.Cmp.{IsTotalOrder, nat_cmp_total}
use Rattle.std.specs.Cmp.Lexicographic.{slice_cmp, lists_total}
use Rattle.rsml_syntax.specs.declared.syntax.Spec.{Spec}
use Rattle.rsml_meaning.specs.Words.{Instance, same_instance, has}
use Rattle.rsml_meaning.specs.Instances.{events}
use Rattle.rsml_meaning.specs.Groups.{groups}
use Rattle.rsml_meaning.specs.Chains.{Loops}
use Rattle.rsml_meaning.specs.Findings.{Verdict, sound, none, two, IsVerdict}
use Rattle.rsml_meaning.specs.Report.{ClashFound, Answers, externals, IsLengthAnswer, IsClashAnswer, IsFirstClash, event_place, rank, AreRight, report_text}
use Rattle.rsml_meaning.specs.Laws.{VerdictIsOne, ReportIsOne}
use Rattle.rsml_meaning.proofs.Same.{instance_same}
use Rattle.rsml_meaning.proofs.Order.{lists_apart, nats_apart, in_order, least_is_one}
use Rattle.rsml_meaning.proofs.Repeats.{length_excludes_endless}

-- Verdicts.

pub verdict_is_one : VerdictIsOne
verdict_is_one s group sound sound h k = refl
verdict_is_one s group sound (none w) h k = absurd (omega (arith, h w k.such.is_world k.such.met, k.such.count))
verdict_is_one s group sound (two w) h k = absurd (omega (arith, h w k.1.such.is_world k.1.such.met, k.1.such.count))
verdict_is_one s group (none w) sound h k = absurd (omega (arith, k w h.such.is_world h.such.met, h.such.count))
verdict_is_one s group (none w) (none v) h k = ap none (least_is_one w v h k)
verdict_is_one s group (none w) (two v) h k = absurd (k.0 w h.such)
verdict_is_one s group (two w) sound h k = absurd (omega (arith, k w h.1.such.is_world h.1.such.met, h.1.such.count))
verdict_is_one s group (two w) (none v) h k = absurd (h.0 v k.such)
verdict_is_one s group (two w) (two v) h k = ap two (least_is_one w v h.1 k.1)

-- Lengths.

length_is_one : (s : Spec) (x : Instance) (a b : Option ℕ) → IsLengthAnswer s x a → IsLengthAnswer s x b → a ≡ b
length_is_one s x None None h k = refl
length_is_one s x None (Some n) h k = absurd (length_excludes_endless s x n k h)
length_is_one s x (Some n) None h k = absurd (length_excludes_endless s x n h k)
length_is_one s x (Some n) (Some m) h k =
    let up : n ≤ m = subst (λ i. i ≤ m) h.reached.2 (k.most h.reached.0 h.reached.1) in
    let down : m ≤ n = subst (λ i. i ≤ n) k.reached.2 (h.most k.reached.0 k.reached.1) in
    let same : n ≡ m = omega (arith, up, down) in
    ap Some same

-- Places of events.

place_beyond : (xs : List Instance) (e : Instance) (i k : ℕ) → position_from (same_instance e) i xs ≡ Some k → i ≤ k
place_beyond [] e i k h = cc
place_beyond (x ∷ xs) e i k h = by_test (same_instance e x) h (place_beyond xs e (i + 1) k)
  where
    by_test : (b : Bool) → cond b (Some i) (position_from (same_instance e) (i + 1) xs) ≡ Some k → (position_from (same_instance e) (i + 1) xs ≡ Some k → i + 1 ≤ k) → i ≤ k
    by_test true q rest = let same : i ≡ k = cc in omega (arith, same)
    by_test false q rest = omega (arith, rest q)

-- at one place there is one event
one_place : (xs : List Instance) (e f : Instance) (i k : ℕ) → position_from (same_instance e) i xs ≡ Some k → position_from (same_instance f) i xs ≡ Some k → e ≡ f
one_place [] e f i k h l = cc
one_place (x ∷ xs) e f i k h l = by_tests (same_instance e x) (same_instance f x) refl refl h l (one_place xs e f (i + 1) k)
  where
    by_tests : (a b : Bool) → same_instance e x ≡ a → same_instance f x ≡ b
        → cond a (Some i) (position_from (same_instance e) (i + 1) xs) ≡ Some k → cond b (Some i) (position_from (same_instance f) (i + 1) xs) ≡ Some k
        → (position_from (same_instance e) (i + 1) xs ≡ Some k → position_from (same_instance f) (i + 1) xs ≡ Some k → e ≡ f) → e ≡ f
    by_tests true true p q h l rest = instance_same e x p ∙ sym (instance_same f x q)
    by_tests true false p q h l rest = let same : i ≡ k = cc in absurd (omega (arith, place_beyond xs f (i + 1) k l, same))
    by_tests false true p q h l rest = let same : i ≡ k = cc in absurd (omega (arith, place_beyond xs e (i + 1) k h, same))
    by_tests false false p q h l rest = rest h l

found : (xs : List Instance) (e : Instance) (i : ℕ) → has xs e ≡ true → position_from (same_instance e) i xs ≡ Some (unwrap_or (position_from (same_instance e) i xs) 0)
found [] e i h = absurd (true≢false (sym h))
found (x ∷ xs) e i h = by_test (same_instance e x) h (found xs e (i + 1))
  where
    by_test : (b : Bool) → (b || has xs e) ≡ true → (has xs e ≡ true → position_from (same_instance e) (i + 1) xs ≡ Some (unwrap_or (position_from (same_instance e) (i + 1) xs) 0))
        → cond b (Some i) (position_from (same_instance e) (i + 1) xs) ≡ Some (unwrap_or (cond b (Some i) (position_from (same_instance e) (i + 1) xs)) 0)
    by_test true q rest = refl
    by_test false q rest = rest q

pub place_apart : (s : Spec) (e f : Instance) → has (events s) e ≡ true → has (events s) f ≡ true → event_place s e ≡ event_place s f → e ≡ f
place_apart s e f h k p = one_place (events s) e f 0 (event_place s f) (found (events s) e 0 h ∙ ap Some p) (found (events s) f 0 k)

-- Clashes.

first_of_list : (a b c d e f : ℕ) → a ∷ b ∷ c ∷ [] ≡ d ∷ e ∷ f ∷ [] → (a ≡ d) × (b ≡ e) × (c ≡ f)
first_of_list a b c d e f h = let p : a ≡ d = cc in let q : b ≡ e = cc in let r : c ≡ f = cc in (p, q, r)

abbrev new_clash : ℕ → Instance → Instance → ClashFound
new_clash round e f = record { round = round; one = e; two = f }

first_clash_is_one : (s : Spec) (x : Instance) (c d : ClashFound) → IsFirstClash s x c → IsFirstClash s x d → c ≡ d
first_clash_is_one s x c d h k =
    let total : IsTotalOrder (slice_cmp nat_cmp) = lists_total nat_cmp_total in
    let tied = in_order (slice_cmp nat_cmp (rank s c) (rank s d)) (k.first c h.clash) (λ q. h.first d k.clash (total.antisymm (rank s d) (rank s c) ∙ q)) in
    let same = first_of_list c.round (event_place s c.one) (event_place s c.two) d.round (event_place s d.one) (event_place s d.two) (lists_apart nat_cmp nats_apart (rank s c) (rank s d) tied) in
    let one = place_apart s c.one d.one h.clash.declared_one k.clash.declared_one same.1 in
    let two = place_apart s c.two d.two h.clash.declared_two k.clash.declared_two same.2 in
    ap (λ n. new_clash n c.one c.two) same.0 ∙ ap (λ e. new_clash d.round e c.two) one ∙ ap (λ e. new_clash d.round d.one e) two

clash_is_one : (s : Spec) (x : Instance) (a b : Option ClashFound) → IsClashAnswer s x a → IsClashAnswer s x b → a ≡ b
clash_is_one s x None None h k = refl
clash_is_one s x None (Some c) h k = absurd (h k.0 c k.1.clash)
clash_is_one s x (Some c) None h k = absurd (k h.0 c h.1.clash)
clash_is_one s x (Some c) (Some d) h k = ap Some (first_clash_is_one s x c d h.1 k.1)

loop_is_one : (s : Spec) (e : Instance) (a b : Bool) → (IsTrue a ↔ Loops s e) → (IsTrue b ↔ Loops s e) → a ≡ b
loop_is_one s e true b h k = sym (k.1 (h.0 refl))
loop_is_one s e false true h k = absurd (true≢false (sym (h.1 (k.0 refl))))
loop_is_one s e false false h k = refl

-- Answers and reports.

lists_are_one : {A B : Type 0} (R : A → B → Type 0) → ((x : A) (y z : B) → R x y → R x z → y ≡ z) → (xs : List A) (ys zs : List B) → AllZip R xs ys → AllZip R xs zs → ys ≡ zs
lists_are_one R one [] [] [] h k = refl
lists_are_one R one [] [] (z ∷ zs) h k = absurd k
lists_are_one R one [] (y ∷ ys) zs h k = absurd h
lists_are_one R one (x ∷ xs) [] zs h k = absurd h
lists_are_one R one (x ∷ xs) (y ∷ ys) [] h k = absurd k
lists_are_one R one (x ∷ xs) (y ∷ ys) (z ∷ zs) h k = ap (λ u. u ∷ ys) (one x y z h.0 k.0) ∙ ap (λ us. z ∷ us) (lists_are_one R one xs ys zs h.1 k.1)

abbrev new_answers : List (Option ℕ) → List (Option ClashFound) → List Bool → List Verdict → Answers
new_answers lengths clashes loops verdicts = record { lengths = lengths; clashes = clashes; loops = loops; verdicts = verdicts }

pub answers_are_one : (s : Spec) (a b : Answers) → AreRight s a → AreRight s b → a ≡ b
answers_are_one s a b h k =
    let lengths = lists_are_one (IsLengthAnswer s) (length_is_one s) (externals s) a.lengths b.lengths h.lengths k.lengths in
    let clashes = lists_are_one (IsClashAnswer s) (clash_is_one s) (externals s) a.clashes b.clashes h.clashes k.clashes in
    let loops = lists_are_one (λ e looping. IsTrue looping ↔ Loops s e) (loop_is_one s) (events s) a.loops b.loops h.loops k.loops in
    let verdicts = lists_are_one (IsVerdict s) (verdict_is_one s) (groups s) a.verdicts b.verdicts h.verdicts k.verdicts in
    ap (λ xs. new_answers xs a.clashes a.loops a.verdicts) lengths ∙ ap (λ xs. new_answers b.lengths xs a.loops a.verdicts) clashes
    ∙ ap (λ xs. new_answers b.lengths b.clashes xs a.verdicts) loops ∙ ap (λ xs. new_answers b.lengths b.clashes b.loops xs) verdicts

pub report_is_one : ReportIsOne
report_is_one s t u h k = h.2 ∙ ap (report_text s) (answers_are_one s h.0 k.0 h.1 k.1) ∙ sym k.2
