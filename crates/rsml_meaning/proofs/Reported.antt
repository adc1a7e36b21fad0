-- Reports of small specifications, computed: their answers are shown to be right.
use Rattle.std.proofs.Common.{◌≡◌, ℕ, zero, suc, ◌<◌, ◌≤◌, Bool, true, false, ◌&&◌, ◌||◌, not, List, [], ◌∷◌, length, map, flat_map, None, refl, sym, ap, ◌∙◌, subst, true≢false, arith, IsTrue, ◌↔◌}
use Rattle.std.specs.List.{list_any, list_all, AllZip}
use Rattle.std.specs.Ordering.{nat_cmp, is_lt}
use Rattle.std.specs.Cmp.{first_so, second_so}
use Rattle.std.specs.Cmp.Lexicographic.{pointwise, slice_cmp}
use Rattle.rsml_syntax.specs.declared.syntax.Spec.{Spec}
use Rattle.rsml_meaning.specs.Words.{Instance, same_instance, has, Each}
use Rattle.rsml_meaning.specs.Transitions.{TransitionInstance, transitions}
use Rattle.rsml_meaning.specs.Interfaces.{ReceiveInstance, receives}
use Rattle.rsml_meaning.specs.Groups.{Group, groups, Sound}
use Rattle.rsml_meaning.specs.Chains.{leads, linked, is_chain, begins_with, ends_with, is_external, IsChainFrom, Loops, Ends, Clash, meet_on_a_line, meet_in_a_send}
use Rattle.rsml_meaning.specs.Certified.{Certified}
use Rattle.rsml_meaning.specs.Findings.{Verdict, sound, IsVerdict}
use Rattle.rsml_meaning.specs.Report.{ClashFound, IsClash, IsFirstClash, IsClashAnswer, rank}
use Rattle.rsml_meaning.proofs.Same.{instance_same}
use Rattle.rsml_meaning.proofs.AllWorlds.{below, one_below}
use Rattle.rsml_meaning.proofs.Lengths.{raised_on, ends_in, passes, in_front, in_back, is_raised, chain_short}
use Rattle.rsml_meaning.proofs.Repeats.{twice_is_unbounded}
use Rattle.rsml_meaning.proofs.VerdictLines.{judges, verdict_is, each_so}

both : (a b : Bool) → a ≡ true → b ≡ true → (a && b) ≡ true
both a b p q = ap (λ c. c && b) p ∙ q

-- The events that can be present in a round.

-- those that the events raise
abbrev pub raised_by_all : Spec → List Instance → List Instance
raised_by_all s es = flat_map (raised_on (transitions s)) es

-- the events after so many rounds more
abbrev pub rounds_on : ℕ → Spec → List Instance → List Instance
rounds_on zero s es = es
rounds_on (suc k) s es = rounds_on k s (raised_by_all s es)

in_flat : (ts : List TransitionInstance) (es : List Instance) (e f : Instance) → has es e ≡ true → has (raised_on ts e) f ≡ true → has (flat_map (raised_on ts) es) f ≡ true
in_flat ts [] e f h k = absurd (true≢false (sym h))
in_flat ts (x ∷ es) e f h k = by_test (same_instance e x) refl h (in_flat ts es e f)
  where
    by_test : (b : Bool) → same_instance e x ≡ b → (b || has es e) ≡ true → (has es e ≡ true → has (raised_on ts e) f ≡ true → has (flat_map (raised_on ts) es) f ≡ true)
        → has (flat_map (raised_on ts) (x ∷ es)) f ≡ true
    by_test true q r rest = in_front (raised_on ts x) (flat_map (raised_on ts) es) f (subst (λ z. has (raised_on ts z) f ≡ true) (instance_same e x q) k)
    by_test false q r rest = in_back (raised_on ts x) (flat_map (raised_on ts) es) f (rest r k)

last_present : (s : Spec) (x : Instance) (es : List Instance) (e : Instance) (present : List Instance)
    → linked s (x ∷ es) ≡ true → has present x ≡ true → ends_with e (x ∷ es) ≡ true → has (rounds_on (length es) s present) e ≡ true
last_present s x [] e present h k l = subst (λ z. has present z ≡ true) (sym (instance_same e x l)) k
last_present s x (f ∷ es) e present h k l =
    last_present s f es e (raised_by_all s present) (second_so (leads s x f) (linked s (f ∷ es)) h)
    (in_flat (transitions s) present x f k (is_raised (transitions s) x f (first_so (leads s x f) (linked s (f ∷ es)) h))) l

itself : (x y : Instance) → same_instance x y ≡ true → has (x ∷ []) y ≡ true
itself x y h = let e = instance_same x y h in subst (λ z. has (x ∷ []) z ≡ true) e (ap (λ b. b || false) (subst (λ z. same_instance x z ≡ true) (sym e) h))

-- Round n of a chain of n events, one for each number from 0.
pub record Present (s : Spec) (x : Instance) (n : ℕ) (e : Instance) : Type 0 where
  pub round : ℕ
  pub is : n ≡ suc round
  pub among : has (rounds_on round s (x ∷ [])) e ≡ true

chain_present : (s : Spec) (x : Instance) (es : List Instance) (n : ℕ) (e : Instance) → IsChainFrom s x es → length es ≡ n → ends_with e es ≡ true → Present s x n e
chain_present s x [] n e h k l = absurd (true≢false (sym l))
chain_present s x (y ∷ es) n e h k l =
    let chain = first_so (is_chain s (y ∷ es)) (same_instance x y) h in
    record { round = length es; is = sym k; among = last_present s y es e (x ∷ []) (second_so (is_external s y) (linked s (y ∷ es)) chain) (itself x y (second_so (is_chain s (y ∷ es)) (same_instance x y) h)) l }

present_at : (s : Spec) (x : Instance) (n : ℕ) (e : Instance) → Ends s x n e → Present s x n e
present_at s x n e h = chain_present s x h.0 n e h.1 h.2 h.3

-- Clashes.

abbrev pub clashes : Spec → Instance → Instance → Bool
clashes s e f = not (same_instance e f) && (meet_on_a_line s e f || meet_in_a_send s e f)

-- no two events of a round, counted from 0, clash and pass the test
abbrev pub none_in_round : Spec → Instance → (ℕ → Instance → Instance → Bool) → ℕ → Bool
none_in_round s x test k = let present = rounds_on k s (x ∷ []) in list_all (λ e. list_all (λ f. not (clashes s e f && test (suc k) e f)) present) present

-- the chains from the event have at most n events, and no two events of one round clash and pass the test
abbrev pub none_clash : ℕ → Spec → (ℕ → Instance → Instance → Bool) → Instance → Bool
none_clash n s test x = ends_in n s x && list_all (none_in_round s x test) (below n)

not_true : (b : Bool) → not b ≡ true → b ≡ true → ⊥
not_true b h k = true≢false (sym h ∙ ap not k)

pub no_such_clash : (n : ℕ) (s : Spec) (test : ℕ → Instance → Instance → Bool) (x : Instance) (m : ℕ) (e f : Instance)
    → none_clash n s test x ≡ true → Clash s x m e f → test m e f ≡ true → ⊥
no_such_clash n s test x m e f h c t =
    let one = present_at s x m e c.one in
    let two = present_at s x m f c.two in
    let same : two.round ≡ one.round = let q = one.is in let r = two.is in omega (arith, q, r) in
    let short : m ≤ n = subst (λ i. i ≤ n) c.one.2 (chain_short n s x c.one.0 (first_so (ends_in n s x) (list_all (none_in_round s x test) (below n)) h) c.one.1) in
    let early : one.round < n = let q = one.is in omega (arith, short, q) in
    let round = each_so (none_in_round s x test) (below n) one.round (second_so (ends_in n s x) (list_all (none_in_round s x test) (below n)) h) (one_below one.round n early) in
    let present = rounds_on one.round s (x ∷ []) in
    let of_e = passes (λ y. list_all (λ z. not (clashes s y z && test (suc one.round) y z)) present) present e round one.among in
    let of_f = passes (λ z. not (clashes s e z && test (suc one.round) e z)) present f of_e (subst (λ i. has (rounds_on i s (x ∷ [])) f ≡ true) same two.among) in
    not_true (clashes s e f && test (suc one.round) e f) of_f
    (both (clashes s e f) _ (both (not (same_instance e f)) _ c.differ c.together) (subst (λ i. test i e f ≡ true) one.is t))

abbrev pub every : ℕ → Instance → Instance → Bool
every m e f = true

-- an event with no clash
pub no_clash_answer : (n : ℕ) (s : Spec) (x : Instance) → none_clash n s every x ≡ true → IsClashAnswer s x None
no_clash_answer n s x h = λ l c k. no_such_clash n s every x c.round c.one c.two h k.clash refl

abbrev pub ranks_before : Spec → ClashFound → ℕ → Instance → Instance → Bool
ranks_before s c m e f = is_lt (slice_cmp nat_cmp (rank s (record { round = m; one = e; two = f })) (rank s c))

-- an event with a clash that is the first
pub first_clash : (n : ℕ) (s : Spec) (x : Instance) (c : ClashFound) → IsClash s x c → none_clash n s (ranks_before s c) x ≡ true → IsFirstClash s x c
first_clash n s x c k h = record { clash = k; first = λ d l b. no_such_clash n s (ranks_before s c) x d.round d.one d.two h l.clash (ap is_lt b) }

-- Loops, and all external events.

-- the event that begins a chain is raised by a receive
pub external_passes : (p : Instance → Bool) (rs : List ReceiveInstance) (x : Instance) → list_all (λ r. p r.raised) rs ≡ true → list_any (λ r. same_instance r.raised x) rs ≡ true → p x ≡ true
external_passes p [] x h k = absurd (true≢false (sym k))
external_passes p (r ∷ rs) x h k = by_test (same_instance r.raised x) refl k (external_passes p rs x (second_so (p r.raised) (list_all (λ q. p q.raised) rs) h))
  where
    by_test : (b : Bool) → same_instance r.raised x ≡ b → (b || list_any (λ q. same_instance q.raised x) rs) ≡ true → (list_any (λ q. same_instance q.raised x) rs ≡ true → p x ≡ true) → p x ≡ true
    by_test true e l rest = ap p (sym (instance_same r.raised x e)) ∙ first_so (p r.raised) (list_all (λ q. p q.raised) rs) h
    by_test false e l rest = rest l

abbrev pub all_short : ℕ → Spec → Bool
all_short n s = list_all (λ r. ends_in n s r.raised) (receives s)

pub no_loop : (n : ℕ) (s : Spec) (e : Instance) → all_short n s ≡ true → Loops s e → ⊥
no_loop n s e h l = by_list l.0 l.1 l.2
  where
    by_list : (es : List Instance) → is_chain s es ≡ true → Rattle.rsml_meaning.specs.Chains.IsTwiceIn es e → ⊥
    by_list [] k t = true≢false (sym k)
    by_list (x ∷ es) k t =
        twice_is_unbounded s x n (x ∷ es) e (λ fs c. chain_short n s x fs (external_passes (ends_in n s) (receives s) x h (first_so (is_external s x) (linked s (x ∷ es)) k)) c)
        (both (is_chain s (x ∷ es)) (same_instance x x) k (Rattle.rsml_meaning.proofs.Same.instance_itself x)) t

-- no event loops
pub no_loops : (n : ℕ) (s : Spec) (es : List Instance) → all_short n s ≡ true → AllZip (λ e looping. IsTrue looping ↔ Loops s e) es (map (λ e. false) es)
no_loops n s [] h = tt
no_loops n s (e ∷ es) h = ((λ k. absurd (true≢false (sym k)), λ l. absurd (no_loop n s e h l)), no_loops n s es h)

-- Verdicts.

pub verdicts_are : (s : Spec) (gs : List Group) (vs : List Verdict) → pointwise (judges s) gs vs ≡ true → AllZip (IsVerdict s) gs vs
verdicts_are s [] [] h = tt
verdicts_are s [] (v ∷ vs) h = absurd (true≢false (sym h))
verdicts_are s (g ∷ gs) [] h = absurd (true≢false (sym h))
verdicts_are s (g ∷ gs) (v ∷ vs) h = (verdict_is s g v (first_so (judges s g v) (pointwise (judges s) gs vs) h), verdicts_are s gs vs (second_so (judges s g v) (pointwise (judges s) gs vs) h))

-- Certified specifications.

all_sound : (s : Spec) (gs : List Group) → list_all (λ g. judges s g sound) gs ≡ true → Each (Sound s) gs
all_sound s [] h = tt
all_sound s (g ∷ gs) h = (verdict_is s g sound (first_so (judges s g sound) (list_all (λ k. judges s k sound) gs) h), all_sound s gs (second_so (judges s g sound) (list_all (λ k. judges s k sound) gs) h))

abbrev pub none_clashes : ℕ → Spec → Bool
none_clashes n s = list_all (λ r. none_clash n s every r.raised) (receives s)

begins_external : (s : Spec) (x : Instance) (es : List Instance) → IsChainFrom s x es → is_external s x ≡ true
begins_external s x [] h = absurd (true≢false (sym h))
begins_external s x (y ∷ es) h =
    let chain = first_so (is_chain s (y ∷ es)) (same_instance x y) h in
    subst (λ z. is_external s z ≡ true) (sym (instance_same x y (second_so (is_chain s (y ∷ es)) (same_instance x y) h))) (first_so (is_external s y) (linked s (y ∷ es)) chain)

-- all groups are sound, all chains end, and none clash: this certifies
pub certified : (n : ℕ) (s : Spec) → (list_all (λ g. judges s g sound) (groups s) && (all_short n s && none_clashes n s)) ≡ true → Certified s
certified n s h =
    let rest = second_so (list_all (λ g. judges s g sound) (groups s)) (all_short n s && none_clashes n s) h in
    record {
      sound = all_sound s (groups s) (first_so (list_all (λ g. judges s g sound) (groups s)) (all_short n s && none_clashes n s) h);
      no_loop = λ e l. no_loop n s e (first_so (all_short n s) (none_clashes n s) rest) l;
      no_clash = λ x m e f c. no_such_clash n s every x m e f
          (external_passes (none_clash n s every) (receives s) x (second_so (all_short n s) (none_clashes n s) rest) (begins_external s x c.one.0 c.one.1)) c refl;
    }
