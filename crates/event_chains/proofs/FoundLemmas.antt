-- What is found, in lists.
use Rattle.std.proofs.Common.{◌≡◌, ℕ, zero, suc, ◌+◌, ◌≤◌, Bool, true, false, cond, List, [], ◌∷◌, ◌++◌, map, flat_map, filter, take, length, Option, Some, None, unwrap_or, slice_get, IsTrue, ◌↔◌, refl, sym, ap, ◌∙◌, subst, ⊎_elim, true≢false, arith}
use Rattle.std.specs.List.{AllZip, items_where_true, range_with_len}
use Rattle.std.specs.Option.{option_to_list}
use Rattle.std.specs.Cmp.{first_so, second_so}
use Rattle.std.proofs.lemmas.List.{append-nil}
use Rattle.std.proofs.lemmas.List.FromFn.{length-range_with_len}
use Rattle.std.proofs.lemmas.Option.{same_Some}
use Rattle.rsml_syntax.specs.declared.syntax.Spec.{Spec}
use Rattle.rsml_syntax.specs.limits.Checked.{IsChecked}
use Rattle.rsml_meaning.specs.Words.{Instance, Each, IsOne, AllThree, same_instance, has}
use Rattle.rsml_meaning.specs.Instances.{events}
use Rattle.rsml_meaning.specs.Chains.{is_external, leads, linked, is_chain, begins_with, ends_with, IsChainFrom, HasLength, Ends, Loops, Clash}
use Rattle.rsml_meaning.specs.Report.{ClashFound, externals, IsLengthAnswer, IsClashAnswer}
use Rattle.rsml_meaning.proofs.Same.{instance_same, instance_itself}
use Rattle.rsml_meaning.proofs.Ways.{length_or_endless}
use Rattle.rsml_meaning.proofs.Lists.{each_one, any_one, one_filter}
use Rattle.state_tree.proofs.Lists.{zip_push}
use Rattle.ground_members.specs.Members.{IsEvent}
use Rattle.event_graph.specs.declared.clash.Clash.{Clash as Numbers}
use Rattle.event_graph.specs.Graphs.{Graph}
use Rattle.event_graph.specs.Reached as by_loop
use Rattle.event_graph.specs.Clashes.{clash_at, if_any}
use Rattle.event_graph.specs.Clashes as by_clash
use Rattle.event_chains.specs.declared.external.External.{External}
use Rattle.event_chains.specs.Draws.{Draws}
use Rattle.event_chains.specs.Found.{AreLooping, AnswerIs, IsFirst, AreClashes, ExternalIs, AreExternals, Shows}
use Rattle.event_chains.specs.Laws.{NoneFound}
use Rattle.event_chains.proofs.Numbers.{raised_event, external_event}
use Rattle.event_chains.proofs.ChainLemmas.{loops_there, loops_back}
use Rattle.event_chains.proofs.FirstClashes.{answer_agrees}

-- Lists.

pub zip_of_places : {A B : Type 0} (R : A → B → Type 0) (xs : List A) (ys : List B) → length xs ≡ length ys → ((i : ℕ) (x : A) (y : B) → slice_get xs i ≡ Some x → slice_get ys i ≡ Some y → R x y) → AllZip R xs ys
zip_of_places R [] [] l h = tt
zip_of_places R [] (y ∷ ys) l h = absurd (omega (arith, l))
zip_of_places R (x ∷ xs) [] l h = absurd (omega (arith, l))
zip_of_places R (x ∷ xs) (y ∷ ys) l h = (h 0 x y refl refl, zip_of_places R xs ys (omega (arith, l)) (λ i a b. h (suc i) a b))

zip_map : {A B C : Type 0} (R : A → B → Type 0) (Q : A → C → Type 0) (f : B → C) → ((x : A) (y : B) → R x y → Q x (f y)) → (xs : List A) (ys : List B) → AllZip R xs ys → AllZip Q xs (map f ys)
zip_map R Q f h [] [] z = tt
zip_map R Q f h [] (y ∷ ys) z = absurd z
zip_map R Q f h (x ∷ xs) [] z = absurd z
zip_map R Q f h (x ∷ xs) (y ∷ ys) z = (h x y z.0, zip_map R Q f h xs ys z.1)

-- Loops.

picked : (p : ℕ → Bool) (xs : List ℕ) → filter p xs ≡ items_where_true (map p xs) xs
picked p [] = refl
picked p (x ∷ xs) = by_test (p x) (picked p xs)
  where
    by_test : (b : Bool) → filter p xs ≡ items_where_true (map p xs) xs → cond b (x ∷ filter p xs) (filter p xs) ≡ items_where_true (b ∷ map p xs) (x ∷ xs)
    by_test true e = ap (λ ys. x ∷ ys) e
    by_test false e = e

pub looping_is : (s : Spec) (g : Graph) → IsChecked s → Draws s g → (ks : List ℕ) → by_loop.AreLoops g ks → AreLooping s ks
looping_is s g checked d ks is = (
  map is.looping (range_with_len 0 (length (events s))),
  flags (events s) 0 (λ k e h. ap (slice_get (events s)) (omega arith) ∙ h),
  is.are ∙ ap (λ n. filter is.looping (range_with_len 0 n)) d.counted ∙ picked is.looping (range_with_len 0 (length (events s))),
)
  where
    flags : (es : List Instance) (i : ℕ) → ((k : ℕ) (e : Instance) → slice_get es k ≡ Some e → IsEvent s e (i + k)) → AllZip (λ e looping. IsTrue looping ↔ Loops s e) es (map is.looping (range_with_len i (length es)))
    flags [] i h = tt
    flags (e ∷ es) i h =
        let here : IsEvent s e i = subst (λ n. IsEvent s e n) (omega arith) (h 0 e refl) in (
          (λ t. loops_there s g checked d i e here ((is.right i).0 t), λ l. (is.right i).1 (loops_back s g checked d i e here l)),
          flags es (i + 1) (λ k f l. subst (λ n. IsEvent s f n) (omega arith) (h (suc k) f l)),
        )

-- Clashes.

-- an external event has its first clash, and another none
abbrev Shown : Spec → Instance → Option Numbers → Type 0
Shown s e o = (is_external s e ≡ true → IsFirst s e o) × (is_external s e ≡ false → o ≡ None)

kept : (s : Spec) (es : List Instance) (os : List (Option Numbers)) → AllZip (Shown s) es os
    → (firsts : List (Option Numbers)) × AllZip (IsFirst s) (filter (is_external s) es) firsts × (flat_map if_any os ≡ flat_map if_any firsts)
kept s [] [] h = ([], tt, refl)
kept s [] (o ∷ os) h = absurd h
kept s (e ∷ es) [] h = absurd h
kept s (e ∷ es) (o ∷ os) h = by_test (is_external s e) refl (kept s es os h.1)
  where
    by_test : (b : Bool) → is_external s e ≡ b → (firsts : List (Option Numbers)) × AllZip (IsFirst s) (filter (is_external s) es) firsts × (flat_map if_any os ≡ flat_map if_any firsts)
        → (firsts : List (Option Numbers)) × AllZip (IsFirst s) (cond b (e ∷ filter (is_external s) es) (filter (is_external s) es)) firsts × (if_any o ++ flat_map if_any os ≡ flat_map if_any firsts)
    by_test true q r = (o ∷ r.0, (h.0.0 q, r.1), ap (λ cs. if_any o ++ cs) r.2)
    by_test false q r = (r.0, r.1, ap (λ z. if_any z ++ flat_map if_any os) (h.0.1 q) ∙ r.2)

pub clashes_are : (s : Spec) (g : Graph) → IsChecked s → Draws s g → (cs : List Numbers) → by_clash.AreAllClashes g cs → AreClashes s cs
clashes_are s g checked d cs is =
    let r = kept s (events s) is.firsts (zip_of_places (Shown s) (events s) is.firsts (sym (is.right.long ∙ d.counted)) shown) in
    (r.0, r.1, is.are ∙ r.2)
  where
    shown : (i : ℕ) (e : Instance) (o : Option Numbers) → IsEvent s e i → slice_get is.firsts i ≡ Some o → Shown s e o
    shown i e o h k =
        let read : clash_at is.firsts i ≡ o = ap (λ z. unwrap_or z None) k in (
          λ t. answer_agrees s g checked d i e h t o (subst (by_clash.IsClashAnswer g i) read (is.right.right i (d.starts_are i e h ∙ t))),
          λ t. sym read ∙ is.right.other i (d.starts_are i e h ∙ t),
        )

-- External events.

grown : {A : Type 0} (t : A → Bool) (xs : List A) (k : ℕ) (x : A) → slice_get xs k ≡ Some x → filter t (take (suc k) xs) ≡ filter t (take k xs) ++ cond (t x) (x ∷ []) []
grown t [] k x h = absurd (let no : ⊥ = cc in no)
grown t (y ∷ ys) zero x h = ap (λ z. cond (t z) (z ∷ []) []) (same_Some y x h)
grown t (y ∷ ys) (suc k) x h = by_test (t y) (grown t ys k x h)
  where
    by_test : (b : Bool) → filter t (take (suc k) ys) ≡ filter t (take k ys) ++ cond (t x) (x ∷ []) []
        → cond b (y ∷ filter t (take (suc k) ys)) (filter t (take (suc k) ys)) ≡ cond b (y ∷ filter t (take k ys)) (filter t (take k ys)) ++ cond (t x) (x ∷ []) []
    by_test true e = ap (λ zs. y ∷ zs) e
    by_test false e = e

-- the external events below a number have their rows
abbrev pub AreShown : Spec → ℕ → List External → Type 0
AreShown s k rs = AllZip (ExternalIs s) (filter (is_external s) (take k (events s))) rs

shown_none : (s : Spec) (k : ℕ) (e : Instance) (rs : List External) → IsEvent s e k → AreShown s k rs → Shows s e None → AreShown s (suc k) rs
shown_none s k e rs h are other =
    subst (λ es. AllZip (ExternalIs s) es rs)
    (sym (grown (is_external s) (events s) k e h ∙ ap (λ b. filter (is_external s) (take k (events s)) ++ cond b (e ∷ []) []) other ∙ append-nil (filter (is_external s) (take k (events s))))) are

shown_more : (s : Spec) (k : ℕ) (e : Instance) (rs : List External) (r : External) → IsEvent s e k → AreShown s k rs → Shows s e (Some r) → AreShown s (suc k) (rs ++ r ∷ [])
shown_more s k e rs r h are is =
    subst (λ es. AllZip (ExternalIs s) es (rs ++ r ∷ []))
    (sym (grown (is_external s) (events s) k e h ∙ ap (λ b. filter (is_external s) (take k (events s)) ++ cond b (e ∷ []) []) is.0))
    (zip_push (ExternalIs s) (filter (is_external s) (take k (events s))) rs e r are is.1)

-- one event more
pub shown_turn : (s : Spec) (k : ℕ) (e : Instance) (old new : List External) (o : Option External) → IsEvent s e k → AreShown s k old → Shows s e o → new ≡ old ++ option_to_list o → AreShown s (suc k) new
shown_turn s k e old new None h are is m = subst (AreShown s (suc k)) (sym (m ∙ append-nil old)) (shown_none s k e old h are is)
shown_turn s k e old new (Some r) h are is m = subst (AreShown s (suc k)) (sym m) (shown_more s k e old r h are is)

-- Where none is found.

all_events : (s : Spec) → IsChecked s → (e : Instance) (es : List Instance) → IsOne e (events s) → linked s (e ∷ es) ≡ true → Each (λ f. IsOne f (events s)) (e ∷ es)
all_events s checked e [] m h = (m, tt)
all_events s checked e (f ∷ es) m h = (m, all_events s checked f es (raised_event s checked e f (first_so (leads s e f) (linked s (f ∷ es)) h)) (second_so (leads s e f) (linked s (f ∷ es)) h))

-- a chain has events alone
chain_events : (s : Spec) → IsChecked s → (es : List Instance) → is_chain s es ≡ true → Each (λ f. IsOne f (events s)) es
chain_events s checked [] h = tt
chain_events s checked (e ∷ es) h =
    all_events s checked e es (external_event s checked e (first_so (is_external s e) (linked s (e ∷ es)) h)) (second_so (is_external s e) (linked s (e ∷ es)) h)

stands_in : (P : Instance → Type 0) (e : Instance) (es : List Instance) → Each P es → 1 ≤ length (filter (same_instance e) es) → P e
stands_in P e [] h l = absurd (omega (arith, l))
stands_in P e (f ∷ es) h l = by_test (same_instance e f) refl l (stands_in P e es h.1)
  where
    by_test : (b : Bool) → same_instance e f ≡ b → 1 ≤ length (cond b (f ∷ filter (same_instance e) es) (filter (same_instance e) es)) → (1 ≤ length (filter (same_instance e) es) → P e) → P e
    by_test true q m rest = subst P (sym (instance_same e f q)) h.0
    by_test false q m rest = rest m

last_in : (P : Instance → Type 0) (e : Instance) (es : List Instance) → Each P es → ends_with e es ≡ true → P e
last_in P e [] h k = absurd (true≢false (sym k))
last_in P e (f ∷ []) h k = subst P (sym (instance_same e f k)) h.0
last_in P e (f ∷ g ∷ es) h k = last_in P e (g ∷ es) h.1 k

ends_event : (s : Spec) → IsChecked s → (x : Instance) (n : ℕ) (e : Instance) → Ends s x n e → has (events s) e ≡ true
ends_event s checked x n e (es, chain, long, ends) =
    any_one (same_instance e) (events s) e (last_in (λ f. IsOne f (events s)) e es (chain_events s checked es (first_so (is_chain s es) (begins_with x es) chain)) ends) (instance_itself e)

begins_external : (s : Spec) (x : Instance) (es : List Instance) → IsChainFrom s x es → is_external s x ≡ true
begins_external s x [] h = absurd (true≢false (sym h))
begins_external s x (y ∷ es) h =
    let chain = first_so (is_chain s (y ∷ es)) (same_instance x y) h in
    subst (λ z. is_external s z ≡ true) (sym (instance_same x y (second_so (is_chain s (y ∷ es)) (same_instance x y) h))) (first_so (is_external s y) (linked s (y ∷ es)) chain)

no_flag : (s : Spec) (es : List Instance) (flags : List Bool) (xs : List ℕ) → AllZip (λ e looping. IsTrue looping ↔ Loops s e) es flags → length xs ≡ length es → items_where_true flags xs ≡ [] → Each (λ e. Loops s e → ⊥) es
no_flag s [] flags xs h l k = tt
no_flag s (e ∷ es) [] xs h l k = absurd h
no_flag s (e ∷ es) (b ∷ flags) [] h l k = absurd (omega (arith, l))
no_flag s (e ∷ es) (true ∷ flags) (x ∷ xs) h l k = absurd (let no : ⊥ = cc in no)
no_flag s (e ∷ es) (false ∷ flags) (x ∷ xs) h l k = ((λ m. true≢false (sym (h.0.1 m))), no_flag s es flags xs h.1 (omega (arith, l)) k)

all_false : (s : Spec) (es : List Instance) (flags : List Bool) (xs : List ℕ) → AllZip (λ e looping. IsTrue looping ↔ Loops s e) es flags → ((e : Instance) → Loops s e → ⊥) → items_where_true flags xs ≡ []
all_false s [] [] xs h none = refl
all_false s [] (b ∷ flags) xs h none = absurd h
all_false s (e ∷ es) [] xs h none = absurd h
all_false s (e ∷ es) (true ∷ flags) xs h none = absurd (none e (h.0.0 refl))
all_false s (e ∷ es) (false ∷ flags) [] h none = refl
all_false s (e ∷ es) (false ∷ flags) (x ∷ xs) h none = all_false s es flags xs h.1 none

no_first : (s : Spec) (xs : List Instance) (firsts : List (Option Numbers)) → AllZip (IsFirst s) xs firsts → flat_map if_any firsts ≡ [] → Each (λ x. IsClashAnswer s x None) xs
no_first s [] firsts h k = tt
no_first s (x ∷ xs) [] h k = absurd h
no_first s (x ∷ xs) (Some c ∷ firsts) h k = absurd (let no : ⊥ = cc in no)
no_first s (x ∷ xs) (None ∷ firsts) h k = (none h.0, no_first s xs firsts h.1 k)
  where
    none : IsFirst s x None → IsClashAnswer s x None
    none (None, answer, is) = answer
    none (Some c, answer, is) = absurd is

all_none : (s : Spec) (xs : List Instance) (firsts : List (Option Numbers)) → AllZip (IsFirst s) xs firsts → ((x : Instance) (n : ℕ) (e f : Instance) → Clash s x n e f → ⊥) → flat_map if_any firsts ≡ []
all_none s [] [] h none = refl
all_none s [] (o ∷ firsts) h none = absurd h
all_none s (x ∷ xs) [] h none = absurd h
all_none s (x ∷ xs) (None ∷ firsts) h none = all_none s xs firsts h.1 none
all_none s (x ∷ xs) (Some c ∷ firsts) h none = absurd (some h.0)
  where
    some : IsFirst s x (Some c) → ⊥
    some (None, answer, is) = is
    some (Some z, answer, is) = none x z.round z.one z.two answer.1.clash.clash

none_found : (s : Spec) → IsChecked s → (loops : List ℕ) (clashes : List Numbers) → AreLooping s loops → AreClashes s clashes → loops ≡ [] → clashes ≡ [] → NoneFound s
none_found s checked loops clashes l c h k = record { no_loop = no_loop; no_clash = no_clash }
  where
    no_loop : (e : Instance) → Loops s e → ⊥
    no_loop e m =
        let event = stands_in (λ f. IsOne f (events s)) e m.0 (chain_events s checked m.0 m.1) (let two = m.2 in omega (arith, two)) in
        each_one (λ f. Loops s f → ⊥) (events s) e (no_flag s (events s) l.0 (range_with_len 0 (length (events s))) l.1 (length-range_with_len 0 (length (events s))) (sym l.2 ∙ h)) event m

    long : (x : Instance) → is_external s x ≡ true → HasLength s x
    long x external = ⊎_elim (λ n. n) (λ m. absurd (no_loop m.1 (m.0, first_so (is_chain s m.0) (begins_with x m.0) m.2, m.3))) (length_or_endless s x external)

    no_clash : (x : Instance) (n : ℕ) (e f : Instance) → Clash s x n e f → ⊥
    no_clash x n e f is =
        let external = begins_external s x is.one.0 is.one.1 in
        let among = one_filter (is_external s) (events s) x (external_event s checked x external) external in
        each_one (λ y. IsClashAnswer s y None) (externals s) x (no_first s (externals s) c.0 c.1 (sym c.2 ∙ k)) among (long x external) (record { round = n; one = e; two = f })
        (record { declared_one = ends_event s checked x n e is.one; declared_two = ends_event s checked x n f is.two; clash = is })

pub none_found_is_none : (s : Spec) → IsChecked s → (loops : List ℕ) (clashes : List Numbers) → AreLooping s loops → AreClashes s clashes → ((loops ≡ []) × (clashes ≡ [])) ↔ NoneFound s
none_found_is_none s checked loops clashes l c = (
  λ h. none_found s checked loops clashes l c h.0 h.1,
  λ none. (l.2 ∙ all_false s (events s) l.0 (range_with_len 0 (length (events s))) l.1 none.no_loop, c.2 ∙ all_none s (externals s) c.0 c.1 none.no_clash),
)

-- Answers of a report.

answers : (s : Spec) (xs : List Instance) (rs : List External) → AllZip (ExternalIs s) xs rs → (os : List (Option ClashFound)) × AllZip (IsClashAnswer s) xs os × AllThree (AnswerIs s) xs os (map (λ r. r.clash) rs)
answers s [] [] h = ([], tt, tt)
answers s [] (r ∷ rs) h = absurd h
answers s (x ∷ xs) [] h = absurd h
answers s (x ∷ xs) (r ∷ rs) h = let a = h.0.clash in let rest = answers s xs rs h.1 in (a.0 ∷ rest.0, (a.1, rest.1), (a.2, rest.2))

pub externals_answer : (s : Spec) (rs : List External) → AreExternals s rs → AllZip (IsLengthAnswer s) (externals s) (map (λ r. r.length) rs)
    × ((os : List (Option ClashFound)) × AllZip (IsClashAnswer s) (externals s) os × AllThree (AnswerIs s) (externals s) os (map (λ r. r.clash) rs))
externals_answer s rs h = (zip_map (ExternalIs s) (IsLengthAnswer s) (λ r. r.length) (λ x r is. is.length) (externals s) rs h, answers s (externals s) rs h)
