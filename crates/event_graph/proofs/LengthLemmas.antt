-- One more round, and what is known after all of them.
use Rattle.std.proofs.Common.{◌≡◌, ℕ, zero, suc, ◌<◌, ◌≤◌, ◌==◌, ◌&&◌, not, Bool, true, false, List, [], ◌∷◌, length, Option, Some, None, refl, sym, ap, subst, ◌∙◌, ⊎_elim, inl, inr, ◌⊎◌, arith, true≢false}
use Rattle.std.specs.Cmp.{nat_eq_equiv, first_so, second_so}
use Rattle.std.proofs.lemmas.Bool.{eqb-true, cases_lt}
use Rattle.event_graph.specs.declared.events.Events.{Events}
use Rattle.event_graph.specs.Sets.{has}
use Rattle.event_graph.specs.Graphs.{Graph, leads, IsGraph}
use Rattle.event_graph.specs.Chains.{linked, IsChainFrom, IsLengthAnswer, Endless}
use Rattle.event_graph.specs.Ended.{length_at, AreLengths, GoesOn, IsKnown, AreEnded}
use Rattle.event_graph.proofs.Pigeons.{both, within, among, firsts, length_firsts, among_firsts, too_many}

pub either_way : (b : Bool) → (b ≡ true) ⊎ (b ≡ false)
either_way true = inl refl
either_way false = inr refl

pub and_so : (a b : Bool) → a ≡ true → b ≡ true → (a && b) ≡ true
and_so a b h k = ap (λ c. c && b) h ∙ k

-- a number below n that passes a test, or none does
pub some_below : (p : ℕ → Bool) (n : ℕ) → ((k : ℕ) × (k < n) × (p k ≡ true)) ⊎ ((k : ℕ) → k < n → p k ≡ false)
some_below p zero = inr (λ k h. absurd (omega (arith, h)))
some_below p (suc n) = elim (some_below p n) [
  | inl s ↦ inl (s.0, (let l = s.1 in omega (arith, l)), s.2)
  | inr none ↦ elim (either_way (p n)) [
    | inl found ↦ inl (n, omega arith, found)
    | inr other ↦ inr (λ k h. ⊎_elim (λ l. none k l) (λ u. let e : k ≡ n = omega (arith, h, u) in ap p e ∙ other) (cases_lt k n))
  ]
]

pub chain_of : (g : Graph) (x : ℕ) (es : List ℕ) → linked g (x ∷ es) ≡ true → IsChainFrom g x (x ∷ es)
chain_of g x es h = and_so (linked g (x ∷ es)) (x == x) h (nat_eq_equiv.refl x)

-- what a chain from an event goes on with
pub record GoesFrom (g : Graph) (x : ℕ) (es : List ℕ) : Type 0 where
  pub rest : List ℕ
  pub is : es ≡ x ∷ rest
  pub so : linked g (x ∷ rest) ≡ true

pub goes_from : (g : Graph) (x : ℕ) (es : List ℕ) → IsChainFrom g x es → GoesFrom g x es
goes_from g x [] h = absurd (true≢false (sym (second_so (linked g []) false h)))
goes_from g x (e ∷ es) h =
    let same = eqb-true x e (second_so (linked g (e ∷ es)) (x == e) h) in
    record { rest = es; is = ap (λ z. z ∷ es) (sym same); so = ap (λ z. linked g (z ∷ es)) same ∙ first_so (linked g (e ∷ es)) (x == e) h }

one_more : (g : Graph) (e f n : ℕ) → leads g e f ≡ true → GoesOn g f n → GoesOn g e (suc n)
one_more g e f n h on = (f ∷ on.0, and_so (leads g e f) (linked g (f ∷ on.0)) h on.1, ap suc on.2)

-- where each follower's length is known and at most n, no chain is longer than n + 1
short : (g : Graph) (set : Events) (lengths : List (Option ℕ)) (n e : ℕ) → ((f : ℕ) → leads g e f ≡ true → IsKnown g lengths f n) →
    (es : List ℕ) → linked g (e ∷ es) ≡ true → length (e ∷ es) ≤ suc n
short g set lengths n e h [] k = omega arith
short g set lengths n e h (f ∷ es) k =
    let known = h f (first_so (leads g e f) (linked g (f ∷ es)) k) in
    let most = known.2.most (f ∷ es) (chain_of g f es (second_so (leads g e f) (linked g (f ∷ es)) k)) in
    let bound = known.3 in
    omega (arith, most, bound)

pub leads_below : (g : Graph) (is : IsGraph g) (e f : ℕ) → leads g e f ≡ true → f < g.count
leads_below g is e f h = is.rows.within e f h

pub first_round : (g : Graph) (set : Events) (lengths : List (Option ℕ)) → length lengths ≡ g.count → ((e : ℕ) → has set e ≡ false) → ((e : ℕ) → length_at lengths e ≡ None) →
    AreEnded g 0 set lengths
first_round g set lengths long none blank = record {
  long = long;
  known = λ e h k. absurd (true≢false (sym k ∙ none e));
  unknown = λ e h k. (blank e, ([], refl, refl));
}

module _ (g : Graph) (is : IsGraph g) (n : ℕ) (set next : Events) (lengths noted : List (Option ℕ)) (ended : AreEnded g n set lengths)
    (some : (e : ℕ) → has next e ≡ true → (f : ℕ) → leads g e f ≡ true → has set f ≡ true)
    (all : (e : ℕ) → e < g.count → ((f : ℕ) → leads g e f ≡ true → has set f ≡ true) → has next e ≡ true)
    (long : length noted ≡ length lengths)
    (new : (e : ℕ) → e < g.count → has next e ≡ true → has set e ≡ false → length_at noted e ≡ Some (suc n))
    (kept : (e : ℕ) → e < g.count → (has next e ≡ false) ⊎ (has set e ≡ true) → length_at noted e ≡ length_at lengths e)
  where
    followers : (e : ℕ) → has next e ≡ true → (f : ℕ) → leads g e f ≡ true → IsKnown g lengths f n
    followers e h f k = ended.known f (leads_below g is e f k) (some e h f k)

    now_known : (e : ℕ) → e < g.count → has next e ≡ true → IsKnown g noted e (suc n)
    now_known e l h = ⊎_elim before fresh (either_way (has set e))
      where
        before : has set e ≡ true → IsKnown g noted e (suc n)
        before k = let known = ended.known e l k in let bound = known.3 in (known.0, kept e l (inr k) ∙ known.1, known.2, omega (arith, bound))

        fresh : has set e ≡ false → IsKnown g noted e (suc n)
        fresh k =
            let on = (ended.unknown e l k).1 in (
              suc n,
              new e l h k,
              record {
                reached = (e ∷ on.0, chain_of g e on.0 on.1, ap suc on.2);
                most = λ es c. let from = goes_from g e es c in subst (λ xs. length xs ≤ suc n) (sym from.is) (short g set lengths n e (followers e h) from.rest from.so);
              },
              omega arith,
            )

    -- some follower has not ended
    goes_on : (e : ℕ) → e < g.count → has next e ≡ false → GoesOn g e (suc n)
    goes_on e l h = elim (some_below (λ f. leads g e f && not (has set f)) g.count) [
      | inl s ↦ one_more g e s.0 n (first_so (leads g e s.0) (not (has set s.0)) s.2) (ended.unknown s.0 s.1 (not_so (has set s.0) (second_so (leads g e s.0) (not (has set s.0)) s.2))).1
      | inr none ↦ absurd (true≢false (sym (all e l (λ f k. is_in (has set f) (ap (λ b. b && not (has set f)) (sym k) ∙ none f (leads_below g is e f k)))) ∙ h))
    ]
      where
        not_so : (b : Bool) → not b ≡ true → b ≡ false
        not_so true k = absurd (true≢false (sym k))
        not_so false k = refl

        is_in : (b : Bool) → not b ≡ false → b ≡ true
        is_in true k = refl
        is_in false k = absurd (true≢false k)

    now_unknown : (e : ℕ) → e < g.count → has next e ≡ false → (length_at noted e ≡ None) × GoesOn g e (suc n)
    now_unknown e l h = (kept e l (inl h) ∙ ⊎_elim before (λ k. (ended.unknown e l k).0) (either_way (has set e)), goes_on e l h)
      where
        before : has set e ≡ true → length_at lengths e ≡ None
        before k =
            let known = ended.known e l k in
            let bound = known.3 in
            let on = goes_on e l h in
            let most = known.2.most (e ∷ on.0) (chain_of g e on.0 on.1) in
            let more = on.2 in
            absurd (omega (arith, most, bound, more))

    pub one_round : AreEnded g (suc n) next noted
    one_round = record { long = long ∙ ended.long; known = now_known; unknown = now_unknown }

-- After as many rounds as there are events.

all_below : (g : Graph) (is : IsGraph g) (e : ℕ) (es : List ℕ) → e < g.count → linked g (e ∷ es) ≡ true → within (e ∷ es) (firsts g.count) ≡ true
all_below g is e [] l h = both (among (firsts g.count) e) true (among_firsts g.count e l) refl
all_below g is e (f ∷ es) l h =
    both (among (firsts g.count) e) (within (f ∷ es) (firsts g.count)) (among_firsts g.count e l)
    (all_below g is f es (leads_below g is e f (first_so (leads g e f) (linked g (f ∷ es)) h)) (second_so (leads g e f) (linked g (f ∷ es)) h))

endless : (g : Graph) (is : IsGraph g) (e : ℕ) → e < g.count → GoesOn g e g.count → Endless g e
endless g is e l on =
    let long = on.2 in
    let same = length_firsts g.count in
    let twice = too_many (firsts g.count) (e ∷ on.0) (all_below g is e on.0 l on.1) (omega (arith, long, same)) in
    (e ∷ on.0, twice.event, chain_of g e on.0 on.1, twice.twice)

pub all_rounds : (g : Graph) (is : IsGraph g) (set : Events) (lengths : List (Option ℕ)) → AreEnded g g.count set lengths → AreLengths g lengths
all_rounds g is set lengths ended = record { long = ended.long; right = right }
  where
    right : (e : ℕ) → e < g.count → IsLengthAnswer g e (length_at lengths e)
    right e l = ⊎_elim
        (λ h. let known = ended.known e l h in subst (IsLengthAnswer g e) (sym known.1) known.2)
        (λ h. let unknown = ended.unknown e l h in subst (IsLengthAnswer g e) (sym unknown.0) (endless g is e l unknown.1))
        (either_way (has set e))
