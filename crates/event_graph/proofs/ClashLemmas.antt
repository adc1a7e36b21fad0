-- First clashes.
use Rattle.std.proofs.Common.{◌≡◌, ℕ, zero, suc, ◌+◌, ◌<◌, ◌≤◌, true, List, [], ◌∷◌, ◌++◌, length, Option, Some, None, refl, sym, ap, subst, ◌∙◌, ⊎_elim, inl, inr, ◌⊎◌, arith, true≢false}
use Rattle.std.proofs.lemmas.Bool.{cases_lt, eqb-true}
use Rattle.std.specs.Cmp.{first_so, second_so}
use Rattle.event_graph.specs.declared.events.Events.{Events}
use Rattle.event_graph.specs.Sets.{has, has_at}
use Rattle.event_graph.specs.Graphs.{Graph, leads, meets, IsGraph}
use Rattle.event_graph.specs.Chains.{linked, ends_with, Ends, IsLength, HasLength, Endless, IsClash, IsLengthAnswer, times_in}
use Rattle.event_graph.specs.Reached.{LeadsOn, AreReached}
use Rattle.event_graph.specs.Rounds.{Round, IsRound, AreMeeting, AreFirstMeeting}
use Rattle.event_graph.specs.Clashes.{IsFirstClash}
use Rattle.event_graph.proofs.LengthLemmas.{chain_of, goes_from, leads_below}
use Rattle.event_graph.proofs.ReachLemmas.{linked_join, twice_stands}

-- What meets in a round clashes.

pub clash_of : (r : Round) (x n e f : ℕ) → IsRound r x n → AreMeeting r e f → IsClash r.graph x n e f
clash_of r x n e f is m = record { differ = m.differ; one = (is e).0 m.one; two = (is f).0 m.two; together = m.together }

pub meeting_of : (r : Round) (x n e f : ℕ) → IsRound r x n → IsClash r.graph x n e f → AreMeeting r e f
meeting_of r x n e f is c = record { one = (is e).1 c.one; two = (is f).1 c.two; differ = c.differ; together = c.together }

-- no clash in rounds up to n
abbrev pub NoneUpTo : Graph → ℕ → ℕ → Type 0
NoneUpTo g x n = (m e f : ℕ) → m ≤ n → IsClash g x m e f → ⊥

pub none_at_zero : (g : Graph) (x : ℕ) → NoneUpTo g x 0
none_at_zero g x m e f h c = none c.one.0 c.one.2 c.one.3
  where
    none : (es : List ℕ) → length es ≡ m → ends_with e es ≡ true → ⊥
    none [] l k = true≢false (sym k)
    none (a ∷ es) l k = omega (arith, l, h)

pub none_more : (g : Graph) (r : Round) (x n : ℕ) → r.graph ≡ g → IsRound r x (n + 1) → ((e f : ℕ) → AreMeeting r e f → ⊥) → NoneUpTo g x n → NoneUpTo g x (n + 1)
none_more g r x n same is free before m e f h c = ⊎_elim
    (λ less. before m e f (omega (arith, less)) c)
    (λ above.
    let last : m ≡ n + 1 = omega (arith, h, above) in
    free e f (meeting_of r x (n + 1) e f is (subst (λ k. IsClash r.graph x k e f) last (subst (λ z. IsClash z x m e f) (sym same) c))))
    (cases_lt m (n + 1))

pub none_at_all : (g : Graph) (x n : ℕ) → IsLength g x n → NoneUpTo g x n → HasLength g x → (m e f : ℕ) → IsClash g x m e f → ⊥
none_at_all g x n is none has m e f c =
    let chain = c.one in
    let most = is.most chain.0 chain.1 in
    let long = chain.2 in
    none m e f (omega (arith, most, long)) c

first_clash_is : (r : Round) (x n e f : ℕ) → IsRound r x (n + 1) → NoneUpTo r.graph x n → AreFirstMeeting r e f
    → IsFirstClash r.graph x (record { start = x; round = n + 1; one = e; two = f })
first_clash_is r x n e f is before first = record {
  of_start = refl;
  clash = clash_of r x (n + 1) e f is first.meeting;
  least_round = λ m d b c. ⊎_elim (λ less. absurd (before m d b (omega (arith, less)) c)) (λ above. above) (cases_lt m (n + 1));
  least_one = λ d b c. first.least_one d b (meeting_of r x (n + 1) d b is c);
  least_two = λ d c. first.least_two d (meeting_of r x (n + 1) e d is c);
}

pub found_clash : (g : Graph) (r : Round) (x n e f length : ℕ) → r.graph ≡ g → IsLength g x length → IsRound r x (n + 1) → NoneUpTo g x n → AreFirstMeeting r e f
    → HasLength g x × IsFirstClash g x (record { start = x; round = n + 1; one = e; two = f })
found_clash g r x n e f length same long is before first = (
  (length, long),
  subst (λ z. IsFirstClash z x (record { start = x; round = n + 1; one = e; two = f })) same
      (first_clash_is r x n e f is (subst (λ z. NoneUpTo z x n) (sym same) before) first),
)

-- An event that has a length is not endless.

longer_joined : (ds bs : List ℕ) → length bs ≤ length (ds ++ bs)
longer_joined [] bs = omega arith
longer_joined (a ∷ ds) bs = let rest = longer_joined ds bs in omega (arith, rest)

-- ways back that are put together are as long as one likes
pump : (g : Graph) (e : ℕ) → LeadsOn g e e → (n : ℕ) → (es : List ℕ) × (linked g (e ∷ es) ≡ true) × (n ≤ length es)
pump g e on zero = ([], refl, omega arith)
pump g e (es, so, ends) (suc n) =
    let rest = pump g e (es, so, ends) n in
    (es ++ rest.0, linked_join g e e es rest.0 so ends rest.1, longer es ends rest.0 rest.2)
  where
    longer : (fs : List ℕ) → ends_with e fs ≡ true → (gs : List ℕ) → n ≤ length gs → suc n ≤ length (fs ++ gs)
    longer [] h gs l = absurd (true≢false (sym h))
    longer (f ∷ fs) h gs l = let more = longer_joined fs gs in omega (arith, l, more)

pub not_both : (g : Graph) (x : ℕ) → HasLength g x → Endless g x → ⊥
not_both g x (n, is) (es, e, chain, twice) =
    let from = goes_from g x es chain in
    let two = twice_stands g x e from.rest from.so (subst (λ xs. 2 ≤ times_in xs e) from.is twice) in
    let round = pump g e two.1 n in
    elim two.0 [
      | inl same ↦ let most = is.most (x ∷ round.0) (chain_of g x round.0 (ap (λ z. linked g (z ∷ round.0)) same ∙ round.1)) in let long = round.2 in absurd (omega (arith, most, long))
      | inr on ↦
          let most = is.most (x ∷ (on.0 ++ round.0)) (chain_of g x (on.0 ++ round.0) (linked_join g x e on.0 round.0 on.1 on.2 round.1)) in
          let long = round.2 in
          let sum = longer_joined on.0 round.0 in
          absurd (omega (arith, most, long, sum))
    ]

pub endless_none : (g : Graph) (x : ℕ) (answer : Option ℕ) → IsLengthAnswer g x answer → Endless g x → answer ≡ None
endless_none g x None is endless = refl
endless_none g x (Some n) is endless = absurd (not_both g x (n, is) endless)

-- Events that a start reaches.

-- what ends a chain from an event is the event, or the event leads on to it
pub ends_reached : (g : Graph) (x n e : ℕ) → Ends g x n e → (x ≡ e) ⊎ LeadsOn g x e
ends_reached g x n e (es, chain, long, ends) =
    let from = goes_from g x es chain in
    by_rest from.rest from.so (ap (ends_with e) (sym from.is) ∙ ends)
  where
    by_rest : (rest : List ℕ) → linked g (x ∷ rest) ≡ true → ends_with e (x ∷ rest) ≡ true → (x ≡ e) ⊎ LeadsOn g x e
    by_rest [] so k = inl (sym (eqb-true e x k))
    by_rest (f ∷ rest) so k = inr (f ∷ rest, so, k)

-- where no two events that a start reaches meet, it has no clash
pub none_reached : (g : Graph) (r : Round) (x : ℕ) → r.graph ≡ g → has r.ends x ≡ true → ((q : ℕ) → LeadsOn g x q → has r.ends q ≡ true) → ((e f : ℕ) → AreMeeting r e f → ⊥)
    → (n e f : ℕ) → IsClash g x n e f → ⊥
none_reached g r x same first all free n e f c =
    free e f (record { one = in_set e c.one; two = in_set f c.two; differ = c.differ; together = ap (λ z. meets z e f) same ∙ c.together })
  where
    in_set : (q : ℕ) → Ends g x n q → has r.ends q ≡ true
    in_set q h = ⊎_elim (λ e. ap (has r.ends) (sym e) ∙ first) (λ l. all q l) (ends_reached g x n q h)

-- an event that another leads on to is an event of the graph
pub on_below : (g : Graph) → IsGraph g → (a b : ℕ) (es : List ℕ) → linked g (a ∷ es) ≡ true → ends_with b es ≡ true → b < g.count
on_below g is a b [] h k = absurd (true≢false (sym k))
on_below g is a b (e ∷ []) h k = subst (λ z. z < g.count) (sym (eqb-true b e k)) (leads_below g is a e (first_so (leads g a e) true h))
on_below g is a b (e ∷ f ∷ es) h k = on_below g is e b (f ∷ es) (second_so (leads g a e) (linked g (e ∷ f ∷ es)) h) k

-- the set of an event is of events of the graph
pub set_below : (g : Graph) → IsGraph g → (sets : List Events) → AreReached g sets → (x q : ℕ) → has_at sets x q ≡ true → q < g.count
set_below g is sets r x q h = let on = r.only x q h in on_below g is x q on.0 on.1 on.2

-- what ends a chain from an event of the graph is an event of the graph
pub ends_below : (g : Graph) → IsGraph g → (x n e : ℕ) → x < g.count → Ends g x n e → e < g.count
ends_below g is x n e l h = ⊎_elim (λ q. subst (λ z. z < g.count) q l) (λ on. on_below g is x e on.0 on.1 on.2) (ends_reached g x n e h)
