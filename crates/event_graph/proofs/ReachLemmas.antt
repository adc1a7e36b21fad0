-- Chains that are joined, and events that stand in a chain twice.
use Rattle.std.proofs.Common.{◌≡◌, ℕ, zero, suc, ◌+◌, ◌<◌, ◌≤◌, ◌==◌, ◌&&◌, ◌||◌, Bool, true, false, cond, List, [], ◌∷◌, ◌++◌, length, filter, refl, sym, ap, subst, ◌∙◌, ⊎_elim, inl, inr, ◌⊎◌, arith, true≢false}
use Rattle.std.specs.List.{range_with_len}
use Rattle.std.specs.Cmp.{nat_eq_equiv, first_so, second_so}
use Rattle.std.proofs.lemmas.Bool.{eqb-true, ne_eqb, cases_eq, cases_lt}
use Rattle.event_graph.specs.declared.events.Events.{Events}
use Rattle.event_graph.specs.Sets.{has, has_at}
use Rattle.event_graph.specs.Graphs.{Graph, leads, starts, IsGraph}
use Rattle.event_graph.specs.Chains.{linked, ends_with, IsChainFrom, times_in, IsTwiceIn, Loops}
use Rattle.event_graph.specs.Reached.{LeadsOn, AreReached, AreReachedThrough, IsBegun, AreLoops}
use Rattle.event_graph.proofs.RowLemmas.{none_above}
use Rattle.event_graph.proofs.LengthLemmas.{and_so, chain_of, goes_from, leads_below}

-- Chains that are joined.

pub linked_join : (g : Graph) (a m : ℕ) (es fs : List ℕ) → linked g (a ∷ es) ≡ true → ends_with m es ≡ true → linked g (m ∷ fs) ≡ true → linked g (a ∷ (es ++ fs)) ≡ true
linked_join g a m [] fs h k l = absurd (true≢false (sym k))
linked_join g a m (e ∷ []) fs h k l = and_so (leads g a e) (linked g (e ∷ fs)) (first_so (leads g a e) true h) (ap (λ z. linked g (z ∷ fs)) (sym (eqb-true m e k)) ∙ l)
linked_join g a m (e ∷ f ∷ es) fs h k l =
    and_so (leads g a e) (linked g (e ∷ f ∷ (es ++ fs))) (first_so (leads g a e) (linked g (e ∷ f ∷ es)) h)
    (linked_join g e m (f ∷ es) fs (second_so (leads g a e) (linked g (e ∷ f ∷ es)) h) k l)

pub ends_join : (b : ℕ) (es fs : List ℕ) → ends_with b fs ≡ true → ends_with b (es ++ fs) ≡ true
ends_join b es [] h = absurd (true≢false (sym h))
ends_join b [] (f ∷ fs) h = h
ends_join b (e ∷ []) (f ∷ fs) h = h
ends_join b (e ∷ e' ∷ es) (f ∷ fs) h = ends_join b (e' ∷ es) (f ∷ fs) h

pub on_and_on : (g : Graph) (a m b : ℕ) → LeadsOn g a m → LeadsOn g m b → LeadsOn g a b
on_and_on g a m b p q = (p.0 ++ q.0, linked_join g a m p.0 q.0 p.1 p.2 q.1, ends_join b p.0 q.0 q.2)

pub one_step : (g : Graph) (a b : ℕ) → leads g a b ≡ true → LeadsOn g a b
one_step g a b h = (b ∷ [], and_so (leads g a b) true h refl, nat_eq_equiv.refl b)

-- One middle more.

or_left : (a b : Bool) → a ≡ true → (a || b) ≡ true
or_left a b h = ap (λ c. c || b) h

or_right : (a b : Bool) → b ≡ true → (a || b) ≡ true
or_right true b h = refl
or_right false b h = h

pub either_so : (a b : Bool) → (a || b) ≡ true → (a ≡ true) ⊎ (b ≡ true)
either_so true b h = inl refl
either_so false b h = inr h

module _ (g : Graph) (n : ℕ) (sets more : List Events) (reached : AreReachedThrough g n sets)
    (long : length more ≡ length sets)
    (is : (a b : ℕ) → has_at more a b ≡ (has_at sets a b || (has_at sets a n && has_at sets n b)))
  where
    abbrev Goes : ℕ → ℕ → Type 0
    Goes a b = has_at sets a b ≡ true

    cases : (a b : ℕ) → has_at more a b ≡ true → Goes a b ⊎ (Goes a n × Goes n b)
    cases a b h = elim (either_so (has_at sets a b) (has_at sets a n && has_at sets n b) (sym (is a b) ∙ h)) [
      | inl old ↦ inl old
      | inr two ↦ inr (first_so (has_at sets a n) (has_at sets n b) two, second_so (has_at sets a n) (has_at sets n b) two)
    ]

    old : (a b : ℕ) → Goes a b → has_at more a b ≡ true
    old a b h = is a b ∙ or_left (has_at sets a b) (has_at sets a n && has_at sets n b) h

    by_middle : (a b : ℕ) → Goes a n → Goes n b → has_at more a b ≡ true
    by_middle a b h k = is a b ∙ or_right (has_at sets a b) (has_at sets a n && has_at sets n b) (and_so (has_at sets a n) (has_at sets n b) h k)

    to_middle : (a : ℕ) → has_at more a n ≡ true → Goes a n
    to_middle a h = elim (cases a n h) [ inl o ↦ o | inr two ↦ two.0 ]

    from_middle : (b : ℕ) → has_at more n b ≡ true → Goes n b
    from_middle b h = elim (cases n b h) [ inl o ↦ o | inr two ↦ two.1 ]

    below : (a m b : ℕ) → m < n → has_at more a m ≡ true → has_at more m b ≡ true → has_at more a b ≡ true
    below a m b l h k = elim (cases a m h) [
      | inl am ↦ elim (cases m b k) [
        | inl mb ↦ old a b (reached.through a m b l am mb)
        | inr mnb ↦ by_middle a b (reached.through a m n l am mnb.0) mnb.1
      ]
      | inr anm ↦ elim (cases m b k) [
        | inl mb ↦ by_middle a b anm.0 (reached.through n m b l anm.1 mb)
        | inr mnb ↦ by_middle a b anm.0 mnb.1
      ]
    ]

    pub one_middle : AreReachedThrough g (suc n) more
    one_middle = record {
      long = long ∙ reached.long;
      only = λ a b h. elim (cases a b h) [ inl o ↦ reached.only a b o | inr two ↦ on_and_on g a n b (reached.only a n two.0) (reached.only n b two.1) ];
      direct = λ a b h. old a b (reached.direct a b h);
      through = λ a m b l h k. ⊎_elim
          (λ less. below a m b less h k)
          (λ above.
          let e : m ≡ n = omega (arith, l, above) in
          by_middle a b (to_middle a (ap (λ i. has_at more a i) (sym e) ∙ h)) (from_middle b (ap (λ i. has_at more i b) (sym e) ∙ k)))
          (cases_lt m n);
    }

pub no_middle : (g : Graph) → IsGraph g → (sets : List Events) → sets ≡ g.ways → AreReachedThrough g 0 sets
no_middle g is sets e = record {
  long = ap length e ∙ is.rows.long;
  only = λ a b h. one_step g a b (ap (λ xs. has_at xs a b) (sym e) ∙ h);
  direct = λ a b h. ap (λ xs. has_at xs a b) e ∙ h;
  through = λ a m b l h k. absurd (omega (arith, l));
}

pub all_middles : (g : Graph) → IsGraph g → (sets : List Events) → AreReachedThrough g g.count sets → AreReached g sets
all_middles g is sets r = record { long = r.long; only = r.only; all = λ a b p. along a b p.0 p.1 p.2 }
  where
    along : (a b : ℕ) (es : List ℕ) → linked g (a ∷ es) ≡ true → ends_with b es ≡ true → has_at sets a b ≡ true
    along a b [] h k = absurd (true≢false (sym k))
    along a b (e ∷ []) h k = ap (λ z. has_at sets a z) (eqb-true b e k) ∙ r.direct a e (first_so (leads g a e) true h)
    along a b (e ∷ f ∷ es) h k =
        let here = first_so (leads g a e) (linked g (e ∷ f ∷ es)) h in
        r.through a e b (leads_below g is a e here) (r.direct a e here) (along e b (f ∷ es) (second_so (leads g a e) (linked g (e ∷ f ∷ es)) h) k)

-- Events that stand in a chain twice.

stands : (g : Graph) (x e : ℕ) (es : List ℕ) → linked g (x ∷ es) ≡ true → 1 ≤ times_in es e → LeadsOn g x e
stands g x e [] h k = absurd (omega (arith, k))
stands g x e (f ∷ es) h k = by_test (e == f) refl k (stands g f e es (second_so (leads g x f) (linked g (f ∷ es)) h))
  where
    here : leads g x f ≡ true
    here = first_so (leads g x f) (linked g (f ∷ es)) h

    by_test : (b : Bool) → (e == f) ≡ b → 1 ≤ length (cond b (f ∷ filter (λ z. e == z) es) (filter (λ z. e == z) es)) → (1 ≤ times_in es e → LeadsOn g f e) → LeadsOn g x e
    by_test true q l rest = subst (λ z. LeadsOn g x z) (sym (eqb-true e f q)) (one_step g x f here)
    by_test false q l rest = on_and_on g x f e (one_step g x f here) (rest l)

-- the event comes, and comes back
pub twice_stands : (g : Graph) (x e : ℕ) (es : List ℕ) → linked g (x ∷ es) ≡ true → 2 ≤ times_in (x ∷ es) e → ((x ≡ e) ⊎ LeadsOn g x e) × LeadsOn g e e
twice_stands g x e [] h k = absurd (by_test (e == x) k)
  where
    by_test : (b : Bool) → 2 ≤ length (cond b (x ∷ []) []) → ⊥
    by_test true l = omega (arith, l)
    by_test false l = omega (arith, l)
twice_stands g x e (f ∷ es) h k = by_test (e == x) refl k (twice_stands g f e es (second_so (leads g x f) (linked g (f ∷ es)) h))
  where
    here : LeadsOn g x f
    here = one_step g x f (first_so (leads g x f) (linked g (f ∷ es)) h)

    by_test : (b : Bool) → (e == x) ≡ b → 2 ≤ length (cond b (x ∷ filter (λ z. e == z) (f ∷ es)) (filter (λ z. e == z) (f ∷ es)))
        → (2 ≤ times_in (f ∷ es) e → ((f ≡ e) ⊎ LeadsOn g f e) × LeadsOn g e e) → ((x ≡ e) ⊎ LeadsOn g x e) × LeadsOn g e e
    by_test true q l rest = let same = sym (eqb-true e x q) in (inl same, subst (λ z. LeadsOn g z e) same (stands g x e (f ∷ es) h (omega (arith, l))))
    by_test false q l rest =
        let later = rest l in
        (inr (elim later.0 [ inl q ↦ subst (LeadsOn g x) q here | inr on ↦ on_and_on g x f e here on ]), later.1)

times_last : (e : ℕ) (es : List ℕ) → ends_with e es ≡ true → 1 ≤ times_in es e
times_last e [] h = absurd (true≢false (sym h))
times_last e (f ∷ []) h = by_test (e == f) h
  where
    by_test : (b : Bool) → b ≡ true → 1 ≤ length (cond b (f ∷ []) [])
    by_test true q = omega arith
    by_test false q = absurd (true≢false (sym q))
times_last e (f ∷ f' ∷ es) h = more (e == f) (times_last e (f' ∷ es) h)
  where
    more : (b : Bool) → 1 ≤ times_in (f' ∷ es) e → 1 ≤ length (cond b (f ∷ filter (λ z. e == z) (f' ∷ es)) (filter (λ z. e == z) (f' ∷ es)))
    more true l = omega (arith, l)
    more false l = l

times_join : (e : ℕ) (es fs : List ℕ) (m n : ℕ) → m ≤ times_in es e → n ≤ times_in fs e → m + n ≤ times_in (es ++ fs) e
times_join e [] fs m n h k = omega (arith, h, k)
times_join e (f ∷ es) fs m n h k = by_test (e == f) h (λ i l. times_join e es fs i n l k)
  where
    by_test : (b : Bool) → m ≤ length (cond b (f ∷ filter (λ z. e == z) es) (filter (λ z. e == z) es)) → ((i : ℕ) → i ≤ times_in es e → i + n ≤ times_in (es ++ fs) e) →
        m + n ≤ length (cond b (f ∷ filter (λ z. e == z) (es ++ fs)) (filter (λ z. e == z) (es ++ fs)))
    by_test true l rest = let all = rest (times_in es e) (omega arith) in omega (arith, l, all)
    by_test false l rest = rest m l

times_first : (e : ℕ) (es : List ℕ) (n : ℕ) → n ≤ times_in es e → suc n ≤ times_in (e ∷ es) e
times_first e es n h = by_test (e == e) (nat_eq_equiv.refl e)
  where
    by_test : (b : Bool) → b ≡ true → suc n ≤ length (cond b (e ∷ filter (λ z. e == z) es) (filter (λ z. e == z) es))
    by_test true q = omega (arith, h)
    by_test false q = absurd (true≢false (sym q))

times_more : (e x : ℕ) (es : List ℕ) (n : ℕ) → n ≤ times_in es e → n ≤ times_in (x ∷ es) e
times_more e x es n h = by_test (e == x)
  where
    by_test : (b : Bool) → n ≤ length (cond b (x ∷ filter (λ z. e == z) es) (filter (λ z. e == z) es))
    by_test true = omega (arith, h)
    by_test false = h

-- Loops.

pub loop_is : (g : Graph) (sets : List Events) → AreReached g sets → (e : ℕ) → IsBegun g sets e → has_at sets e e ≡ true → Loops g e
loop_is g sets r e (x, start, inl same) h =
    let back = r.only e e h in
    (x, start, (e ∷ back.0, subst (λ z. IsChainFrom g z (e ∷ back.0)) (sym same) (chain_of g e back.0 back.1), times_first e back.0 1 (times_last e back.0 back.2)))
loop_is g sets r e (x, start, inr on) h =
    let to = r.only x e on in
    let back = r.only e e h in (
      x,
      start,
      (
        x ∷ (to.0 ++ back.0),
        chain_of g x (to.0 ++ back.0) (linked_join g x e to.0 back.0 to.1 to.2 back.1),
        times_more e x (to.0 ++ back.0) 2 (times_join e to.0 back.0 1 1 (times_last e to.0 to.2) (times_last e back.0 back.2)),
      ),
    )

pub is_loop : (g : Graph) (sets : List Events) → AreReached g sets → (e : ℕ) → Loops g e → IsBegun g sets e × (has_at sets e e ≡ true)
is_loop g sets r e loops =
    let x = loops.0 in
    let chain = loops.2 in
    let from = goes_from g x chain.0 chain.1 in
    let two = twice_stands g x e from.rest from.so (subst (λ es. IsTwiceIn es e) from.is chain.2) in
    ((x, loops.1, elim two.0 [ inl same ↦ inl same | inr on ↦ inr (r.all x e on) ]), r.all e e two.1)

-- Code.

-- the sets of the events below this one have been joined
pub join_turn : (old now next : List Events) (onward : Events) (m event : ℕ) → ((b : ℕ) → has onward b ≡ has_at old m b)
    → ((a b : ℕ) → has_at next a b ≡ (has_at now a b || (event == a && (has_at now event m && has onward b))))
    → ((a b : ℕ) → a < event → has_at now a b ≡ (has_at old a b || (has_at old a m && has_at old m b)))
    → ((a b : ℕ) → event ≤ a → has_at now a b ≡ has_at old a b)
    → ((a b : ℕ) → a < suc event → has_at next a b ≡ (has_at old a b || (has_at old a m && has_at old m b)))
    × ((a b : ℕ) → suc event ≤ a → has_at next a b ≡ has_at old a b)
join_turn old now next onward m event row is below above = (λ a b l. ⊎_elim (same a b) (less a b l) (cases_eq event a), λ a b l. other a b (omega (arith, l)) ∙ above a b (omega (arith, l)))
  where
    nothing_more : (x : Bool) (p q : Bool) → p ≡ false → (x || (p && q)) ≡ x
    nothing_more true p q e = refl
    nothing_more false p q e = ap (λ o. o && q) e

    other : (a b : ℕ) → (event ≡ a → ⊥) → has_at next a b ≡ has_at now a b
    other a b ne = is a b ∙ nothing_more (has_at now a b) (event == a) (has_at now event m && has onward b) (ne_eqb event a ne)

    less : (a b : ℕ) → a < suc event → (event ≡ a → ⊥) → has_at next a b ≡ (has_at old a b || (has_at old a m && has_at old m b))
    less a b l ne = other a b ne ∙ below a b (omega (arith, l, ne))

    same : (a b : ℕ) → event ≡ a → has_at next a b ≡ (has_at old a b || (has_at old a m && has_at old m b))
    same a b e =
        is a b
        ∙ (λ j. above a b (omega (arith, e)) j || ((ap (λ z. event == z) (sym e) ∙ nat_eq_equiv.refl event) j && ((ap (λ z. has_at now z m) e ∙ above a m (omega (arith, e))) j && row b j)))

-- the starts below this one have been joined
pub begun_turn : (g : Graph) (sets : List Events) (begun next : Events) (start : ℕ)
    → ((e : ℕ) → has next e ≡ (has begun e || (starts g start && has_at sets start e)))
    → ((e : ℕ) → has begun e ≡ true → IsBegun g sets e)
    → ((e : ℕ) → starts g e ≡ true → has begun e ≡ true)
    → ((x e : ℕ) → x < start → starts g x ≡ true → has_at sets x e ≡ true → has begun e ≡ true)
    → ((e : ℕ) → has next e ≡ true → IsBegun g sets e)
    × ((e : ℕ) → starts g e ≡ true → has next e ≡ true)
    × ((x e : ℕ) → x < suc start → starts g x ≡ true → has_at sets x e ≡ true → has next e ≡ true)
begun_turn g sets begun next start is only own led = (
  λ e h. elim (either_so (has begun e) (starts g start && has_at sets start e) (sym (is e) ∙ h)) [
    | inl before ↦ only e before
    | inr more ↦ (start, first_so (starts g start) (has_at sets start e) more, inr (second_so (starts g start) (has_at sets start e) more))
  ],
  λ e h. is e ∙ or_left (has begun e) (starts g start && has_at sets start e) (own e h),
  λ x e l h k. ⊎_elim
      (λ same. is e ∙ or_right (has begun e) (starts g start && has_at sets start e) (and_so (starts g start) (has_at sets start e) (ap (starts g) (sym same) ∙ h) (ap (λ z. has_at sets z e) (sym same) ∙ k)))
      (λ other. is e ∙ or_left (has begun e) (starts g start && has_at sets start e) (led x e (omega (arith, l, other)) h k))
      (cases_eq x start),
)

pub join_end : (old now : List Events) (m event : ℕ) → length old ≤ event → length now ≡ length old
    → ((a b : ℕ) → a < event → has_at now a b ≡ (has_at old a b || (has_at old a m && has_at old m b)))
    → (a b : ℕ) → has_at now a b ≡ (has_at old a b || (has_at old a m && has_at old m b))
join_end old now m event all long below a b = ⊎_elim (λ l. below a b l) above (cases_lt a event)
  where
    above : event ≤ a → has_at now a b ≡ (has_at old a b || (has_at old a m && has_at old m b))
    above l =
        let past : length old ≤ a = omega (arith, all, l) in
        none_above now a b (omega (arith, past, long))
        ∙ sym (λ j. none_above old a b past j || (none_above old a m past j && has_at old m b))

pub begun_end : (g : Graph) → IsGraph g → (sets : List Events) (begun : Events) (start : ℕ) → g.count ≤ start
    → ((e : ℕ) → starts g e ≡ true → has begun e ≡ true)
    → ((x e : ℕ) → x < start → starts g x ≡ true → has_at sets x e ≡ true → has begun e ≡ true)
    → (e : ℕ) → IsBegun g sets e → has begun e ≡ true
begun_end g is sets begun start all own led e (x, h, inl same) = ap (has begun) (sym same) ∙ own x h
begun_end g is sets begun start all own led e (x, h, inr on) = let l = is.begin x h in led x e (omega (arith, l, all)) h on

-- one event more is looked at
pub filter_more : (p : ℕ → Bool) (a n : ℕ) → filter p (range_with_len a (suc n)) ≡ filter p (range_with_len a n) ++ cond (p (a + n)) ((a + n) ∷ []) []
filter_more p a zero = let e : a ≡ a + 0 = omega arith in let f : ℕ → List ℕ = λ m. cond (p m) (m ∷ []) [] in ap f e
filter_more p a (suc n) = by_test (p a) (filter_more p (a + 1) n)
  where
    e : a + 1 + n ≡ a + suc n
    e = omega arith

    by_test : (b : Bool) → filter p (range_with_len (a + 1) (suc n)) ≡ filter p (range_with_len (a + 1) n) ++ cond (p (a + 1 + n)) ((a + 1 + n) ∷ []) []
        → cond b (a ∷ filter p (range_with_len (a + 1) (suc n))) (filter p (range_with_len (a + 1) (suc n)))
        ≡ cond b (a ∷ filter p (range_with_len (a + 1) n)) (filter p (range_with_len (a + 1) n)) ++ cond (p (a + suc n)) ((a + suc n) ∷ []) []
    by_test true h = ap (λ xs. a ∷ xs) (h ∙ ap (λ m. filter p (range_with_len (a + 1) n) ++ cond (p m) (m ∷ []) []) e)
    by_test false h = h ∙ ap (λ m. filter p (range_with_len (a + 1) n) ++ cond (p m) (m ∷ []) []) e

pub filter_next : (p : ℕ → Bool) (n : ℕ) → filter p (range_with_len 0 (n + 1)) ≡ filter p (range_with_len 0 n) ++ cond (p n) (n ∷ []) []
filter_next p n =
    let e : n + 1 ≡ suc n = omega arith in
    let z : 0 + n ≡ n = omega arith in
    ap (λ m. filter p (range_with_len 0 m)) e ∙ filter_more p 0 n ∙ ap (λ m. filter p (range_with_len 0 n) ++ cond (p m) (m ∷ []) []) z

pub loops_are : (g : Graph) (sets : List Events) (begun : Events) (loops : List ℕ) → AreReached g sets
    → ((e : ℕ) → has begun e ≡ true → IsBegun g sets e) → ((e : ℕ) → IsBegun g sets e → has begun e ≡ true)
    → loops ≡ filter (λ e. has begun e && has_at sets e e) (range_with_len 0 g.count) → AreLoops g loops
loops_are g sets begun loops r only all are = record {
  looping = λ e. has begun e && has_at sets e e;
  right = λ e. (
    λ h. loop_is g sets r e (only e (first_so (has begun e) (has_at sets e e) h)) (second_so (has begun e) (has_at sets e e) h),
    λ l. let p = is_loop g sets r e l in and_so (has begun e) (has_at sets e e) (all e p.0) p.1,
  );
  are = are;
}
