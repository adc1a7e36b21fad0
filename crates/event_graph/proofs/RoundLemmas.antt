-- Chains with one event more or less at their end.
use Rattle.std.proofs.Common.{◌≡◌, ℕ, zero, suc, ◌+◌, ◌≤◌, ◌==◌, true, List, [], ◌∷◌, ◌++◌, length, refl, sym, ap, subst, ◌∙◌, arith, true≢false, IsTrue, ◌↔◌}
use Rattle.std.specs.Cmp.{nat_eq_equiv, first_so, second_so}
use Rattle.std.proofs.lemmas.Bool.{eqb-true}
use Rattle.event_graph.specs.declared.events.Events.{Events}
use Rattle.event_graph.specs.Sets.{has}
use Rattle.event_graph.specs.Graphs.{Graph, leads}
use Rattle.event_graph.specs.Chains.{linked, begins_with, ends_with, Ends}
use Rattle.event_graph.specs.Rounds.{Round, IsRound}
use Rattle.event_graph.proofs.LengthLemmas.{and_so, chain_of}
use Rattle.event_graph.proofs.ReachLemmas.{ends_join}

linked_more : (g : Graph) (e f : ℕ) (es : List ℕ) → linked g es ≡ true → ends_with e es ≡ true → leads g e f ≡ true → linked g (es ++ f ∷ []) ≡ true
linked_more g e f [] h k l = absurd (true≢false (sym k))
linked_more g e f (a ∷ []) h k l = and_so (leads g a f) true (ap (λ z. leads g z f) (sym (eqb-true e a k)) ∙ l) refl
linked_more g e f (a ∷ b ∷ es) h k l = and_so (leads g a b) (linked g (b ∷ (es ++ f ∷ []))) (first_so (leads g a b) (linked g (b ∷ es)) h) (linked_more g e f (b ∷ es) (second_so (leads g a b) (linked g (b ∷ es)) h) k l)

begins_more : (x f : ℕ) (es : List ℕ) → begins_with x es ≡ true → begins_with x (es ++ f ∷ []) ≡ true
begins_more x f [] h = absurd (true≢false (sym h))
begins_more x f (e ∷ es) h = h

length_more : (f : ℕ) (es : List ℕ) → length (es ++ f ∷ []) ≡ suc (length es)
length_more f [] = refl
length_more f (e ∷ es) = ap suc (length_more f es)

ends_more : (g : Graph) (x n e f : ℕ) → Ends g x n e → leads g e f ≡ true → Ends g x (suc n) f
ends_more g x n e f (es, chain, long, ends) h = (
  es ++ f ∷ [],
  and_so (linked g (es ++ f ∷ [])) (begins_with x (es ++ f ∷ [])) (linked_more g e f es (first_so (linked g es) (begins_with x es) chain) ends h) (begins_more x f es (second_so (linked g es) (begins_with x es) chain)),
  length_more f es ∙ ap suc long,
  ends_join f es (f ∷ []) (nat_eq_equiv.refl f),
)

-- A chain without its last event.
record Shorter (g : Graph) (es : List ℕ) (f : ℕ) : Type 0 where
  front : List ℕ
  last : ℕ
  so : linked g front ≡ true
  ended : ends_with last front ≡ true
  led : leads g last f ≡ true
  first : (x : ℕ) → begins_with x es ≡ true → begins_with x front ≡ true
  long : length es ≡ suc (length front)

linked_first : (g : Graph) (a b : ℕ) (fs : List ℕ) → leads g a b ≡ true → begins_with b fs ≡ true → linked g fs ≡ true → linked g (a ∷ fs) ≡ true
linked_first g a b [] h k l = refl
linked_first g a b (f ∷ fs) h k l = and_so (leads g a f) (linked g (f ∷ fs)) (ap (leads g a) (sym (eqb-true b f k)) ∙ h) l

ends_first : (e a : ℕ) (fs : List ℕ) → ends_with e fs ≡ true → ends_with e (a ∷ fs) ≡ true
ends_first e a [] h = absurd (true≢false (sym h))
ends_first e a (f ∷ fs) h = h

shorter : (g : Graph) (f a b : ℕ) (es : List ℕ) → linked g (a ∷ b ∷ es) ≡ true → ends_with f (a ∷ b ∷ es) ≡ true → Shorter g (a ∷ b ∷ es) f
shorter g f a b [] h k = record {
  front = a ∷ [];
  last = a;
  so = refl;
  ended = nat_eq_equiv.refl a;
  led = ap (leads g a) (eqb-true f b k) ∙ first_so (leads g a b) true h;
  first = λ x l. l;
  long = refl;
}
shorter g f a b (c ∷ es) h k =
    let rest = shorter g f b c es (second_so (leads g a b) (linked g (b ∷ c ∷ es)) h) k in
    record {
      front = a ∷ rest.front;
      last = rest.last;
      so = linked_first g a b rest.front (first_so (leads g a b) (linked g (b ∷ c ∷ es)) h) (rest.first b (nat_eq_equiv.refl b)) rest.so;
      ended = ends_first rest.last a rest.front rest.ended;
      led = rest.led;
      first = λ x l. l;
      long = ap suc rest.long;
    }

pub ends_less : (g : Graph) (x n f : ℕ) → Ends g x (suc (suc n)) f → (e : ℕ) × Ends g x (suc n) e × (leads g e f ≡ true)
ends_less g x n f ([], chain, long, ends) = absurd (true≢false (sym ends))
ends_less g x n f (a ∷ [], chain, long, ends) = absurd (omega (arith, long))
ends_less g x n f (a ∷ b ∷ es, chain, long, ends) =
    let s = shorter g f a b es (first_so (linked g (a ∷ b ∷ es)) (begins_with x (a ∷ b ∷ es)) chain) ends in
    let more = s.long in (
      s.last,
      (s.front, and_so (linked g s.front) (begins_with x s.front) s.so (s.first x (second_so (linked g (a ∷ b ∷ es)) (begins_with x (a ∷ b ∷ es)) chain)), omega (arith, more, long), s.ended),
      s.led,
    )

pub first_round_is : (r : Round) (x : ℕ) → ((e : ℕ) → has r.ends e ≡ (x == e)) → IsRound r x 1
first_round_is r x is e = (λ h. let same = eqb-true x e (sym (is e) ∙ h) in subst (Ends r.graph x 1) same (x ∷ [], chain_of r.graph x [] refl, refl, nat_eq_equiv.refl x), λ h. is e ∙ back h)
  where
    back : Ends r.graph x 1 e → (x == e) ≡ true
    back ([], chain, long, ends) = absurd (true≢false (sym ends))
    back (a ∷ [], chain, long, ends) =
        let begin = eqb-true x a (second_so (linked r.graph (a ∷ [])) (x == a) chain) in
        ap (λ z. x == z) (eqb-true e a ends ∙ sym begin) ∙ nat_eq_equiv.refl x
    back (a ∷ b ∷ es, chain, long, ends) = absurd (omega (arith, long))

pub next_round_is : (g : Graph) (old new : Events) (x n : ℕ) → 1 ≤ n
    → ((f : ℕ) → has new f ≡ true → (e : ℕ) × (has old e ≡ true) × (leads g e f ≡ true))
    → ((e f : ℕ) → has old e ≡ true → leads g e f ≡ true → has new f ≡ true)
    → IsRound (record { graph = g; ends = old }) x n → IsRound (record { graph = g; ends = new }) x (n + 1)
next_round_is g old new x zero l some all is f = absurd (omega (arith, l))
next_round_is g old new x (suc n) l some all is f =
    let next : suc (suc n) ≡ suc n + 1 = omega arith in
    subst (λ m. IsTrue (has new f) ↔ Ends g x m f) next (
      λ h. let p = some f h in ends_more g x (suc n) p.0 f ((is p.0).0 p.1) p.2,
      λ h. let p = ends_less g x n f h in all p.0 f ((is p.0).1 p.1) p.2,
    )
