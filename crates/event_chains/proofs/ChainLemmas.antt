-- Chains of events and chains of their numbers.
use Rattle.std.proofs.Common.{◌≡◌, ℕ, suc, ◌<◌, ◌≤◌, ◌==◌, Bool, true, false, not, cond, ◌&&◌, List, [], ◌∷◌, length, filter, Option, Some, None, slice_get, refl, sym, ap, ◌∙◌, subst, true≢false, arith}
use Rattle.std.specs.List.{AllZip}
use Rattle.std.specs.Cmp.{nat_eq_equiv, first_so, second_so}
use Rattle.std.proofs.lemmas.Bool.{eqb-true}
use Rattle.rsml_syntax.specs.declared.syntax.Spec.{Spec}
use Rattle.rsml_syntax.specs.limits.Checked.{IsChecked}
use Rattle.rsml_meaning.specs.Words.{Instance, Each, same_instance}
use Rattle.rsml_meaning.specs.Instances.{events}
use Rattle.rsml_meaning.specs.Chains.{is_external, leads, linked, is_chain, begins_with, ends_with, IsChainFrom, IsLength, Ends, Loops, Clash}
use Rattle.rsml_meaning.specs.Report.{IsLengthAnswer}
use Rattle.rsml_meaning.proofs.Same.{instance_same, instance_itself}
use Rattle.rsml_meaning.proofs.Lists.{both}
use Rattle.state_tree.proofs.Lists.{get_within, within_get, as_long}
use Rattle.ground_members.specs.Members.{IsEvent}
use Rattle.event_graph.specs.Graphs.{Graph, starts}
use Rattle.event_graph.specs.Graphs as graph
use Rattle.event_graph.specs.Chains as by_number
use Rattle.event_graph.proofs.LengthLemmas.{goes_from, leads_below}
use Rattle.event_chains.specs.Draws.{Draws}
use Rattle.event_chains.proofs.Numbers.{same_event, event_there, raised_event, external_event}

module _ (s : Spec) (g : Graph) (checked : IsChecked s) (d : Draws s g) where
  -- the numbers are those of the events
  abbrev AreNamed : List Instance → List ℕ → Type 0
  AreNamed es ns = AllZip (IsEvent s) es ns

  linked_is : (es : List Instance) (ns : List ℕ) → AreNamed es ns → by_number.linked g ns ≡ linked s es
  linked_is [] [] h = refl
  linked_is [] (a ∷ ns) h = absurd h
  linked_is (e ∷ es) [] h = absurd h
  linked_is (e ∷ []) (a ∷ []) h = refl
  linked_is (e ∷ []) (a ∷ b ∷ ns) h = absurd h.1
  linked_is (e ∷ f ∷ es) (a ∷ []) h = absurd h.1
  linked_is (e ∷ f ∷ es) (a ∷ b ∷ ns) h = λ i. d.ways_are a b e f h.0 h.1.0 i && linked_is (f ∷ es) (b ∷ ns) h.1 i

  begins_is : (a : ℕ) (x : Instance) → IsEvent s x a → (es : List Instance) (ns : List ℕ) → AreNamed es ns → by_number.begins_with a ns ≡ begins_with x es
  begins_is a x k [] [] h = refl
  begins_is a x k [] (b ∷ ns) h = absurd h
  begins_is a x k (e ∷ es) [] h = absurd h
  begins_is a x k (e ∷ es) (b ∷ ns) h = same_event s checked a b x e k h.0

  ends_is : (a : ℕ) (x : Instance) → IsEvent s x a → (es : List Instance) (ns : List ℕ) → AreNamed es ns → by_number.ends_with a ns ≡ ends_with x es
  ends_is a x k [] [] h = refl
  ends_is a x k [] (b ∷ ns) h = absurd h
  ends_is a x k (e ∷ es) [] h = absurd h
  ends_is a x k (e ∷ []) (b ∷ []) h = same_event s checked a b x e k h.0
  ends_is a x k (e ∷ []) (b ∷ c ∷ ns) h = absurd h.1
  ends_is a x k (e ∷ f ∷ es) (b ∷ []) h = absurd h.1
  ends_is a x k (e ∷ f ∷ es) (b ∷ c ∷ ns) h = ends_is a x k (f ∷ es) (c ∷ ns) h.1

  times_is : (a : ℕ) (x : Instance) → IsEvent s x a → (es : List Instance) (ns : List ℕ) → AreNamed es ns → by_number.times_in ns a ≡ length (filter (same_instance x) es)
  times_is a x k [] [] h = refl
  times_is a x k [] (b ∷ ns) h = absurd h
  times_is a x k (e ∷ es) [] h = absurd h
  times_is a x k (e ∷ es) (b ∷ ns) h = by_tests (a == b) (same_instance x e) (same_event s checked a b x e k h.0) (times_is a x k es ns h.1)
    where
      by_tests : (p q : Bool) → p ≡ q → by_number.times_in ns a ≡ length (filter (same_instance x) es)
          → length (cond p (b ∷ filter (λ f. a == f) ns) (filter (λ f. a == f) ns)) ≡ length (cond q (e ∷ filter (same_instance x) es) (filter (same_instance x) es))
      by_tests true true t l = ap suc l
      by_tests true false t l = absurd (true≢false t)
      by_tests false true t l = absurd (true≢false (sym t))
      by_tests false false t l = l

  -- an event that stands in a chain of numbers is an event
  stands : (a : ℕ) (es : List Instance) (ns : List ℕ) → AreNamed es ns → 1 ≤ by_number.times_in ns a → (e : Instance) × IsEvent s e a
  stands a [] [] h l = absurd (omega (arith, l))
  stands a [] (b ∷ ns) h l = absurd h
  stands a (e ∷ es) [] h l = absurd h
  stands a (e ∷ es) (b ∷ ns) h l = by_test (a == b) refl l (stands a es ns h.1)
    where
      by_test : (p : Bool) → (a == b) ≡ p → 1 ≤ length (cond p (b ∷ filter (λ f. a == f) ns) (filter (λ f. a == f) ns)) → (1 ≤ by_number.times_in ns a → (e : Instance) × IsEvent s e a) → (e : Instance) × IsEvent s e a
      by_test true q m rest = (e, ap (slice_get (events s)) (eqb-true a b q) ∙ h.0)
      by_test false q m rest = rest m

  -- a chain of numbers has events alone
  chain_below : (a : ℕ) (ns : List ℕ) → a < g.count → by_number.linked g (a ∷ ns) ≡ true → Each (λ n. n < g.count) ns
  chain_below a [] l h = tt
  chain_below a (b ∷ ns) l h =
      let here = leads_below g d.of_events a b (first_so (graph.leads g a b) (by_number.linked g (b ∷ ns)) h) in
      (here, chain_below b ns here (second_so (graph.leads g a b) (by_number.linked g (b ∷ ns)) h))

  names_of : (ns : List ℕ) → Each (λ n. n < g.count) ns → (es : List Instance) × AreNamed es ns
  names_of [] h = ([], tt)
  names_of (n ∷ ns) h =
      let e = within_get (events s) n (let l = h.0 in omega (arith, l, d.counted)) in
      let r = names_of ns h.1 in
      (e.0 ∷ r.0, (e.1, r.1))

  numbers_of : (e : Instance) (k : ℕ) (es : List Instance) → IsEvent s e k → linked s (e ∷ es) ≡ true → (ns : List ℕ) × AreNamed es ns
  numbers_of e k [] i h = ([], tt)
  numbers_of e k (f ∷ es) i h =
      let n = event_there s f (raised_event s checked e f (first_so (leads s e f) (linked s (f ∷ es)) h)) in
      let r = numbers_of f n.0 es n.1 (second_so (leads s e f) (linked s (f ∷ es)) h) in
      (n.0 ∷ r.0, (n.1, r.1))

  pub event_below : (a : ℕ) (x : Instance) → IsEvent s x a → a < g.count
  event_below a x k = let l = get_within (events s) a x k in omega (arith, l, d.counted)

  -- a chain of numbers is one of events
  chain_named : (a : ℕ) (x : Instance) → IsEvent s x a → is_external s x ≡ true → (ns : List ℕ) → by_number.IsChainFrom g a ns → (es : List Instance) × AreNamed es ns × IsChainFrom s x es
  chain_named a x k external ns chain =
      let from = goes_from g a ns chain in
      let r = names_of from.rest (chain_below a from.rest (event_below a x k) from.so) in
      let are : AreNamed (x ∷ r.0) (a ∷ from.rest) = (k, r.1) in
      let so = sym (linked_is (x ∷ r.0) (a ∷ from.rest) are) ∙ from.so in (
        x ∷ r.0,
        subst (AreNamed (x ∷ r.0)) (sym from.is) are,
        both (is_chain s (x ∷ r.0)) (same_instance x x) (both (is_external s x) (linked s (x ∷ r.0)) external so) (instance_itself x),
      )

  -- a chain of events is one of numbers
  chain_numbered : (a : ℕ) (x : Instance) → IsEvent s x a → (es : List Instance) → IsChainFrom s x es → (ns : List ℕ) × AreNamed es ns × by_number.IsChainFrom g a ns
  chain_numbered a x k [] chain = absurd (true≢false (sym chain))
  chain_numbered a x k (e ∷ es) chain =
      let first = instance_same x e (second_so (is_chain s (e ∷ es)) (same_instance x e) chain) in
      let so = second_so (is_external s e) (linked s (e ∷ es)) (first_so (is_chain s (e ∷ es)) (same_instance x e) chain) in
      let there = subst (λ z. IsEvent s z a) first k in
      let r = numbers_of e a es there so in
      let are : AreNamed (e ∷ es) (a ∷ r.0) = (there, r.1) in
      (a ∷ r.0, are, both (by_number.linked g (a ∷ r.0)) (a == a) (linked_is (e ∷ es) (a ∷ r.0) are ∙ so) (nat_eq_equiv.refl a))

  named_long : (es : List Instance) (ns : List ℕ) → AreNamed es ns → length es ≡ length ns
  named_long = as_long (IsEvent s)

  pub length_agrees : (a : ℕ) (x : Instance) → IsEvent s x a → is_external s x ≡ true → (answer : Option ℕ) → by_number.IsLengthAnswer g a answer → IsLengthAnswer s x answer
  length_agrees a x k external None (ns, b, chain, twice) =
      let c = chain_named a x k external ns chain in
      let e = stands b c.0 ns c.1 (omega (arith, twice)) in
      (c.0, e.0, c.2, subst (λ n. 2 ≤ n) (times_is b e.0 e.1 c.0 ns c.1) twice)
  length_agrees a x k external (Some n) is = record {
    reached = let c = chain_named a x k external is.reached.0 is.reached.1 in (c.0, c.2, named_long c.0 is.reached.0 c.1 ∙ is.reached.2);
    most = λ es chain.
        let c = chain_numbered a x k es chain in
        let most = is.most c.0 c.2 in
        let long = named_long es c.0 c.1 in
        omega (arith, most, long);
  }

  pub length_back : (a : ℕ) (x : Instance) → IsEvent s x a → is_external s x ≡ true → (n : ℕ) → IsLength s x n → by_number.IsLength g a n
  length_back a x k external n is = record {
    reached = let c = chain_numbered a x k is.reached.0 is.reached.1 in (c.0, c.2, sym (named_long is.reached.0 c.0 c.1) ∙ is.reached.2);
    most = λ ns chain.
        let c = chain_named a x k external ns chain in
        let most = is.most c.0 c.2 in
        let long = named_long c.0 ns c.1 in
        omega (arith, most, long);
  }

  pub ends_there : (a b : ℕ) (x e : Instance) → IsEvent s x a → IsEvent s e b → is_external s x ≡ true → (n : ℕ) → by_number.Ends g a n b → Ends s x n e
  ends_there a b x e k l external n (ns, chain, long, ends) =
      let c = chain_named a x k external ns chain in
      (c.0, c.2, named_long c.0 ns c.1 ∙ long, sym (ends_is b e l c.0 ns c.1) ∙ ends)

  pub ends_back : (a b : ℕ) (x e : Instance) → IsEvent s x a → IsEvent s e b → (n : ℕ) → Ends s x n e → by_number.Ends g a n b
  ends_back a b x e k l n (es, chain, long, ends) =
      let c = chain_numbered a x k es chain in
      (c.0, c.2, sym (named_long es c.0 c.1) ∙ long, ends_is b e l es c.0 c.1 ∙ ends)

  pub clash_there : (a b c : ℕ) (x e f : Instance) → IsEvent s x a → IsEvent s e b → IsEvent s f c → is_external s x ≡ true → (n : ℕ) → by_number.IsClash g a n b c → Clash s x n e f
  clash_there a b c x e f k l m external n is = record {
    differ = ap not (sym (same_event s checked b c e f l m)) ∙ is.differ;
    one = ends_there a b x e k l external n is.one;
    two = ends_there a c x f k m external n is.two;
    together = sym (d.meetings_are b c e f l m) ∙ is.together;
  }

  pub clash_back : (a b c : ℕ) (x e f : Instance) → IsEvent s x a → IsEvent s e b → IsEvent s f c → (n : ℕ) → Clash s x n e f → by_number.IsClash g a n b c
  clash_back a b c x e f k l m n is = record {
    differ = ap not (same_event s checked b c e f l m) ∙ is.differ;
    one = ends_back a b x e k l n is.one;
    two = ends_back a c x f k m n is.two;
    together = d.meetings_are b c e f l m ∙ is.together;
  }

  pub loops_there : (b : ℕ) (e : Instance) → IsEvent s e b → by_number.Loops g b → Loops s e
  loops_there b e k (a, start, (ns, chain, twice)) =
      let x = within_get (events s) a (let l = d.of_events.begin a start in omega (arith, l, d.counted)) in
      let c = chain_named a x.0 x.1 (sym (d.starts_are a x.0 x.1) ∙ start) ns chain in
      (c.0, first_so (is_chain s c.0) (begins_with x.0 c.0) c.2, subst (λ n. 2 ≤ n) (times_is b e k c.0 ns c.1) twice)

  pub loops_back : (b : ℕ) (e : Instance) → IsEvent s e b → Loops s e → by_number.Loops g b
  loops_back b e k ([], chain, twice) = absurd (true≢false (sym chain))
  loops_back b e k (x ∷ es, chain, twice) =
      let external = first_so (is_external s x) (linked s (x ∷ es)) chain in
      let a = event_there s x (external_event s checked x external) in
      let c = chain_numbered a.0 x a.1 (x ∷ es) (both (is_chain s (x ∷ es)) (same_instance x x) chain (instance_itself x)) in
      (a.0, d.starts_are a.0 x a.1 ∙ external, (c.0, c.2, subst (λ n. 2 ≤ n) (sym (times_is b e k (x ∷ es) c.0 c.1)) twice))
