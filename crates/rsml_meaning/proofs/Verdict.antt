-- A right report counts no refusal exactly where the specification is certified.
use Rattle.std.proofs.Common.{◌≡◌, ℕ, ◌≤◌, Bool, true, false, cond, ◌&&◌, List, [], ◌∷◌, length, filter, Option, Some, None, is_some, inl, inr, ⊎_elim, refl, sym, ap, subst, arith, true≢false, IsTrue}
use Rattle.std.specs.Prelude.{◌↔◌}
use Rattle.std.specs.List.{AllZip, items_where_true}
use Rattle.std.specs.Cmp.{first_so, second_so}
use Rattle.rsml_syntax.specs.declared.syntax.Spec.{Spec}
use Rattle.rsml_meaning.specs.Words.{Each, IsOne, Instance, same_instance, has}
use Rattle.rsml_meaning.specs.Instances.{events}
use Rattle.rsml_meaning.specs.Transitions.{TransitionInstance, transitions, is_on}
use Rattle.rsml_meaning.specs.Interfaces.{ReceiveInstance, receives}
use Rattle.rsml_meaning.specs.Groups.{Group, groups, Sound}
use Rattle.rsml_meaning.specs.Chains.{is_external, leads, linked, is_chain, begins_with, ends_with, HasLength, Endless, IsTwiceIn, Loops, Clash}
use Rattle.rsml_meaning.specs.Certified.{Certified}
use Rattle.rsml_meaning.specs.Findings.{Verdict, sound, none, two, IsVerdict}
use Rattle.rsml_meaning.specs.Report.{ClashFound, Answers, AreRight, externals, looping, IsClashAnswer, is_finding, refusals}
use Rattle.rsml_meaning.proofs.Same.{instance_same, instance_itself}
use Rattle.rsml_meaning.proofs.Ways.{length_or_endless}
use Rattle.rsml_meaning.specs.Scoped.{WellScoped, IsEvent}
use Rattle.rsml_meaning.specs.RunLaws.{LastLineIsVerdict}
use Rattle.rsml_meaning.proofs.Lists.{each_one, one_filter, any_one, any_some}
use Rattle.rsml_meaning.proofs.rules.Scoped.{rules_give_scopes}

-- What stands on a chain is an event of the specification.

end_in : (e : Instance) (es : List Instance) → ends_with e es ≡ true → IsOne e es
end_in e [] h = absurd (true≢false (sym h))
end_in e (x ∷ []) h = inl (instance_same e x h)
end_in e (x ∷ y ∷ es) h = inr (end_in e (y ∷ es) h)

some_passes : (p : Instance → Bool) (es : List Instance) → 1 ≤ length (filter p es) → (x : Instance) × IsOne x es × (p x ≡ true)
some_passes p [] h = absurd (omega (arith, h))
some_passes p (x ∷ es) h = by_test (p x) refl h (some_passes p es)
  where
    by_test : (b : Bool) → p x ≡ b → 1 ≤ length (cond b (x ∷ filter p es) (filter p es)) → (1 ≤ length (filter p es) → (y : Instance) × IsOne y es × (p y ≡ true))
        → (y : Instance) × IsOne y (x ∷ es) × (p y ≡ true)
    by_test true e k rest = (x, inl refl, e)
    by_test false e k rest = let r = rest k in (r.0, inr r.1, r.2)

twice_in : (e : Instance) (es : List Instance) → IsTwiceIn es e → IsOne e es
twice_in e es h = let r = some_passes (same_instance e) es (omega (arith, h)) in subst (λ z. IsOne z es) (sym (instance_same e r.0 r.2)) r.1

module _ (s : Spec) (scoped : WellScoped s) where
  external_is : (e : Instance) → is_external s e ≡ true → IsEvent s e
  external_is e h =
      let r = any_some (λ (r : ReceiveInstance). same_instance r.raised e) (receives s) h in
      subst (IsEvent s) (instance_same r.0.raised e r.2) (each_one (λ (r : ReceiveInstance). IsEvent s r.raised) (receives s) r.0 scoped.receives r.1)

  led_is : (e f : Instance) → leads s e f ≡ true → IsEvent s f
  led_is e f h =
      let t = any_some (λ t. is_on e t && has t.raises f) (transitions s) h in
      let x = any_some (same_instance f) t.0.raises (second_so (is_on e t.0) (has t.0.raises f) t.2) in
      let are = each_one (λ (t : TransitionInstance). Each (IsEvent s) t.raises) (transitions s) t.0 scoped.raises t.1 in
      subst (IsEvent s) (sym (instance_same f x.0 x.2)) (each_one (IsEvent s) t.0.raises x.0 are x.1)

  linked_are : (e : Instance) (es : List Instance) → IsEvent s e → linked s (e ∷ es) ≡ true → Each (IsEvent s) (e ∷ es)
  linked_are e [] m h = (m, tt)
  linked_are e (f ∷ es) m h = (m, linked_are f es (led_is e f (first_so (leads s e f) (linked s (f ∷ es)) h)) (second_so (leads s e f) (linked s (f ∷ es)) h))

  chain_are : (es : List Instance) → is_chain s es ≡ true → Each (IsEvent s) es
  chain_are [] h = tt
  chain_are (e ∷ es) h = linked_are e es (external_is e (first_so (is_external s e) (linked s (e ∷ es)) h)) (second_so (is_external s e) (linked s (e ∷ es)) h)

  on_chain : (es : List Instance) (e : Instance) → is_chain s es ≡ true → IsOne e es → IsEvent s e
  on_chain es e h m = each_one (IsEvent s) es e (chain_are es h) m

  -- what a chain begins with is external
  first_is : (x : Instance) (es : List Instance) → is_chain s es ≡ true → begins_with x es ≡ true → is_external s x ≡ true
  first_is x [] h k = absurd (true≢false (sym h))
  first_is x (e ∷ es) h k = subst (λ z. is_external s z ≡ true) (sym (instance_same x e k)) (first_so (is_external s e) (linked s (e ∷ es)) h)

-- The answers of a certified specification.

abbrev LoopAnswer : Spec → Instance → Bool → Type 0
LoopAnswer s e b = IsTrue b ↔ Loops s e

none_looping : (s : Spec) → ((e : Instance) → Loops s e → ⊥) → (es : List Instance) (bs : List Bool) → AllZip (LoopAnswer s) es bs → items_where_true bs es ≡ []
none_looping s never [] [] h = refl
none_looping s never (e ∷ es) (false ∷ bs) h = none_looping s never es bs h.1
none_looping s never (e ∷ es) (true ∷ bs) h = absurd (never e (h.0.0 refl))
none_looping s never [] (b ∷ bs) h = elim h [ ]
none_looping s never (e ∷ es) [] h = elim h [ ]

none_clashing : (s : Spec) → ((x : Instance) (n : ℕ) (e f : Instance) → Clash s x n e f → ⊥) → (xs : List Instance) (cs : List (Option ClashFound)) → AllZip (IsClashAnswer s) xs cs → filter is_some cs ≡ []
none_clashing s never [] [] h = refl
none_clashing s never (x ∷ xs) (None ∷ cs) h = none_clashing s never xs cs h.1
none_clashing s never (x ∷ xs) (Some c ∷ cs) h = absurd (never x c.round c.one c.two h.0.1.clash.clash)
none_clashing s never [] (c ∷ cs) h = elim h [ ]
none_clashing s never (x ∷ xs) [] h = elim h [ ]

none_found : (s : Spec) (gs : List Group) (vs : List Verdict) → Each (Sound s) gs → AllZip (IsVerdict s) gs vs → filter is_finding vs ≡ []
none_found s [] [] k h = refl
none_found s (g ∷ gs) (sound ∷ vs) k h = none_found s gs vs k.1 h.1
none_found s (g ∷ gs) (none w ∷ vs) k h = absurd (omega (arith, k.0 w h.0.such.is_world h.0.such.met, h.0.such.count))
none_found s (g ∷ gs) (two w ∷ vs) k h = absurd (omega (arith, k.0 w h.0.1.such.is_world h.0.1.such.met, h.0.1.such.count))
none_found s [] (v ∷ vs) k h = elim h [ ]
none_found s (g ∷ gs) [] k h = elim h [ ]

-- Answers without a refusal.

empty : {A : Type 0} (xs : List A) → length xs ≡ 0 → xs ≡ []
empty [] h = refl
empty (x ∷ xs) h = absurd (omega (arith, h))

not_empty : {A : Type 0} (x : A) (xs : List A) → x ∷ xs ≡ [] → ⊥
not_empty x xs h = cc

none_loops : (s : Spec) (es : List Instance) (bs : List Bool) → AllZip (LoopAnswer s) es bs → items_where_true bs es ≡ [] → Each (λ e. Loops s e → ⊥) es
none_loops s [] [] h k = tt
none_loops s (e ∷ es) (false ∷ bs) h k = (λ l. true≢false (sym (h.0.1 l)), none_loops s es bs h.1 k)
none_loops s (e ∷ es) (true ∷ bs) h k = absurd (not_empty e (items_where_true bs es) k)
none_loops s [] (b ∷ bs) h k = elim h [ ]
none_loops s (e ∷ es) [] h k = elim h [ ]

none_clashes : (s : Spec) (xs : List Instance) (cs : List (Option ClashFound)) → AllZip (IsClashAnswer s) xs cs → filter is_some cs ≡ [] → Each (λ x. IsClashAnswer s x None) xs
none_clashes s [] [] h k = tt
none_clashes s (x ∷ xs) (None ∷ cs) h k = (h.0, none_clashes s xs cs h.1 k)
none_clashes s (x ∷ xs) (Some c ∷ cs) h k = absurd (not_empty (Some c) (filter is_some cs) k)
none_clashes s [] (c ∷ cs) h k = elim h [ ]
none_clashes s (x ∷ xs) [] h k = elim h [ ]

all_sound : (s : Spec) (gs : List Group) (vs : List Verdict) → AllZip (IsVerdict s) gs vs → filter is_finding vs ≡ [] → Each (Sound s) gs
all_sound s [] [] h k = tt
all_sound s (g ∷ gs) (sound ∷ vs) h k = (h.0, all_sound s gs vs h.1 k)
all_sound s (g ∷ gs) (none w ∷ vs) h k = absurd (not_empty (none w) (filter is_finding vs) k)
all_sound s (g ∷ gs) (two w ∷ vs) h k = absurd (not_empty (two w) (filter is_finding vs) k)
all_sound s [] (v ∷ vs) h k = elim h [ ]
all_sound s (g ∷ gs) [] h k = elim h [ ]

-- The law.

counts_none : (s : Spec) (a : Answers) → AreRight s a → Certified s → refusals s a ≡ 0
counts_none s a r c =
    let loops = ap length (none_looping s c.no_loop (events s) a.loops r.loops) in
    let clashes = ap length (none_clashing s c.no_clash (externals s) a.clashes r.clashes) in
    let found = ap length (none_found s (groups s) a.verdicts c.sound r.verdicts) in
    omega (arith, loops, clashes, found)

module _ (s : Spec) (a : Answers) (scoped : WellScoped s) (r : AreRight s a) (h : refusals s a ≡ 0) where
  no_loop : (e : Instance) → Loops s e → ⊥
  no_loop e l =
      let counted : length (looping s a) ≡ 0 = omega (arith, h) in
      each_one (λ e. Loops s e → ⊥) (events s) e (none_loops s (events s) a.loops r.loops (empty (looping s a) counted)) (on_chain s scoped l.0 e l.1 (twice_in e l.0 l.2)) l

  -- an event without a length loops
  no_endless : (x : Instance) → Endless s x → ⊥
  no_endless x l = no_loop l.1 (l.0, first_so (is_chain s l.0) (begins_with x l.0) l.2, l.3)

  has_length : (x : Instance) → is_external s x ≡ true → HasLength s x
  has_length x k = ⊎_elim (λ l. l) (λ l. absurd (no_endless x l)) (length_or_endless s x k)

  is_declared : (e : Instance) → IsEvent s e → has (events s) e ≡ true
  is_declared e m = any_one (same_instance e) (events s) e m (instance_itself e)

  no_clash : (x : Instance) (n : ℕ) (e f : Instance) → Clash s x n e f → ⊥
  no_clash x n e f c =
      let counted : length (filter is_some a.clashes) ≡ 0 = omega (arith, h) in
      let chain = first_so (is_chain s c.one.0) (begins_with x c.one.0) c.one.1 in
      let other = first_so (is_chain s c.two.0) (begins_with x c.two.0) c.two.1 in
      let external = first_is s scoped x c.one.0 chain (second_so (is_chain s c.one.0) (begins_with x c.one.0) c.one.1) in
      let x_is = one_filter (is_external s) (events s) x (external_is s scoped x external) external in
      let none = each_one (λ x. IsClashAnswer s x None) (externals s) x (none_clashes s (externals s) a.clashes r.clashes (empty (filter is_some a.clashes) counted)) x_is in
      none (has_length x external) (record { round = n; one = e; two = f }) (record {
        declared_one = is_declared e (on_chain s scoped c.one.0 e chain (end_in e c.one.0 c.one.3));
        declared_two = is_declared f (on_chain s scoped c.two.0 f other (end_in f c.two.0 c.two.3));
        clash = c;
      })

  certified : Certified s
  certified =
      let counted : length (filter is_finding a.verdicts) ≡ 0 = omega (arith, h) in
      record { sound = all_sound s (groups s) a.verdicts r.verdicts (empty (filter is_finding a.verdicts) counted); no_loop = no_loop; no_clash = no_clash }

pub last_line_is_verdict : LastLineIsVerdict
last_line_is_verdict s a kept r = (certified s a (rules_give_scopes s kept) r, counts_none s a r)
