-- What it means that one moment goes before another.
use Rattle.std.proofs.Common.{◌≡◌, ℕ, zero, suc, ◌+◌, ◌<◌, ◌⊎◌, inl, inr, Bool, true, false, ◌||◌, cond, List, [], ◌∷◌, map, Option, Some, unwrap_or, slice_get, if◌then◌else◌, refl, sym, ap, ◌∙◌, subst, true≢false, arith}
use Rattle.std.specs.List.{position_from}
use Rattle.std.specs.Ordering.{ordering_then, nat_cmp}
use Rattle.std.specs.Cmp.Lexicographic.{slice_cmp}
use Rattle.std.specs.declared.cmp.Ordering.{Ordering}
use Rattle.std.specs.declared.cmp.Ordering.TheVariants.{Less, Equal, Greater}
use Rattle.std.proofs.lemmas.Option.{same_Some}
use Rattle.rsml_syntax.specs.declared.syntax.Spec.{Spec}
use Rattle.rsml_meaning.specs.Words.{Instance, same_instance, has}
use Rattle.rsml_meaning.specs.Instances.{events}
use Rattle.rsml_meaning.specs.Interfaces.{receives}
use Rattle.rsml_meaning.specs.Chains.{is_external}
use Rattle.rsml_meaning.specs.Report.{event_place}
use Rattle.rsml_meaning.specs.Scoped.{WellScoped, IsEvent}
use Rattle.rsml_meaning.specs.Worlds.{world_cmp}
use Rattle.rsml_meaning.proofs.Lists.{each_one, any_one, any_some}
use Rattle.rsml_meaning.proofs.Order.{nats_apart}
use Rattle.rsml_meaning.proofs.Same.{instance_same, instance_itself}
use Rattle.claims.specs.Inductive.{Moment}
use Rattle.claims.specs.Breaks.{presence, moment_rank, moment_cmp}

-- Places of events.

place_there : (xs : List Instance) (e : Instance) (i : ℕ) → has xs e ≡ true → (k : ℕ) × (position_from (same_instance e) i xs ≡ Some (i + k)) × (slice_get xs k ≡ Some e)
place_there [] e i h = absurd (true≢false (sym h))
place_there (x ∷ xs) e i h = by (same_instance e x) refl h (λ g. place_there xs e (i + 1) g)
  where
    by : (b : Bool) → same_instance e x ≡ b → (b || has xs e) ≡ true
        → (has xs e ≡ true → (k : ℕ) × (position_from (same_instance e) (i + 1) xs ≡ Some (i + 1 + k)) × (slice_get xs k ≡ Some e))
        → (k : ℕ) × (cond b (Some i) (position_from (same_instance e) (i + 1) xs) ≡ Some (i + k)) × (slice_get (x ∷ xs) k ≡ Some e)
    by true q g rest = let same : i ≡ i + 0 = omega arith in (0, ap Some same, ap Some (sym (instance_same e x q)))
    by false q g rest = let r = rest g in let same : i + 1 + r.0 ≡ i + suc r.0 = omega arith in (suc r.0, r.1 ∙ ap Some same, r.2)

-- an external event is at its place
pub external_there : (s : Spec) → WellScoped s → (x : Instance) → is_external s x ≡ true → slice_get (events s) (event_place s x) ≡ Some x
external_there s scoped x h =
    let r = any_some (λ r. same_instance r.raised x) (receives s) h in
    let e = r.0.raised in
    let is : has (events s) x ≡ true = subst (λ z. has (events s) z ≡ true) (instance_same e x r.2)
    (any_one (same_instance e) (events s) e (each_one (λ r. IsEvent s r.raised) (receives s) r.0 scoped.receives r.1) (instance_itself e)) in
    let p = place_there (events s) x 0 is in
    let same : 0 + p.0 ≡ p.0 = omega arith in
    ap (λ (o : Option ℕ). slice_get (events s) (unwrap_or o 0)) (p.1 ∙ ap Some same) ∙ p.2

-- Orders one after another.

then_less : (x y : Ordering) → ordering_then x y ≡ Less → (x ≡ Less) ⊎ ((x ≡ Equal) × (y ≡ Less))
then_less Less y h = inl refl
then_less Equal y h = inr (refl, h)
then_less Greater y h = cc

not_less : (y : Ordering) → ordering_then Greater y ≡ Less → ⊥
not_less y h = cc

less_not : (y : Ordering) → ordering_then Less y ≡ Equal → ⊥
less_not y h = cc

more_not : (y : Ordering) → ordering_then Greater y ≡ Equal → ⊥
more_not y h = cc

nats_less : (x y : ℕ) → nat_cmp x y ≡ Less → x < y
nats_less x y h = grind arith

-- The first event that one set has and the other has not.
pub record Differ (es : List Instance) (f g : Instance → Bool) : Type 0 where
  pub place : ℕ
  pub event : Instance
  pub at : slice_get es place ≡ Some event
  pub absent : f event ≡ false
  pub present : g event ≡ true
  pub front : (q : ℕ) (d : Instance) → q < place → slice_get es q ≡ Some d → f d ≡ g d

abbrev as_number : (Instance → Bool) → Instance → ℕ
as_number f e = if f e then 1 else 0

-- they differ, or are of the same events
pub presence_less : (es : List Instance) (f g : Instance → Bool) → slice_cmp nat_cmp (map (as_number f) es) (map (as_number g) es) ≡ Less → Differ es f g
presence_less [] f g h = cc
presence_less (e ∷ es) f g h = by (f e) (g e) refl refl h (λ k. presence_less es f g k)
  where
    later : f e ≡ g e → Differ es f g → Differ (e ∷ es) f g
    later same d = record { place = suc d.place; event = d.event; at = d.at; absent = d.absent; present = d.present; front = front }
      where
        front : (q : ℕ) (c : Instance) → q < suc d.place → slice_get (e ∷ es) q ≡ Some c → f c ≡ g c
        front zero c l at = subst (λ z. f z ≡ g z) (same_Some e c at) same
        front (suc q) c l at = d.front q c (omega (arith, l)) at

    by : (a b : Bool) → f e ≡ a → g e ≡ b → ordering_then (nat_cmp (if a then 1 else 0) (if b then 1 else 0)) (slice_cmp nat_cmp (map (as_number f) es) (map (as_number g) es)) ≡ Less
        → (slice_cmp nat_cmp (map (as_number f) es) (map (as_number g) es) ≡ Less → Differ es f g) → Differ (e ∷ es) f g
    by true true p q h rest = later (p ∙ sym q) (rest h)
    by false false p q h rest = later (p ∙ sym q) (rest h)
    by false true p q h rest = record { place = 0; event = e; at = refl; absent = p; present = q; front = λ j d l at. absurd (omega (arith, l)) }
    by true false p q h rest = absurd (not_less (slice_cmp nat_cmp (map (as_number f) es) (map (as_number g) es)) h)

pub presence_equal : (es : List Instance) (f g : Instance → Bool) → slice_cmp nat_cmp (map (as_number f) es) (map (as_number g) es) ≡ Equal
    → (q : ℕ) (d : Instance) → slice_get es q ≡ Some d → f d ≡ g d
presence_equal [] f g h q d at = cc
presence_equal (e ∷ es) f g h q d at = by (f e) (g e) refl refl h q at (λ k j c. presence_equal es f g k j c)
  where
    here : f e ≡ g e → (j : ℕ) → slice_get (e ∷ es) j ≡ Some d → ((i : ℕ) (c : Instance) → slice_get es i ≡ Some c → f c ≡ g c) → f d ≡ g d
    here same zero at rest = subst (λ z. f z ≡ g z) (same_Some e d at) same
    here same (suc j) at rest = rest j d at

    by : (a b : Bool) → f e ≡ a → g e ≡ b → ordering_then (nat_cmp (if a then 1 else 0) (if b then 1 else 0)) (slice_cmp nat_cmp (map (as_number f) es) (map (as_number g) es)) ≡ Equal
        → (j : ℕ) → slice_get (e ∷ es) j ≡ Some d
        → (slice_cmp nat_cmp (map (as_number f) es) (map (as_number g) es) ≡ Equal → (i : ℕ) (c : Instance) → slice_get es i ≡ Some c → f c ≡ g c) → f d ≡ g d
    by true true p r h j at rest = here (p ∙ sym r) j at (rest h)
    by false false p r h j at rest = here (p ∙ sym r) j at (rest h)
    by false true p r h j at rest = absurd (less_not (slice_cmp nat_cmp (map (as_number f) es) (map (as_number g) es)) h)
    by true false p r h j at rest = absurd (more_not (slice_cmp nat_cmp (map (as_number f) es) (map (as_number g) es)) h)

-- The moment k goes before m.
pub data GoesBefore (s : Spec) (k m : Moment) : Type 0 where
  by_start : event_place s k.start < event_place s m.start → GoesBefore s k m
  by_round : event_place s k.start ≡ event_place s m.start → k.round < m.round → GoesBefore s k m
  by_present : event_place s k.start ≡ event_place s m.start → k.round ≡ m.round → Differ (events s) (has k.present) (has m.present) → GoesBefore s k m
  by_world : event_place s k.start ≡ event_place s m.start → k.round ≡ m.round
      → ((q : ℕ) (d : Instance) → slice_get (events s) q ≡ Some d → has k.present d ≡ has m.present d) → world_cmp k.world m.world ≡ Less → GoesBefore s k m

pub goes_before : (s : Spec) (k m : Moment) → moment_cmp s k m ≡ Less → GoesBefore s k m
goes_before s k m h = by (then_less (slice_cmp nat_cmp (moment_rank s k) (moment_rank s m)) (world_cmp k.world m.world) h)
  where
    places : Ordering
    places = nat_cmp (event_place s k.start) (event_place s m.start)

    rounds : Ordering
    rounds = nat_cmp k.round m.round

    sets : Ordering
    sets = slice_cmp nat_cmp (map (presence k) (events s)) (map (presence m) (events s))

    equal : (x y : Ordering) → ordering_then x y ≡ Equal → (x ≡ Equal) × (y ≡ Equal)
    equal Less y h = cc
    equal Equal y h = (refl, h)
    equal Greater y h = cc

    ranks : (places ≡ Less) ⊎ ((places ≡ Equal) × (ordering_then rounds sets ≡ Less)) → GoesBefore s k m
    ranks (inl l) = by_start (nats_less (event_place s k.start) (event_place s m.start) l)
    ranks (inr e) = second (then_less rounds sets e.1)
      where
        same : event_place s k.start ≡ event_place s m.start
        same = nats_apart (event_place s k.start) (event_place s m.start) e.0

        second : (rounds ≡ Less) ⊎ ((rounds ≡ Equal) × (sets ≡ Less)) → GoesBefore s k m
        second (inl l) = by_round same (nats_less k.round m.round l)
        second (inr f) = by_present same (nats_apart k.round m.round f.0) (presence_less (events s) (has k.present) (has m.present) f.1)

    by : (ordering_then places (ordering_then rounds sets) ≡ Less) ⊎ ((ordering_then places (ordering_then rounds sets) ≡ Equal) × (world_cmp k.world m.world ≡ Less)) → GoesBefore s k m
    by (inl l) = ranks (then_less places (ordering_then rounds sets) l)
    by (inr e) =
        let first = equal places (ordering_then rounds sets) e.0 in
        let second = equal rounds sets first.1 in
        by_world (nats_apart (event_place s k.start) (event_place s m.start) first.0) (nats_apart k.round m.round second.0)
        (presence_equal (events s) (has k.present) (has m.present) second.1) e.1
