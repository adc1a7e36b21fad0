-- What was found is the least break, and where nothing was found the claims are inductive.
use Rattle.std.proofs.Common.{◌≡◌, ℕ, zero, suc, ◌+◌, ◌<◌, Bool, true, false, not, ◌&&◌, cond, List, [], ◌∷◌, fold, length, get_or, Option, Some, None, slice_get, if◌then◌else◌, refl, sym, ap, ◌∙◌, subst, true≢false, arith}
use Rattle.std.specs.List.{All, AllZip, list_all, position_from}
use Rattle.std.specs.Option.{option_map_or}
use Rattle.std.specs.Cmp.{first_so, second_so}
use Rattle.std.specs.declared.cmp.Ordering.TheVariants.{Less}
use Rattle.std.proofs.lemmas.Option.{same_Some}
use Rattle.rsml_syntax.specs.declared.syntax.Spec.{Spec}
use Rattle.rsml_syntax.specs.declared.world.World.{World}
use Rattle.rsml_meaning.specs.Words.{Instance, Each}
use Rattle.rsml_meaning.specs.Words as words
use Rattle.rsml_meaning.specs.Instances.{events}
use Rattle.rsml_meaning.specs.Worlds.{IsWorld}
use Rattle.rsml_meaning.specs.Chains.{Ends, is_external}
use Rattle.rsml_meaning.specs.Report.{event_place}
use Rattle.rsml_meaning.specs.Transitions.{transitions}
use Rattle.rsml_meaning.specs.Runs.{first_world}
use Rattle.rsml_meaning.specs.Certified.{Certified}
use Rattle.rsml_meaning.proofs.Lines.{present_ends}
use Rattle.rsml_ground.specs.Truths.{is_active}
use Rattle.claim_syntax.specs.declared.claim.Claim.{Claim}
use Rattle.claims.specs.Claims.{is_true, all_true}
use Rattle.claims.specs.Inductive.{Moment, AreInductive}
use Rattle.claims.specs.Breaks.{IsBreak, IsLeastBreak, moment_cmp}
use Rattle.claims.specs.NextWorlds.{next_world, TurnFalse}
use Rattle.claims.proofs.Next.{breaks_turn_false}
use Rattle.claims.proofs.NoBreak.{no_break_is_inductive}
use Rattle.ground_members.specs.Members.{IsEvent}
use Rattle.ground_groups.proofs.Instances.{one_event}
use Rattle.event_graph.specs.Sets.{has}
use Rattle.elaborate.specs.Machine.{GroundMachine, StandsFor}
use Rattle.micro_step.specs.Places.{items_where, ArePlaces}
use Rattle.micro_step.specs.Micros.{AreEvents}
use Rattle.micro_step.specs.Numbers.{after_number, left_by, taken_at}
use Rattle.micro_step.proofs.PlaceLemmas.{items_are}
use Rattle.micro_step.proofs.PresentLemmas.{present_has}
use Rattle.ground_claims.specs.declared.claim.GroundClaim.{GroundClaim}
use Rattle.ground_claims.specs.StandsFor.{ClaimIs, HasStates}
use Rattle.ground_claims.specs.Truths.{claim_truth}
use Rattle.invariants.specs.declared.found.Found.{Found}
use Rattle.invariants.specs.declared.proof.Break.{Break}
use Rattle.invariants.specs.Asked.{all_hold, breaks}
use Rattle.invariants.specs.Moves.{after, moves_on}
use Rattle.invariants.specs.Safe.{IsFound, IsSafe, IsSafeStart, IsEarlier, MayBe}
use Rattle.invariants.specs.Found.{IsBreakOf}
use Rattle.invariants.specs.Proof.{first_false, BreakIs}
use Rattle.invariants.proofs.MoveLemmas.{events_at, taken_on, after_is_left, left_choices, leaves, scoped}
use Rattle.invariants.proofs.RankLemmas.{GoesBefore, by_start, by_round, by_present, by_world, goes_before, external_there}

-- Claims and what stands for them.

pub same_truths : (s : Spec) (cs : List Claim) (gs : List GroundClaim) (w : World) → AllZip (ClaimIs s) cs gs → all_hold s gs w ≡ all_true s cs w
same_truths s [] [] w z = refl
same_truths s [] (g ∷ gs) w z = absurd z
same_truths s (c ∷ cs) [] w z = absurd z
same_truths s (c ∷ cs) (g ∷ gs) w z = λ i. z.0.truth w i && same_truths s cs gs w z.1 i

same_first_from : (s : Spec) (cs : List Claim) (gs : List GroundClaim) (w : World) (n : ℕ) → AllZip (ClaimIs s) cs gs
    → position_from (λ g. not (claim_truth (is_active s w) g)) n gs ≡ position_from (λ c. not (is_true s w c)) n cs
same_first_from s [] [] w n z = refl
same_first_from s [] (g ∷ gs) w n z = absurd z
same_first_from s (c ∷ cs) [] w n z = absurd z
same_first_from s (c ∷ cs) (g ∷ gs) w n z = λ i. cond (not (z.0.truth w i)) (Some n) (same_first_from s cs gs w (n + 1) z.1 i)

pub same_first : (s : Spec) (cs : List Claim) (gs : List GroundClaim) (w : World) → AllZip (ClaimIs s) cs gs
    → position_from (λ g. not (claim_truth (is_active s w) g)) 0 gs ≡ first_false s cs w
same_first s cs gs w z = same_first_from s cs gs w 0 z

-- in the first world, in the words of a tree of the specification
pub first_is : (s : Spec) (cs : List Claim) (gs : List GroundClaim) (w : World) (t : Spec) → AllZip (ClaimIs s) cs gs → t ≡ s → w ≡ first_world s
    → position_from (λ g. not (claim_truth (is_active t w) g)) 0 gs ≡ first_false s cs (first_world s)
first_is s cs gs w t are own first = (λ i. position_from (λ g. not (claim_truth (is_active (own i) (first i)) g)) 0 gs) ∙ same_first s cs gs (first_world s) are

pub states_there : (s : Spec) (cs : List Claim) (gs : List GroundClaim) → AllZip (ClaimIs s) cs gs → All (HasStates s) gs
states_there s [] [] z = λ k d l. absurd (omega (arith, l))
states_there s [] (g ∷ gs) z = absurd z
states_there s (c ∷ cs) [] z = absurd z
states_there s (c ∷ cs) (g ∷ gs) z = by (states_there s cs gs z.1)
  where
    by : All (HasStates s) gs → (k : ℕ) (d : GroundClaim) → k < length (g ∷ gs) → HasStates s (get_or (g ∷ gs) k d)
    by rest zero d l = z.0.there
    by rest (suc k) d l = rest k d (omega (arith, l))

not_none : (n : ℕ) → Some n ≡ None → ⊥
not_none n h = cc

-- where no claim is false all are true
none_first : (test : GroundClaim → Bool) (gs : List GroundClaim) (n : ℕ) → position_from (λ g. not (test g)) n gs ≡ None → list_all test gs ≡ true
none_first test [] n h = refl
none_first test (g ∷ gs) n h = by (test g) refl h (λ k. none_first test gs (n + 1) k)
  where
    by : (b : Bool) → test g ≡ b → cond (not b) (Some n) (position_from (λ g. not (test g)) (n + 1) gs) ≡ None → (position_from (λ g. not (test g)) (n + 1) gs ≡ None → list_all test gs ≡ true)
        → (test g && list_all test gs) ≡ true
    by true e k rest = ap (λ (b : Bool). b && list_all test gs) e ∙ rest k
    by false e k rest = absurd (not_none n k)

pub all_first : (s : Spec) (gs : List GroundClaim) (w : World) → position_from (λ g. not (claim_truth (is_active s w) g)) 0 gs ≡ None → all_hold s gs w ≡ true
all_first s gs w h = none_first (claim_truth (is_active s w)) gs 0 h

pub first_holds : (s t : Spec) (gs : List GroundClaim) (w : World) → t ≡ s → w ≡ first_world s → position_from (λ g. not (claim_truth (is_active t w) g)) 0 gs ≡ None
    → all_hold s gs (first_world s) ≡ true
first_holds s t gs w own first none =
    let same : all_hold t gs w ≡ all_hold s gs (first_world s) = λ i. all_hold (own i) gs (first i) in
    sym same ∙ all_first t gs w none

-- where not all are true there is a first that is not
pub some_first : (s : Spec) (gs : List GroundClaim) (w : World) → all_hold s gs w ≡ false → (k : ℕ) × (position_from (λ g. not (claim_truth (is_active s w) g)) 0 gs ≡ Some k)
some_first s gs w h = by (position_from (λ g. not (claim_truth (is_active s w) g)) 0 gs) refl
  where
    by : (o : Option ℕ) → position_from (λ g. not (claim_truth (is_active s w) g)) 0 gs ≡ o → (k : ℕ) × (position_from (λ g. not (claim_truth (is_active s w) g)) 0 gs ≡ Some k)
    by None e = absurd (true≢false (sym (all_first s gs w e) ∙ h))
    by (Some k) e = (k, e)

-- The world that is left by what was found.

not_true : (b : Bool) → not b ≡ true → b ≡ false
not_true true h = absurd (true≢false (sym h))
not_true false h = refl

-- not all claims are true there
left_false : (m : GroundMachine) (gs : List GroundClaim) (f : ℕ → Bool) (w : World) → breaks m gs f w ≡ true → all_hold m.base.spec gs (left_by m w (taken_on m w f)) ≡ false
left_false m gs f w h =
    ap (all_hold m.base.spec gs) (sym (after_is_left m w f))
    ∙ not_true (all_hold m.base.spec gs (after m (moves_on m f) w)) (second_so (all_hold m.base.spec gs w) (not (all_hold m.base.spec gs (after m (moves_on m f) w))) h)

abbrev first_at : Spec → List GroundClaim → World → Option ℕ
first_at s gs w = position_from (λ g. not (claim_truth (is_active s w) g)) 0 gs

-- What is known of the world after the transitions were entered: its children, and the tree that is asked.
pub record IsLeft (m : GroundMachine) (found : Found) (t : Spec) (entered taken : List ℕ) : Type 0 where
  pub tree : t ≡ m.base.spec
  pub moves : taken ≡ taken_at m found.broken.world found.broken.events
  pub choices : entered ≡ fold (after_number m) found.broken.world.choices taken

module _ (m : GroundMachine) (gs : List GroundClaim) (found : Found) (t : Spec) (choices taken : List ℕ) (l : IsLeft m found t choices taken) where
  abbrev v : World
  v = found.broken.world

  same_world : record { choices = choices; cells = v.cells } ≡ left_by m v taken
  same_world = λ i. record { choices = l.choices i; cells = v.cells }

  -- some claim is false there
  pub some_left : IsFound m gs found → (k : ℕ) × (first_at t gs (record { choices = choices; cells = v.cells }) ≡ Some k)
  some_left is =
      let false_left = left_false m gs (has found.broken.events) v is.here.round.broken.world.such.1 in
      let p = some_first m.base.spec gs (left_by m v (taken_on m v (has found.broken.events))) false_left in
      let same : first_at t gs (record { choices = choices; cells = v.cells }) ≡ first_at m.base.spec gs (left_by m v (taken_on m v (has found.broken.events))) =
      (λ i. first_at (l.tree i) gs (same_world i)) ∙ ap (λ ks. first_at m.base.spec gs (left_by m v ks)) l.moves in
      (p.0, same ∙ p.1)

  -- the break that is made of it
  pub break_of : (b : Break) → b.start ≡ found.start → b.round ≡ found.round → b.present ≡ found.broken.events → b.world ≡ v → b.taken.items ≡ taken
      → first_at t gs (record { choices = choices; cells = v.cells }) ≡ Some b.claim → IsBreakOf m gs found b
  break_of b start round present world same claim = record {
    start = start;
    round = round;
    present = present;
    world = world;
    taken = same ∙ l.moves ∙ (λ i. taken_at m (sym world i) (sym present i));
    claim = here ∙ claim;
  }
    where
      here : first_at m.base.spec gs (left_by m b.world b.taken.items) ≡ first_at t gs (record { choices = choices; cells = v.cells })
      here =
          let one : first_at m.base.spec gs (left_by m b.world b.taken.items) ≡ first_at m.base.spec gs (left_by m v taken) = λ i. first_at m.base.spec gs (left_by m (world i) (same i)) in
          let two : first_at t gs (record { choices = choices; cells = v.cells }) ≡ first_at m.base.spec gs (left_by m v taken) = λ i. first_at (l.tree i) gs (same_world i) in
          one ∙ sym two

module _ (m : GroundMachine) (stands : StandsFor m) (cs : List Claim) (gs : List GroundClaim) (are : AllZip (ClaimIs m.base.spec) cs gs) (cert : Certified m.base.spec) where
  abbrev s : Spec
  s = m.base.spec

  -- The next world is the one after the transitions.
  next_is : (x : Instance) (n : ℕ) (f : ℕ → Bool) (w : World) → next_world s (record { start = x; round = n; present = events_at s f; world = w }) ≡ after m (moves_on m f) w
  next_is x n f w =
      let left : next_world s (record { start = x; round = n; present = events_at s f; world = w }) ≡ left_by m w (taken_on m w f) = λ i. record { choices = sym (left_choices m stands w f) i; cells = w.cells } in
      left ∙ sym (after_is_left m w f)

  -- A break by the numbers of its events.
  pub record TurnsAt (k : Moment) (f : ℕ → Bool) : Type 0 where
    pub may : MayBe s k.start k.round f
    pub number : (q : ℕ) (e : Instance) → IsEvent s e q → f q ≡ words.has k.present e
    pub is_world : IsWorld s k.world
    pub external : is_external s k.start ≡ true
    pub turned : breaks m gs f k.world ≡ true

  abbrev numbers : Moment → ℕ → Bool
  numbers k q = option_map_or (words.has k.present) (slice_get (events s) q) false

  breaks_at : (f : ℕ → Bool) (w : World) → all_true s cs w ≡ true → all_true s cs (after m (moves_on m f) w) ≡ false → breaks m gs f w ≡ true
  breaks_at f w before turned =
      (λ i. (same_truths s cs gs w are ∙ before) i && not ((same_truths s cs gs (after m (moves_on m f) w) are ∙ turned) i))

  by_numbers : (k : Moment) → IsBreak s cs k → TurnsAt k (numbers k)
  by_numbers k b = record {
    may = λ q h. by q (slice_get (events s) q) refl h;
    number = λ q e at. ap (λ o. option_map_or (words.has k.present) o false) at;
    is_world = b.may_come.is_world;
    external = b.may_come.external;
    turned = breaks_at (numbers k) k.world b.before (ap (all_true s cs) (sym next) ∙ t.after);
  }
    where
      t : TurnFalse s cs k
      t = (breaks_turn_false s cs k (scoped m stands) cert).0 b

      listed : events_at s (numbers k) ≡ k.present
      listed = items_are (numbers k) (words.has k.present) 0 (events s) (λ j e at. let same : 0 + j ≡ j = omega arith in ap (numbers k) same ∙ ap (λ o. option_map_or (words.has k.present) o false) at) ∙ sym b.listed

      next : next_world s k ≡ after m (moves_on m (numbers k)) k.world
      next = ap (λ es. next_world s (record k { present = es })) (sym listed) ∙ next_is k.start k.round (numbers k) k.world

      by : (q : ℕ) (o : Option Instance) → slice_get (events s) q ≡ o → option_map_or (words.has k.present) o false ≡ true → (e : Instance) × IsEvent s e q × Ends s k.start k.round e
      by q None at h = absurd (true≢false (sym h))
      by q (Some e) at h = (e, at, present_ends s k.start k.round k.present b.may_come.ends e h)

  -- Where all is safe the claims are inductive.
  pub inductive_of : all_hold s gs (first_world s) ≡ true → ((k : ℕ) → IsSafeStart m gs k) → AreInductive s cs
  inductive_of first safe = no_break_is_inductive s cs (scoped m stands) (sym (same_truths s cs gs (first_world s) are) ∙ first) (λ k b.
      let t = by_numbers k b in
      true≢false (sym t.turned ∙ safe (event_place s k.start) k.start (external_there s (scoped m stands) k.start t.external) t.external k.round (numbers k) t.may k.world t.is_world))

  -- What was found is the least break.
  module _ (found : Found) (is : IsFound m gs found) where
    abbrev f : ℕ → Bool
    f = has found.broken.events

    abbrev w : World
    w = found.broken.world

    abbrev here : Moment
    here = record { start = is.here.start; round = found.round; present = events_at s f; world = w }

    present_is : (q : ℕ) (e : Instance) → IsEvent s e q → words.has (events_at s f) e ≡ f q
    present_is q e at = present_has s stands.grounded.checked f e q at

    breaks_here : breaks m gs f w ≡ true
    breaks_here = is.here.round.broken.world.such.1

    each_ends : (n : ℕ) (es : List Instance) → ((j : ℕ) (e : Instance) → slice_get es j ≡ Some e → f (n + j) ≡ true → Ends s is.here.start found.round e)
        → Each (Ends s is.here.start found.round) (items_where f n es)
    each_ends n [] h = tt
    each_ends n (e ∷ es) h = by (f n) refl (each_ends (suc n) es (λ j d at k. h (suc j) d at (ap f (shift j) ∙ k)))
      where
        shift : (j : ℕ) → n + suc j ≡ suc n + j
        shift j = omega arith

        same : n + 0 ≡ n
        same = omega arith

        by : (b : Bool) → f n ≡ b → Each (Ends s is.here.start found.round) (items_where f (suc n) es)
            → Each (Ends s is.here.start found.round) (if b then e ∷ items_where f (suc n) es else items_where f (suc n) es)
        by true q rest = (h 0 e refl (ap f same ∙ q), rest)
        by false q rest = rest

    ends_at : (j : ℕ) (e : Instance) → slice_get (events s) j ≡ Some e → f (0 + j) ≡ true → Ends s is.here.start found.round e
    ends_at j e at h =
        let same : j ≡ 0 + j = omega arith in
        let d = is.here.round.broken.passes j (ap f same ∙ h) in
        subst (Ends s is.here.start found.round) (same_Some d.0 e (sym d.1 ∙ at)) d.2

    turns : TurnFalse s cs here
    turns = record {
      may_come = record { external = is.here.external; ends = each_ends 0 (events s) ends_at; is_world = is.here.round.broken.world.such.0 };
      listed = items_are f (words.has (events_at s f)) 0 (events s) (λ j e at. let same : 0 + j ≡ j = omega arith in ap f same ∙ sym (present_is j e at));
      before = sym (same_truths s cs gs w are) ∙ first_so (all_hold s gs w) (not (all_hold s gs (after m (moves_on m f) w))) breaks_here;
      after = ap (all_true s cs) (next_is is.here.start found.round f w) ∙ sym (same_truths s cs gs (after m (moves_on m f) w) are)
          ∙ no (all_hold s gs (after m (moves_on m f) w)) (second_so (all_hold s gs w) (not (all_hold s gs (after m (moves_on m f) w))) breaks_here);
    }
      where
        no : (b : Bool) → not b ≡ true → b ≡ false
        no true h = absurd (true≢false (sym h))
        no false h = refl

    -- the external event is at its place
    place_is : event_place s is.here.start ≡ found.start
    place_is = one_event s stands.grounded.checked (event_place s is.here.start) found.start is.here.start (external_there s (scoped m stands) is.here.start is.here.external) is.here.is

    none_before : (k : Moment) → IsBreak s cs k → moment_cmp s k here ≡ Less → ⊥
    none_before k b less = by (goes_before s k here less)
      where
        t : TurnsAt k (numbers k)
        t = by_numbers k b

        k_at : IsEvent s k.start (event_place s k.start)
        k_at = external_there s (scoped m stands) k.start t.external

        unsafe : IsSafe m gs (numbers k) → ⊥
        unsafe safe = true≢false (sym t.turned ∙ safe k.world t.is_world)

        may_here : event_place s k.start ≡ event_place s is.here.start → MayBe s is.here.start k.round (numbers k)
        may_here same = subst (λ x. MayBe s x k.round (numbers k))
            (same_Some k.start is.here.start (sym k_at ∙ ap (slice_get (events s)) (same ∙ place_is) ∙ is.here.is)) t.may

        number_is : (q : ℕ) (e : Instance) → IsEvent s e q → words.has k.present e ≡ words.has (events_at s f) e → numbers k q ≡ f q
        number_is q e at same = t.number q e at ∙ same ∙ present_is q e at

        no_number : (q : ℕ) → slice_get (events s) q ≡ None → numbers k q ≡ f q
        no_number q at = ap (λ o. option_map_or (words.has k.present) o false) at ∙ sym (none (f q) refl)
          where
            none : (b : Bool) → f q ≡ b → f q ≡ false
            none true e = let d = is.here.round.broken.passes q e in absurd (let no : ⊥ = some_none d.0 (sym d.1 ∙ at) in no)
              where
                some_none : (x : Instance) → Some x ≡ None → ⊥
                some_none x h = cc
            none false e = e

        same_numbers : ((q : ℕ) (e : Instance) → IsEvent s e q → words.has k.present e ≡ words.has (events_at s f) e) → (q : ℕ) → numbers k q ≡ f q
        same_numbers same q = at (slice_get (events s) q) refl
          where
            at : (o : Option Instance) → slice_get (events s) q ≡ o → numbers k q ≡ f q
            at None e = no_number q e
            at (Some d) e = number_is q d e (same q d e)

        earlier : (place : ℕ) (e : Instance) → IsEvent s e place → words.has k.present e ≡ false → words.has (events_at s f) e ≡ true
            → ((q : ℕ) (d : Instance) → q < place → IsEvent s d q → words.has k.present d ≡ words.has (events_at s f) d) → IsEarlier (numbers k) f
        earlier place e at absent there front = record {
          place = place;
          absent = t.number place e at ∙ absent;
          present = sym (present_is place e at) ∙ there;
          front = λ q l. one q l (slice_get (events s) q) refl;
        }
          where
            one : (q : ℕ) → q < place → (o : Option Instance) → slice_get (events s) q ≡ o → numbers k q ≡ f q
            one q l None e = no_number q e
            one q l (Some d) e = number_is q d e (front q d l e)

        by : GoesBefore s k here → ⊥
        by (by_start l) = unsafe (is.first (event_place s k.start) (subst (λ n. event_place s k.start < n) place_is l) k.start k_at t.external k.round (numbers k) t.may)
        by (by_round same l) = unsafe (is.here.round.first k.round l (numbers k) (may_here same))
        by (by_present same e d) = unsafe (is.here.round.broken.first (numbers k) (subst (λ n. MayBe s is.here.start n (numbers k)) e (may_here same)) (earlier d.place d.event d.at d.absent d.present d.front))
        by (by_world same e eq l) = is.here.round.broken.world.least k.world
            (t.is_world, (let same : breaks m gs f k.world ≡ breaks m gs (numbers k) k.world = λ i. breaks m gs (λ q. sym (same_numbers eq q) i) k.world in same ∙ t.turned)) l

    pub least_of_found : IsLeastBreak s cs here
    least_of_found = record { such = (breaks_turn_false s cs here (scoped m stands) cert).1 turns; least = none_before }

    pub break_is : (b : Break) → IsBreakOf m gs found b → BreakIs s cs b
    break_is b h =
        let l = leaves m stands w f is.here.round.broken.world.such.0 in
        let same_taken : taken_on m b.world (has b.present) ≡ taken_on m w f = λ i. taken_on m (h.world i) (has (h.present i)) in
        let taken : b.taken.items ≡ taken_on m w f = h.taken ∙ same_taken in
        let same_left : left_by m b.world b.taken.items ≡ left_by m w (taken_on m w f) = λ i. left_by m (h.world i) (taken i) in
        let left : left_by m b.world b.taken.items ≡ l.result.world = same_left ∙ sym l.left in
        record {
          moment = here;
          is = record {
            start = subst (IsEvent s is.here.start) (sym h.start) is.here.is;
            round = h.round;
            events = subst (AreEvents s) (sym h.present) is.here.events;
            present = λ i. events_at s (has (sym h.present i));
            world = h.world;
          };
          least = least_of_found;
          result = l.result;
          comes_to = l.is;
          taken = subst (λ ks. ArePlaces (transitions s) l.result.taken ks) (sym taken) l.taken;
          claim = sym (same_first s cs gs l.result.world are) ∙ ap (λ v. position_from (λ g. not (claim_truth (is_active s v) g)) 0 gs) (sym left) ∙ h.claim;
        }
