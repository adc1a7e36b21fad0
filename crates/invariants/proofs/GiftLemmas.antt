-- What one transition does to the child of one component.
use Rattle.std.proofs.Common.{◌≡◌, ℕ, zero, suc, ◌+◌, ◌<◌, ◌==◌, Bool, true, false, not, List, [], ◌∷◌, map, zip, take, set, length, fold, get_or, slice_get, Option, Some, None, unwrap_or, if◌then◌else◌, refl, sym, ap, ◌∙◌, subst, true≢false, arith}
use Rattle.std.proofs.Math.Bool.{beq}
use Rattle.std.specs.Cmp.{nat_eq_equiv}
use Rattle.std.specs.Option.{option_map_or}
use Rattle.std.proofs.lemmas.List.{length-set, get_or-set_same}
use Rattle.std.proofs.lemmas.List.Sums.{fold_more}
use Rattle.std.proofs.lemmas.Option.{same_Some}
use Rattle.rsml_syntax.specs.declared.world.World.{World}
use Rattle.rsml_meaning.specs.Instances.{Component, components}
use Rattle.rsml_meaning.specs.Active.{enter, given, given_or_kept}
use Rattle.rsml_meaning.specs.Worlds.{IsWorld}
use Rattle.rsml_meaning.specs.Groups as groups
use Rattle.rsml_meaning.specs.Transitions.{transitions}
use Rattle.state_tree.specs.Numbers.{component_path, path_of}
use Rattle.state_tree.proofs.Lists.{beside, within_get}
use Rattle.rsml_ground.specs.declared.choices.Choice.{Choice}
use Rattle.rsml_ground.specs.Choices.{is_chosen}
use Rattle.ground_members.specs.declared.transitions.GroundTransition.{GroundTransition}
use Rattle.ground_members.specs.Members.{TransitionIs}
use Rattle.ground_groups.specs.declared.group.Member.TheVariants as members
use Rattle.elaborate.specs.Machine.{GroundMachine, StandsFor}
use Rattle.elaborate.specs.Enabled.{enabled_at}
use Rattle.guard_encode.specs.Encoding.{Encoding, IsMember}
use Rattle.micro_step.specs.Numbers.{after_move, after_number}
use Rattle.micro_step.proofs.MicroLemmas.{world_choices}
use Rattle.invariants.specs.Moves.{in_turn}
use Rattle.invariants.specs.Told.{TellsOf}
use Rattle.invariants.proofs.ToldLemmas.{tells_as}

-- A child for each component.

abbrev pub AreLong : GroundMachine → List ℕ → Type 0
AreLong m choices = length choices ≡ length (components m.base.spec)

zip_long : (f : Component × ℕ → ℕ) (cs : List Component) (ns : List ℕ) → length ns ≡ length cs → length (map f (zip cs ns)) ≡ length cs
zip_long f [] ns h = refl
zip_long f (c ∷ cs) [] h = absurd (omega (arith, h))
zip_long f (c ∷ cs) (n ∷ ns) h = let l = zip_long f cs ns (omega (arith, h)) in omega (arith, l)

zip_at : (f : Component × ℕ → ℕ) (cs : List Component) (ns : List ℕ) (k : ℕ) (c : Component) → slice_get cs k ≡ Some c → length ns ≡ length cs
    → get_or (map f (zip cs ns)) k 0 ≡ f (c, get_or ns k 0)
zip_at f [] ns k c at h = absurd (let no : ⊥ = cc in no)
zip_at f (d ∷ cs) [] k c at h = absurd (omega (arith, h))
zip_at f (d ∷ cs) (n ∷ ns) zero c at h = ap (λ (x : Component). f (x, n)) (same_Some d c at)
zip_at f (d ∷ cs) (n ∷ ns) (suc k) c at h = zip_at f cs ns k c at (omega (arith, h))

-- the place that a transition gives a component
abbrev gift : GroundMachine → Component → Option GroundTransition → Option ℕ
gift m c None = None
gift m c (Some t) = elim t.target [ None ↦ None | Some target ↦ given (component_path m.base.spec t.component) (path_of m.base.spec target) c ]

gift_at : (m : GroundMachine) (o : Option GroundTransition) (choices : List ℕ) (k : ℕ) (c : Component) → slice_get (components m.base.spec) k ≡ Some c → AreLong m choices
    → get_or (option_map_or (after_move m choices) o choices) k 0 ≡ unwrap_or (gift m c o) (get_or choices k 0)
gift_at m None choices k c at long = refl
gift_at m (Some t) choices k c at long = by t.target
  where
    by : (o : Option ℕ) → get_or (elim o [ None ↦ choices | Some target ↦ enter m.base.spec (component_path m.base.spec t.component) (path_of m.base.spec target) choices ]) k 0
        ≡ unwrap_or (elim o [ None ↦ None | Some target ↦ given (component_path m.base.spec t.component) (path_of m.base.spec target) c ]) (get_or choices k 0)
    by None = refl
    by (Some target) = zip_at (given_or_kept (component_path m.base.spec t.component) (path_of m.base.spec target)) (components m.base.spec) choices k c at long

still_long : (m : GroundMachine) (o : Option GroundTransition) (choices : List ℕ) → AreLong m choices → AreLong m (option_map_or (after_move m choices) o choices)
still_long m None choices long = long
still_long m (Some t) choices long = by t.target
  where
    by : (o : Option ℕ) → AreLong m (elim o [ None ↦ choices | Some target ↦ enter m.base.spec (component_path m.base.spec t.component) (path_of m.base.spec target) choices ])
    by None = long
    by (Some target) = zip_long (given_or_kept (component_path m.base.spec t.component) (path_of m.base.spec target)) (components m.base.spec) choices long

pub number_long : (m : GroundMachine) (choices : List ℕ) (k : ℕ) → AreLong m choices → AreLong m (after_number m choices k)
number_long m choices k long = still_long m (slice_get m.transitions k) choices long

pub set_long : (m : GroundMachine) (choices : List ℕ) (k n : ℕ) → AreLong m choices → AreLong m (set choices k n)
set_long m choices k n long = length-set choices k n ∙ long

turn_long : (m : GroundMachine) (w : World) (choices : List ℕ) (k : ℕ) → AreLong m choices → AreLong m (in_turn m w choices k)
turn_long m w choices k long = by (enabled_at m w (members.Transition k))
  where
    by : (b : Bool) → AreLong m (if b then after_number m choices k else choices)
    by true = number_long m choices k long
    by false = long

turns_long : (m : GroundMachine) (w : World) (choices : List ℕ) (ks : List ℕ) → AreLong m choices → AreLong m (fold (in_turn m w) choices ks)
turns_long m w choices [] long = long
turns_long m w choices (k ∷ ks) long = turns_long m w (in_turn m w choices k) ks (turn_long m w choices k long)

-- What is tried of a component tells what the transition does.

kept_or_given : (g : Option ℕ) (v child other : ℕ) → (other == child) ≡ false
    → (unwrap_or g v == child) ≡ (if v == child then unwrap_or g child == child else unwrap_or g other == child)
kept_or_given (Some p) v child other apart = by (v == child)
  where
    by : (b : Bool) → (p == child) ≡ (if b then p == child else p == child)
    by true = refl
    by false = refl
kept_or_given None v child other apart = by (v == child) refl
  where
    by : (b : Bool) → (v == child) ≡ b → (v == child) ≡ (if b then child == child else other == child)
    by true e = e ∙ sym (nat_eq_equiv.refl child)
    by false e = e ∙ sym apart

comes_stays : (g : Option ℕ) (child other : ℕ) → (other == child) ≡ false → (unwrap_or g other == child) ≡ true → (unwrap_or g child == child) ≡ true
comes_stays (Some p) child other apart h = h
comes_stays None child other apart h = absurd (true≢false (sym h ∙ apart))

module _ (m : GroundMachine) (choice : Choice) (k : ℕ) (there : choice.component < length (components m.base.spec)) where
  abbrev c : Component
  c = (within_get (components m.base.spec) choice.component there).0

  at : slice_get (components m.base.spec) choice.component ≡ Some c
  at = (within_get (components m.base.spec) choice.component there).1

  abbrev g : Option ℕ
  g = gift m c (slice_get m.transitions k)

  -- where it has this child before
  tried : (room : List ℕ) (before : ℕ) → AreLong m room → is_chosen (after_number m (set room choice.component before) k) choice ≡ (unwrap_or g before == choice.child)
  tried room before long =
      ap (λ (n : ℕ). n == choice.child) (gift_at m (slice_get m.transitions k) (set room choice.component before) choice.component c at (set_long m room choice.component before long)
      ∙ ap (unwrap_or g) (get_or-set_same room choice.component before 0 (omega (arith, there, long))))

  -- what comes has stayed
  pub stays_so : (one two : List ℕ) (other : ℕ) (stays comes : Bool) → AreLong m one → AreLong m two → (other == choice.child) ≡ false
      → stays ≡ is_chosen (after_number m (set one choice.component choice.child) k) choice → comes ≡ is_chosen (after_number m (set two choice.component other) k) choice
      → comes ≡ true → stays ≡ true
  stays_so one two other stays comes long longer apart a b h =
      a ∙ tried one choice.child long ∙ comes_stays g choice.child other apart (sym (tried two other longer) ∙ sym b ∙ h)

  one_turn : (choices one two : List ℕ) (other : ℕ) (stays comes : Bool) → AreLong m choices → AreLong m one → AreLong m two → (other == choice.child) ≡ false
      → stays ≡ is_chosen (after_number m (set one choice.component choice.child) k) choice → comes ≡ is_chosen (after_number m (set two choice.component other) k) choice
      → is_chosen (after_number m choices k) choice ≡ (if is_chosen choices choice then stays else comes)
  one_turn choices one two other stays comes long before longer apart a b =
      ap (λ (n : ℕ). n == choice.child) (gift_at m (slice_get m.transitions k) choices choice.component c at long)
      ∙ kept_or_given g (get_or choices choice.component 0) choice.child other apart
      ∙ (λ i. if is_chosen choices choice then sym (a ∙ tried one choice.child before) i else sym (b ∙ tried two other longer) i)

  -- one more transition
  pub told_turn : (e : Encoding) (moves : List ℕ) (i : ℕ) (one two : List ℕ) (other : ℕ) (stays comes : Bool) (r : ℕ) → i < length moves → k ≡ get_or moves i 0
      → AreLong m one → AreLong m two → (other == choice.child) ≡ false
      → stays ≡ is_chosen (after_number m (set one choice.component choice.child) k) choice → comes ≡ is_chosen (after_number m (set two choice.component other) k) choice
      → TellsOf m.base.spec e (λ w. if enabled_at m w (members.Transition k) then if is_chosen (fold (in_turn m w) w.choices (take i moves)) choice then stays else comes
      else is_chosen (fold (in_turn m w) w.choices (take i moves)) choice) r
      → TellsOf m.base.spec e (λ w. is_chosen (fold (in_turn m w) w.choices (take (i + 1) moves)) choice) r
  told_turn e moves i one two other stays comes r l is before longer apart a b h = tells_as m.base.spec e _ _ r (λ w world. by w world (enabled_at m w (members.Transition k)) refl) h
    where
      by : (w : World) → IsWorld m.base.spec w → (on : Bool) → enabled_at m w (members.Transition k) ≡ on
          → (if on then if is_chosen (fold (in_turn m w) w.choices (take i moves)) choice then stays else comes else is_chosen (fold (in_turn m w) w.choices (take i moves)) choice)
          ≡ is_chosen (fold (in_turn m w) w.choices (take (i + 1) moves)) choice
      by w world on e =
          let cs = fold (in_turn m w) w.choices (take i moves) in
          let long : AreLong m cs = turns_long m w w.choices (take i moves) (world_choices m.base.spec w world) in
          sym (ap (λ (ns : List ℕ). is_chosen ns choice)
          (fold_more (in_turn m w) w.choices moves i 0 l ∙ ap (in_turn m w cs) (sym is) ∙ ap (λ (z : Bool). if z then after_number m cs k else cs) e)
          ∙ last cs long on)
        where
          last : (cs : List ℕ) → AreLong m cs → (on : Bool) → is_chosen (if on then after_number m cs k else cs) choice ≡ (if on then if is_chosen cs choice then stays else comes else is_chosen cs choice)
          last cs long true = one_turn cs one two other stays comes long before longer apart a b
          last cs long false = refl

-- A transition by what it does.

pub transition_member : (m : GroundMachine) → StandsFor m → (k : ℕ) → k < length m.transitions → IsMember m (members.Transition k)
transition_member m stands k l =
    let x = within_get m.transitions k l in
    let t = beside (TransitionIs m.base.phrases m.base.spec) (transitions m.base.spec) m.transitions k x.0 stands.transitions_are x.1 in
    (groups.transition t.0, t.1)

-- one that does nothing
pub told_kept : (m : GroundMachine) (e : Encoding) (k : ℕ) (stays comes : Bool) (told : World → Bool) (r : ℕ) → not (beq stays comes) ≡ true → (comes ≡ true → stays ≡ true)
    → TellsOf m.base.spec e told r → TellsOf m.base.spec e (λ w. if enabled_at m w (members.Transition k) then if told w then stays else comes else told w) r
told_kept m e k stays comes told r apart so h =
    tells_as m.base.spec e told (λ w. if enabled_at m w (members.Transition k) then if told w then stays else comes else told w) r
    (λ w _. by stays comes apart so (enabled_at m w (members.Transition k)) (told w)) h
  where
    by : (a b : Bool) → not (beq a b) ≡ true → (b ≡ true → a ≡ true) → (on t : Bool) → t ≡ (if on then if t then a else b else t)
    by true true e so on t = absurd (true≢false (sym e))
    by false false e so on t = absurd (true≢false (sym e))
    by false true e so on t = absurd (true≢false (sym (so refl)))
    by true false e so false t = refl
    by true false e so true true = refl
    by true false e so true false = refl

-- one that gives the child to all, or to none
pub told_given : (m : GroundMachine) (e : Encoding) (k : ℕ) (stays comes : Bool) (told : World → Bool) (r : ℕ) → not (beq stays comes) ≡ false
    → TellsOf m.base.spec e (λ w. if enabled_at m w (members.Transition k) then stays else told w) r
    → TellsOf m.base.spec e (λ w. if enabled_at m w (members.Transition k) then if told w then stays else comes else told w) r
told_given m e k stays comes told r same h =
    tells_as m.base.spec e (λ w. if enabled_at m w (members.Transition k) then stays else told w) (λ w. if enabled_at m w (members.Transition k) then if told w then stays else comes else told w) r
    (λ w _. by (enabled_at m w (members.Transition k)) (told w)) h
  where
    equal : (a b : Bool) → not (beq a b) ≡ false → a ≡ b
    equal true true e = refl
    equal false false e = refl
    equal true false e = absurd (true≢false e)
    equal false true e = absurd (true≢false e)

    by : (on t : Bool) → (if on then stays else t) ≡ (if on then if t then stays else comes else t)
    by false t = refl
    by true true = refl
    by true false = equal stays comes same

-- all transitions were gone through
pub all_turns : (m : GroundMachine) (e : Encoding) (choice : Choice) (moves some : List ℕ) (r : ℕ) → some ≡ moves
    → TellsOf m.base.spec e (λ w. is_chosen (fold (in_turn m w) w.choices some) choice) r → TellsOf m.base.spec e (λ w. is_chosen (fold (in_turn m w) w.choices moves) choice) r
all_turns m e choice moves some r all h = subst (λ ks. TellsOf m.base.spec e (λ w. is_chosen (fold (in_turn m w) w.choices ks) choice) r) all h
