-- What is written by numbers is what is written of the least break.
use Rattle.std.proofs.Common.{◌≡◌, ℕ, zero, suc, ◌+◌, ◌<◌, Bool, true, false, List, [], ◌∷◌, ◌++◌, Option, Some, Result, Ok, Err, find, cond, length, flat_map, if◌then◌else◌, slice_get, refl, sym, ap, ◌∙◌, subst, arith, append_assoc, append-nil, take}
use Rattle.std.specs.Prelude.{codes, decimal, All, IfOk, ◌↔◌}
use Rattle.std.specs.List.{position_from}
use Rattle.std.specs.Option.{option_map_or}
use Rattle.std.specs.Result.{IsOk}
use Rattle.std.proofs.lemmas.Option.{same_Some}
use Rattle.text_writer.specs.DraftState.{DraftState, empty, writer_state}
use Rattle.text_writer.specs.Writes.{Writes}
use Rattle.rsml_syntax.specs.declared.syntax.Spec.{Spec}
use Rattle.rsml_syntax.specs.limits.Limits.{Keeps}
use Rattle.rsml_meaning.specs.Words.{Each, Instance}
use Rattle.rsml_meaning.specs.Certified.{Certified}
use Rattle.rsml_meaning.specs.Instances.{events}
use Rattle.rsml_meaning.specs.Report.{world_text}
use Rattle.rsml_meaning.specs.Runs.{Reaction, IsRun}
use Rattle.rsml_meaning.specs.EventFiles.{Line}
use Rattle.rsml_meaning.proofs.rules.Scoped.{rules_give_scopes}
use Rattle.rsml_meaning.specs.Texts.{Text, text_line, instance_text}
use Rattle.rsml_meaning.specs.Transitions.{TransitionInstance, transitions}
use Rattle.rsml_meaning.specs.Worlds.{IsWorld}
use Rattle.state_tree.proofs.Lists.{get_within}
use Rattle.claim_syntax.specs.declared.claim.Claim.{Claim}
use Rattle.claim_syntax.specs.OfStates.{IsOfStates}
use Rattle.claims.specs.Inductive.{AreInductive}
use Rattle.claims.specs.Throughout.{AlwaysTrue}
use Rattle.claims.proofs.Runs.{inductive_claims_hold}
use Rattle.micro_step.specs.Places.{ArePlaces, items_where}
use Rattle.invariants.specs.declared.proof.Break.{Break}
use Rattle.invariants.specs.declared.proof.Proof.{Proof}
use Rattle.invariants.specs.declared.proof.Proof.TheVariants as proofs
use Rattle.invariants.specs.Proof.{IsProof, BreakIs}
use Rattle.proving.specs.Fitting.{FitsBreak, FitsProof}
use Rattle.proving.specs.Numbers.{take_text, break_text, proof_text, status_of}
use Rattle.proving.specs.Outputs.{ClaimsOutput}
use Rattle.proving.specs.Outputs as output
use Rattle.proving.specs.ProveText.{heading, event_part, take_line, moment_text, breaks_line, initial_line, refused_line}

-- The first that passes, by its place.

pub record IsFirst {A : Type 0} (test : A → Bool) (xs : List A) (place : ℕ) : Type 0 where
  pub item : A
  pub there : slice_get xs place ≡ Some item
  pub found : find test xs ≡ Some item

first_from : {A : Type 0} (test : A → Bool) (n k : ℕ) (xs : List A) → position_from test n xs ≡ Some k → (j : ℕ) × (k ≡ n + j) × IsFirst test xs j
first_from test n k [] h = absurd (let no : ⊥ = cc in no)
first_from {A} test n k (x ∷ xs) h = by (test x) refl h (first_from test (n + 1) k xs)
  where
    later : (j : ℕ) × (k ≡ n + 1 + j) × IsFirst test xs j → test x ≡ false → (j : ℕ) × (k ≡ n + j) × IsFirst test (x ∷ xs) j
    later r e = (
      suc r.0,
      let at = r.1 in omega (arith, at),
      record { item = r.2.item; there = r.2.there; found = ap (λ (b : Bool). cond b (Some x) (find test xs)) e ∙ r.2.found },
    )

    by : (b : Bool) → test x ≡ b → cond b (Some n) (position_from test (n + 1) xs) ≡ Some k
        → (position_from test (n + 1) xs ≡ Some k → (j : ℕ) × (k ≡ n + 1 + j) × IsFirst test xs j) → (j : ℕ) × (k ≡ n + j) × IsFirst test (x ∷ xs) j
    by true e f rest = (
      0,
      let same : n ≡ k = cc in omega (arith, same),
      record { item = x; there = refl; found = ap (λ (b : Bool). cond b (Some x) (find test xs)) e },
    )
    by false e f rest = later (rest f) e

pub first_is : {A : Type 0} (test : A → Bool) (k : ℕ) (xs : List A) → position_from test 0 xs ≡ Some k → IsFirst test xs k
first_is {A} test k xs h =
    let r = first_from test 0 k xs h in
    let at = r.1 in
    let same : r.0 ≡ k = omega (arith, at) in
    subst (IsFirst test xs) same r.2

-- What is taken.

taken_below : {A : Type 0} (all xs : List A) (ks : List ℕ) → ArePlaces all xs ks → All (λ k. k < length all) ks
taken_below all [] [] h = λ k d l. absurd (omega (arith, l))
taken_below all [] (k ∷ ks) h = absurd h
taken_below all (x ∷ xs) [] h = absurd h
taken_below {A} all (x ∷ xs) (k ∷ ks) h = by (taken_below all xs ks h.1)
  where
    by : All (λ j. j < length all) ks → All (λ j. j < length all) (k ∷ ks)
    by rest zero d l = get_within all k x h.0
    by rest (suc i) d l = rest i d (omega (arith, l))

taken_told : (s : Spec) (ts : List TransitionInstance) (ks : List ℕ) → ArePlaces (transitions s) ts ks → flat_map (take_text s) ks ≡ flat_map take_line ts
taken_told s [] [] h = refl
taken_told s [] (k ∷ ks) h = absurd h
taken_told s (t ∷ ts) [] h = absurd h
taken_told s (t ∷ ts) (k ∷ ks) h = λ i. option_map_or take_line (h.0 i) [] ++ taken_told s ts ks h.1 i

-- The least break, by its numbers.

module _ (s : Spec) (cs : List Claim) where
  break_fits : (b : Break) → BreakIs s cs b → FitsBreak s cs b
  break_fits b is = record {
    world = subst (IsWorld s) (sym is.is.world) is.least.such.may_come.is_world;
    taken = taken_below (transitions s) is.result.taken b.taken.items is.taken;
    claim = let f = first_is _ b.claim cs is.claim in get_within cs b.claim f.item f.there;
  }

  pub proof_fits : (p : Proof) → IsProof s cs p → FitsProof s cs p
  proof_fits proofs.Inductive h = tt
  proof_fits (proofs.Initial claim) h = let f = first_is _ claim cs h in get_within cs claim f.item f.there
  proof_fits (proofs.Breaks b) h = break_fits b h.1

  break_told : (b : Break) (is : BreakIs s cs b) → break_text s b ≡ moment_text s is.moment is.result.taken
  break_told b is = λ i.
      text_line (codes "  round " ++ (decimal (is.is.round i) ++ (codes " of " ++ option_map_or instance_text (is.is.start i) [])))
      ++ (text_line (codes "  events" ++ flat_map event_part (sym is.is.present i))
      ++ (world_text s (is.is.world i) ++ taken_told s is.result.taken b.taken.items is.taken i))

  module _ (keeps : Keeps s) (states : Each IsOfStates cs) (certified : Certified s) where
    always_true : AreInductive s cs → (lines : List Line) (rs : List Reaction) → IsRun s lines rs → AlwaysTrue s cs rs
    always_true h = inductive_claims_hold s cs (rules_give_scopes s keeps.rules) states h

    -- what was written of what is proved is what `prove` answers and writes
    pub proof_told : (p : Proof) → IsProof s cs p → ClaimsOutput s cs (status_of p) (heading s cs ++ proof_text s cs p)
    proof_told proofs.Inductive h = output.proved (record { certified = certified; inductive = h; always = always_true h }) refl refl
    proof_told (proofs.Initial claim) h =
        let f = first_is _ claim cs h in
        output.initial f.item certified f.found refl (ap (λ (o : Option Claim). heading s cs ++ (option_map_or initial_line o [] ++ refused_line)) f.there)
    proof_told (proofs.Breaks b) h =
        let is = h.1 in
        let f = first_is _ b.claim cs is.claim in
        output.breaks f.item is.moment is.result certified
        (record { initial = h.0; least = is.least; comes_to = is.comes_to; claim = f.found })
        refl
        (λ i. heading s cs ++ (option_map_or breaks_line (f.there i) [] ++ (break_told b is i ++ refused_line)))

-- The events that are present.

present_more : (p : ℕ → Bool) (n : ℕ) (xs : List Instance) (k : ℕ) (x : Instance) → slice_get xs k ≡ Some x
    → flat_map event_part (items_where p n (take k xs)) ++ (if p (n + k) then event_part x else []) ≡ flat_map event_part (items_where p n (take (suc k) xs))
present_more p n [] k x h = absurd (let no : ⊥ = cc in no)
present_more p n (y ∷ ys) zero x h = by (p n) (p (n + 0)) (ap p (let same : n ≡ n + 0 = omega arith in same))
  where
    here : y ≡ x
    here = cc

    by : (b c : Bool) → b ≡ c → [] ++ (if c then event_part x else []) ≡ flat_map event_part (if b then y ∷ [] else [])
    by true true e = ap event_part (sym here) ∙ sym (append-nil (event_part y))
    by true false e = absurd (let no : ⊥ = cc in no)
    by false true e = absurd (let no : ⊥ = cc in no)
    by false false e = refl
present_more p n (y ∷ ys) (suc k) x h = by (p n) (present_more p (suc n) ys k x h)
  where
    at : (if p (n + suc k) then event_part x else []) ≡ (if p (suc n + k) then event_part x else [])
    at = ap (λ (q : ℕ). if p q then event_part x else []) (let same : n + suc k ≡ suc n + k = omega arith in same)

    by : (b : Bool) → flat_map event_part (items_where p (suc n) (take k ys)) ++ (if p (suc n + k) then event_part x else []) ≡ flat_map event_part (items_where p (suc n) (take (suc k) ys))
        → flat_map event_part (if b then y ∷ items_where p (suc n) (take k ys) else items_where p (suc n) (take k ys)) ++ (if p (n + suc k) then event_part x else [])
        ≡ flat_map event_part (if b then y ∷ items_where p (suc n) (take (suc k) ys) else items_where p (suc n) (take (suc k) ys))
    by true rest = append_assoc (event_part y) _ _ ∙ ap (λ (t : Text). event_part y ++ t) (ap (λ (t : Text). flat_map event_part (items_where p (suc n) (take k ys)) ++ t) at ∙ rest)
    by false rest = ap (λ (t : Text). flat_map event_part (items_where p (suc n) (take k ys)) ++ t) at ∙ rest

-- those before one more event, and that one
pub one_present : (p : ℕ → Bool) (xs : List Instance) (k : ℕ) (x : Instance) → slice_get xs k ≡ Some x
    → flat_map event_part (items_where p 0 (take k xs)) ++ (if p k then codes " " ++ option_map_or instance_text (slice_get xs k) [] else [])
    ≡ flat_map event_part (items_where p 0 (take (k + 1) xs))
one_present p xs k x h =
    ap (λ (o : Option Instance). flat_map event_part (items_where p 0 (take k xs)) ++ (if p k then codes " " ++ option_map_or instance_text o [] else [])) h
    ∙ ap (λ (q : ℕ). flat_map event_part (items_where p 0 (take k xs)) ++ (if p q then event_part x else [])) (let same : k ≡ 0 + k = omega arith in same)
    ∙ present_more p 0 xs k x h
    ∙ ap (λ (q : ℕ). flat_map event_part (items_where p 0 (take q xs))) (let next : suc k ≡ k + 1 = omega arith in next)

-- what is written to an empty draft is what it gives
pub finished : {T E : Type 0} (items : T → List ℕ) (r : Result T E) (start end : DraftState) (t : List ℕ) → start ≡ empty → Writes (writer_state start) (Some start.text) t (writer_state end) (Some end.text)
    → IsOk r ↔ (end.whole ≡ true) → IfOk r (λ v. items v ≡ end.text) → IfOk r (λ v. items v ≡ t)
finished items (Ok v) start end t e h ok given =
    let written : end.text ≡ start.text ++ t = same_Some end.text (start.text ++ t) (h.all (ok.0 refl)) in
    given ∙ written ∙ ap (λ (d : DraftState). d.text ++ t) e
finished items (Err x) start end t e h ok given = tt
