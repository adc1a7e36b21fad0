-- Claims that turn false, one after another.
use Rattle.std.proofs.Common.{◌≡◌, ℕ, ◌+◌, ◌<◌, Bool, true, false, not, ◌&&◌, ◌||◌, List, [], ◌∷◌, map, take, length, get_or, refl, sym, ap, ◌∙◌, subst, true≢false, arith}
use Rattle.std.specs.List.{list_all}
use Rattle.std.proofs.lemmas.List.Folds.{list_all-map, list_all_more, list_all_at}
use Rattle.std.proofs.lemmas.Option.{slice_get-get_or}
use Rattle.rsml_syntax.specs.declared.syntax.Spec.{Spec}
use Rattle.rsml_syntax.specs.declared.world.World.{World}
use Rattle.elaborate.specs.Machine.{GroundMachine}
use Rattle.ground_claims.specs.declared.claim.GroundClaim.{GroundClaim}
use Rattle.guard_encode.specs.Encoding.{Encoding, Keeps, Tells}
use Rattle.invariants.specs.Asked.{all_hold, turn_false}
use Rattle.invariants.specs.Told.{TellsOf, TellAll, TellClaims, all_at, true_after}
use Rattle.invariants.proofs.ToldLemmas.{tells_as, tells_and, tells_on, zip_at, zip_long}

-- Truths one after another.

-- what is told of one and of the first others
abbrev pub AndFront : Encoding → Encoding → ℕ → List ℕ → ℕ → ℕ → Type 0
AndFront first e one others i r = (s : Spec) (truth : World → Bool) (truths : List (World → Bool)) → TellsOf s first truth one → TellAll s first truths others
    → TellsOf s e (λ w. truth w && all_at (take i truths) w) r

pub and_none : (e : Encoding) (one : ℕ) (others : List ℕ) → AndFront e e one others 0 one
and_none e one others s truth truths h all = tells_as s e truth (λ w. truth w && true) one (λ w _. by (truth w)) h
  where
    by : (b : Bool) → b ≡ (b && true)
    by true = refl
    by false = refl

pub and_more : (first old new : Encoding) (one : ℕ) (others : List ℕ) (i all other d r : ℕ) → i < length others → other ≡ get_or others i d → Keeps first old
    → ((t u : World → Bool) → Tells old t all → Tells old u other → Tells new (λ w. t w && u w) r)
    → AndFront first old one others i all → AndFront first new one others (i + 1) r
and_more first old new one others i all other d r l is keeps joined before s truth truths h rest =
    let many = zip_long (TellsOf s first) truths others rest in
    let inside : i < length truths = omega (arith, l, many) in
    let t : World → Bool = get_or truths i truth in
    let there : TellsOf s first t other = subst (TellsOf s first t) (sym is)
    (zip_at (TellsOf s first) truths others i t (get_or others i d) rest (slice_get-get_or truths i truth inside) (slice_get-get_or others i d l)) in
    tells_as s new (λ w. (truth w && all_at (take i truths) w) && t w) (λ w. truth w && all_at (take (i + 1) truths) w) r
    (λ w _. assoc (truth w) (all_at (take i truths) w) (t w) ∙ ap (λ (b : Bool). truth w && b) (sym (list_all_more (λ (u : World → Bool). u w) truths i truth inside)))
    (tells_and s old new (λ w. truth w && all_at (take i truths) w) t all other r joined (before s truth truths h rest) (tells_on s first old t other keeps there))
  where
    assoc : (a b c : Bool) → ((a && b) && c) ≡ (a && (b && c))
    assoc true b c = refl
    assoc false b c = refl

pub and_all : (first e : Encoding) (one : ℕ) (others : List ℕ) (i r : ℕ) → ((s : Spec) (truths : List (World → Bool)) → TellAll s first truths others → take i truths ≡ truths)
    → AndFront first e one others i r
    → (s : Spec) (truth : World → Bool) (truths : List (World → Bool)) → TellsOf s first truth one → TellAll s first truths others → TellsOf s e (λ w. truth w && all_at truths w) r
and_all first e one others i r whole h s truth truths one_told all =
    tells_as s e (λ w. truth w && all_at (take i truths) w) (λ w. truth w && all_at truths w) r (λ w _. ap (λ us. truth w && all_at us w) (whole s truths all)) (h s truth truths one_told all)

-- Claims.

-- their truths, before any transition
abbrev pub truths_of : GroundMachine → List GroundClaim → List (World → Bool)
truths_of m claims = map (λ claim. true_after m [] claim) claims

pub told_truths : (m : GroundMachine) (e : Encoding) (claims : List GroundClaim) (rs : List ℕ) → TellClaims m e [] claims rs → TellAll m.base.spec e (truths_of m claims) rs
told_truths m e [] [] z = tt
told_truths m e [] (r ∷ rs) z = absurd z
told_truths m e (c ∷ claims) [] z = absurd z
told_truths m e (c ∷ claims) (r ∷ rs) z = (z.0, told_truths m e claims rs z.1)

truths_hold : (m : GroundMachine) (claims : List GroundClaim) (w : World) → all_at (truths_of m claims) w ≡ all_hold m.base.spec claims w
truths_hold m claims w = list_all-map (λ (truth : World → Bool). truth w) (λ claim. true_after m [] claim) claims

-- all are true, and not all of the first are after these transitions
abbrev pub front_false : GroundMachine → List GroundClaim → List ℕ → ℕ → World → Bool
front_false m claims moves n w = all_hold m.base.spec claims w && not (list_all (λ claim. true_after m moves claim w) (take n claims))

-- of no claims
pub none_false : (m : GroundMachine) (e : Encoding) (claims : List GroundClaim) (moves : List ℕ) (r : ℕ) → TellsOf m.base.spec e (λ w. false) r → TellsOf m.base.spec e (front_false m claims moves 0) r
none_false m e claims moves r h = tells_as m.base.spec e (λ w. false) (front_false m claims moves 0) r (λ w _. by (all_hold m.base.spec claims w)) h
  where
    by : (a : Bool) → false ≡ (a && false)
    by true = refl
    by false = refl

-- of one more
pub one_false : (m : GroundMachine) (e : Encoding) (claims : List GroundClaim) (moves : List ℕ) (n : ℕ) (claim : GroundClaim) (r : ℕ) → n < length claims → claim ≡ get_or claims n claim
    → TellsOf m.base.spec e (λ w. front_false m claims moves n w || ((not (true_after m moves claim w) && true_after m [] claim w) && all_at (truths_of m claims) w)) r
    → TellsOf m.base.spec e (front_false m claims moves (n + 1)) r
one_false m e claims moves n claim r l is h = tells_as m.base.spec e _ (front_false m claims moves (n + 1)) r (λ w _. same w) h
  where
    by : (a p q b : Bool) → (a ≡ true → b ≡ true) → ((a && not p) || ((not q && b) && a)) ≡ (a && not (p && q))
    by false p true b k = refl
    by false p false true k = refl
    by false p false false k = refl
    by true true true b k = refl
    by true true false b k = ap (λ (z : Bool). (true && z) && true) (k refl)
    by true false q b k = refl

    holds : (w : World) → all_hold m.base.spec claims w ≡ true → true_after m [] claim w ≡ true
    holds w all = cases (true_after m [] claim w) refl
      where
        cases : (b : Bool) → true_after m [] claim w ≡ b → true_after m [] claim w ≡ true
        cases true e = e
        cases false e = absurd (true≢false (sym all ∙ list_all_at (λ c. true_after m [] c w) claims n claim l (ap (λ c. true_after m [] c w) (sym is) ∙ e)))

    same : (w : World) → (front_false m claims moves n w || ((not (true_after m moves claim w) && true_after m [] claim w) && all_at (truths_of m claims) w)) ≡ front_false m claims moves (n + 1) w
    same w =
        let a = all_hold m.base.spec claims w in
        let p = list_all (λ c. true_after m moves c w) (take n claims) in
        ap (λ (z : Bool). (a && not p) || ((not (true_after m moves claim w) && true_after m [] claim w) && z)) (truths_hold m claims w)
        ∙ by a p (true_after m moves claim w) (true_after m [] claim w) (holds w)
        ∙ ap (λ (c : GroundClaim). a && not (p && true_after m moves c w)) is
        ∙ ap (λ (z : Bool). a && not z) (sym (list_all_more (λ c. true_after m moves c w) claims n claim l))

-- of all
pub all_false : (m : GroundMachine) (e : Encoding) (claims : List GroundClaim) (moves : List ℕ) (n r : ℕ) → take n claims ≡ claims
    → TellsOf m.base.spec e (front_false m claims moves n) r → TellsOf m.base.spec e (turn_false m claims moves) r
all_false m e claims moves n r whole h =
    tells_as m.base.spec e (front_false m claims moves n) (turn_false m claims moves) r
    (λ w _. ap (λ (cs : List GroundClaim). all_hold m.base.spec claims w && not (list_all (λ c. true_after m moves c w) cs)) whole) h
