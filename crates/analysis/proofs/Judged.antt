-- What is found of the groups.
use Rattle.std.proofs.Common.{◌≡◌, ℕ, zero, suc, List, [], ◌∷◌, map, zip, filter, length, Some, slice_get, refl, ap, subst, arith}
use Rattle.std.specs.List.{AllZip}
use Rattle.std.proofs.lemmas.Option.{same_Some}
use Rattle.rsml_syntax.specs.declared.syntax.Spec.{Spec}
use Rattle.rsml_meaning.specs.Words.{Each}
use Rattle.rsml_meaning.specs.Groups.{Group, Sound}
use Rattle.rsml_meaning.specs.Findings.{IsVerdict}
use Rattle.rsml_meaning.specs.Report.{is_finding}
use Rattle.state_tree.proofs.Lists.{get_map, get_zip}
use Rattle.finding_texts.specs.declared.verdict.Verdict.{Verdict}
use Rattle.finding_texts.specs.declared.verdict.Verdict.TheVariants as verdicts
use Rattle.finding_texts.specs.Verdicts.{verdict_of, TellsWorld}
use Rattle.analysis.specs.Refusals.{is_found}

-- there is a verdict for each group
pub verdicts_long : (s : Spec) (gs : List Group) (vs : List Verdict) → AllZip (IsVerdict s) gs (map verdict_of vs) → length vs ≡ length gs
verdicts_long s [] [] h = refl
verdicts_long s [] (v ∷ vs) h = absurd h
verdicts_long s (g ∷ gs) [] h = absurd h
verdicts_long s (g ∷ gs) (v ∷ vs) h = ap suc (verdicts_long s gs vs h.1)

tells : (s : Spec) (g : Group) (v : Verdict) → IsVerdict s g (verdict_of v) → TellsWorld s v
tells s g verdicts.Sound h = tt
tells s g (verdicts.Missing w) h = h.such.is_world
tells s g (verdicts.Double w) h = h.1.such.is_world

-- the world that a verdict tells is one
pub tells_world : (s : Spec) (gs : List Group) (vs : List Verdict) (i : ℕ) (v : Verdict) → AllZip (IsVerdict s) gs (map verdict_of vs) → slice_get vs i ≡ Some v → TellsWorld s v
tells_world s gs [] i v h k = absurd (let no : ⊥ = cc in no)
tells_world s [] (u ∷ vs) i v h k = absurd h
tells_world s (g ∷ gs) (u ∷ vs) zero v h k = subst (TellsWorld s) (same_Some u v k) (tells s g u h.0)
tells_world s (g ∷ gs) (u ∷ vs) (suc i) v h k = tells_world s gs vs i v h.1 k

-- a group beside its verdict
pub judged_at : (gs : List Group) (vs : List Verdict) (i : ℕ) (g : Group) (v : Verdict) → slice_get gs i ≡ Some g → slice_get vs i ≡ Some v → slice_get (zip gs (map verdict_of vs)) i ≡ Some (g, verdict_of v)
judged_at gs vs i g v h k = get_zip gs (map verdict_of vs) i g (verdict_of v) h (get_map verdict_of vs i v k)

-- How many are found.

pub found_count : (vs : List Verdict) → length (filter is_finding (map verdict_of vs)) ≡ length (filter is_found vs)
found_count [] = refl
found_count (verdicts.Sound ∷ vs) = found_count vs
found_count (verdicts.Missing w ∷ vs) = ap suc (found_count vs)
found_count (verdicts.Double w ∷ vs) = ap suc (found_count vs)

-- where nothing is found all groups are sound
pub all_sound : (s : Spec) (gs : List Group) (vs : List Verdict) → AllZip (IsVerdict s) gs (map verdict_of vs) → length (filter is_found vs) ≡ 0 → Each (Sound s) gs
all_sound s [] vs h e = tt
all_sound s (g ∷ gs) [] h e = absurd h
all_sound s (g ∷ gs) (verdicts.Sound ∷ vs) h e = (h.0, all_sound s gs vs h.1 e)
all_sound s (g ∷ gs) (verdicts.Missing w ∷ vs) h e = absurd (omega (arith, e))
all_sound s (g ∷ gs) (verdicts.Double w ∷ vs) h e = absurd (omega (arith, e))

-- where all groups are sound nothing is found
pub none_found : (s : Spec) (gs : List Group) (vs : List Verdict) → AllZip (IsVerdict s) gs (map verdict_of vs) → Each (Sound s) gs → length (filter is_found vs) ≡ 0
none_found s gs [] h e = refl
none_found s [] (v ∷ vs) h e = absurd h
none_found s (g ∷ gs) (verdicts.Sound ∷ vs) h e = none_found s gs vs h.1 e.1
none_found s (g ∷ gs) (verdicts.Missing w ∷ vs) h e =
    let one = e.0 w h.0.such.is_world h.0.such.met in
    let none = h.0.such.count in
    absurd (omega (arith, one, none))
none_found s (g ∷ gs) (verdicts.Double w ∷ vs) h e =
    let one = e.0 w h.0.1.such.is_world h.0.1.such.met in
    let two = h.0.1.such.count in
    absurd (omega (arith, one, two))
