-- What is found of groups, written one group after another.
use Rattle.std.proofs.Common.{◌≡◌, ℕ, ◌+◌, ◌<◌, ◌≤◌, List, [], ◌∷◌, map, flat_map, take, zip, length, Option, Some, slice_get, ap, subst, arith}
use Rattle.std.proofs.lemmas.List.{take_all}
use Rattle.rsml_syntax.specs.declared.syntax.Spec.{Spec}
use Rattle.rsml_meaning.specs.Groups.{Group, groups}
use Rattle.rsml_meaning.specs.Report.{finding}
use Rattle.state_tree.proofs.Lists.{within_get}
use Rattle.text_writer.specs.Writes.{WriterState, Writes}
use Rattle.finding_texts.specs.declared.verdict.Verdict.{Verdict}
use Rattle.finding_texts.specs.Verdicts.{verdict_of}
use Rattle.analysis.proofs.Places.{written_there}
use Rattle.analysis.proofs.Judged.{judged_at}

-- one group more, written over a specification that is this one
pub group_written : {first second third : WriterState} {old mid new : Option (List ℕ)} (s n : Spec) (vs : List Verdict) (i : ℕ) (v : Verdict) → n ≡ s → i < length (groups s) → slice_get vs i ≡ Some v
    → Writes first old (flat_map (finding s) (take i (zip (groups s) (map verdict_of vs)))) second mid
    → ((g : Group) → slice_get (groups n) i ≡ Some g → Writes second mid (finding n (g, verdict_of v)) third new)
    → Writes first old (flat_map (finding s) (take (i + 1) (zip (groups s) (map verdict_of vs)))) third new
group_written {first} {second} {third} {old} {mid} {new} s n vs i v e l is h put =
    let g = within_get (groups s) i l in
    let puts = subst (λ (t : Spec). (x : Group) → slice_get (groups t) i ≡ Some x → Writes second mid (finding t (x, verdict_of v)) third new) e put in
    written_there (finding s) (zip (groups s) (map verdict_of vs)) i (g.0, verdict_of v) (judged_at (groups s) vs i g.0 v g.1 is) h (puts g.0 g.1)

zip_few : {A B : Type 0} (xs : List A) (ys : List B) → length (zip xs ys) ≤ length xs
zip_few [] ys = omega arith
zip_few (x ∷ xs) [] = omega arith
zip_few (x ∷ xs) (y ∷ ys) = let l = zip_few xs ys in omega (arith, l)

-- behind the last group all is written
pub all_written : (s : Spec) (vs : List Verdict) (i : ℕ) → length (groups s) ≤ i
    → flat_map (finding s) (take i (zip (groups s) (map verdict_of vs))) ≡ flat_map (finding s) (zip (groups s) (map verdict_of vs))
all_written s vs i h =
    let l = zip_few (groups s) (map verdict_of vs) in
    ap (flat_map (finding s)) (take_all i (zip (groups s) (map verdict_of vs)) (omega (arith, l, h)))
