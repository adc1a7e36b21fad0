-- The lowest limit that is broken.
use Rattle.std.proofs.Common.{◌≡◌, ℕ, ◌+◌, ◌*◌, length, get_or, drop, map, ◌<◌, ◌≤◌, Bool, true, false, List, ◌∷◌, Option, Some, lit<, refl, sym, ap, ◌∙◌, arith}
use Rattle.std.specs.Prelude.{if◌then◌else◌}
use Rattle.std.proofs.lemmas.Bool.{lt-ltb, le-ltb}
use Rattle.std.proofs.lemmas.List.{drop_more}
use Rattle.rsml_syntax.specs.declared.syntax.Decl.TheVariants as decl
use Rattle.rsml_syntax.specs.declared.syntax.Spec.{Spec}
use Rattle.rsml_syntax.specs.rules.Globals.{globals, many}
use Rattle.rsml_syntax.specs.limits.Limits.{Limit, cells_at, first_over, shown}
use Rattle.rsml_syntax.specs.grammar.Parts.{Part, Declared, parts}
use Rattle.rsml_limits.specs.declared.counts.counted.Counted.{Counted}
use Rattle.rsml_limits.specs.declared.counts.counted.Counted.TheVariants as kinds
use Rattle.rsml_limits.specs.counts.Counting.{CountedNames, counted_names, count_of, cells_among}
use Rattle.rsml_limits.specs.counts.CountLimits.{limit_of}
use Rattle.rsml_names.specs.PreviousNames.{previous_names}
use Rattle.rsml_limits.proofs.Adding.{adds_same}
use Rattle.rsml_names.proofs.NamedAfter.{previous_is}

cells_same : (s : Spec) (part : Part) → cells_among (previous_names s) (globals s.decls) part ≡ cells_at s (globals s.decls) part
cells_same s (Declared place (decl.Input name size kind initial)) = ap (λ (b : Bool). many (globals s.decls) size * (if b then 2 else 1)) (previous_is s name)
cells_same s _ = refl

count_is : (k : Counted) (s : Spec) → count_of k (counted_names s) s ≡ (limit_of k).count s
count_is kinds.States s = refl
count_is kinds.Transitions s = refl
count_is kinds.Events s = refl
count_is kinds.Cells s = adds_same (cells_among (previous_names s) (globals s.decls)) (cells_at s (globals s.decls)) (cells_same s) (parts s)
count_is kinds.Definitions s = refl
count_is kinds.Rows s = refl

-- no greatest count is the greatest u64
below : (k : Counted) → (limit_of k).greatest < 18446744073709551615
below kinds.States = lit< tt
below kinds.Transitions = lit< tt
below kinds.Events = lit< tt
below kinds.Cells = lit< tt
below kinds.Definitions = lit< tt
below kinds.Rows = lit< tt

over_here : (s : Spec) (k : Counted) (ls : List Limit) (g n : ℕ) → g ≡ (limit_of k).greatest → n ≡ shown ((limit_of k).count s) → g < n →
    first_over s (limit_of k ∷ ls) ≡ Some ((limit_of k).number, n)
over_here s k ls g n e f h =
    let more : (limit_of k).greatest < (limit_of k).count s = omega arith in
    ap (λ (b : Bool). elim b [ true ↦ Some ((limit_of k).number, shown ((limit_of k).count s)) | false ↦ first_over s ls ]) (lt-ltb _ _ more)
    ∙ ap (λ (c : ℕ). Some ((limit_of k).number, c)) (sym f)

over_later : (s : Spec) (k : Counted) (ls : List Limit) (g n : ℕ) → g ≡ (limit_of k).greatest → n ≡ shown ((limit_of k).count s) → n ≤ g →
    first_over s (limit_of k ∷ ls) ≡ first_over s ls
over_later s k ls g n e f h =
    let less : (limit_of k).count s ≤ (limit_of k).greatest = omega (arith, below k) in
    ap (λ (b : Bool). elim b [ true ↦ Some ((limit_of k).number, shown ((limit_of k).count s)) | false ↦ first_over s ls ]) (le-ltb _ _ less)

-- a loop over what is counted: the limit at its place is broken, or the later ones decide
pub turn_found : (s : Spec) (w : CountedNames) (ks : List Counted) (i : ℕ) (d : Counted) (g n m : ℕ) (o : Option (ℕ × ℕ)) → w ≡ counted_names s → i < length ks →
    m ≡ (limit_of (get_or ks i d)).number → g ≡ (limit_of (get_or ks i d)).greatest → n ≡ shown (count_of (get_or ks i d) w s) → g < n →
    first_over s (map limit_of (drop i ks)) ≡ o → Some (m, n) ≡ o
turn_found s w ks i d g n m o ew h em eg en more e =
    let k = get_or ks i d in
    ap (λ (x : ℕ). Some (x, n)) em
    ∙ sym (over_here s k (map limit_of (drop (i + 1) ks)) g n eg (en ∙ ap (λ (v : CountedNames). shown (count_of k v s)) ew ∙ ap shown (count_is k s)) more)
    ∙ ap (λ (xs : List Counted). first_over s (map limit_of xs)) (sym (drop_more ks i d h))
    ∙ e

pub turn_passed : (s : Spec) (w : CountedNames) (ks : List Counted) (i : ℕ) (d : Counted) (g n : ℕ) (o : Option (ℕ × ℕ)) → w ≡ counted_names s → i < length ks →
    g ≡ (limit_of (get_or ks i d)).greatest → n ≡ shown (count_of (get_or ks i d) w s) → n ≤ g →
    first_over s (map limit_of (drop i ks)) ≡ o → first_over s (map limit_of (drop (i + 1) ks)) ≡ o
turn_passed s w ks i d g n o ew h eg en less e =
    let k = get_or ks i d in
    sym (over_later s k (map limit_of (drop (i + 1) ks)) g n eg (en ∙ ap (λ (v : CountedNames). shown (count_of k v s)) ew ∙ ap shown (count_is k s)) less)
    ∙ ap (λ (xs : List Counted). first_over s (map limit_of xs)) (sym (drop_more ks i d h))
    ∙ e
