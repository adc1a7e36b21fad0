-- Truths that agree on the first phrases give one truth to what rests on those alone. So the truths of all phrases can be
-- found one after another, and each is that of its phrase by the truths of all.
use Rattle.std.proofs.Common.{◌≡◌, ℕ, zero, suc, ◌+◌, ◌<◌, ◌≤◌, Bool, false, ◌&&◌, ◌||◌, List, [], ◌∷◌, ◌++◌, map, fold, length, take, drop, slice_get, Some, if◌then◌else◌, ℤ, All, refl, sym, ap, ◌∙◌, append_assoc, append-nil, arith}
use Rattle.std.specs.List.{list_any, list_all}
use Rattle.std.proofs.lemmas.List.{length-take-le, get_or-take, get_or_push, take_at, take-append-drop}
use Rattle.std.proofs.lemmas.Option.{same_Some}
use Rattle.rsml_syntax.specs.declared.world.World.{World}
use Rattle.rsml_syntax.specs.rules.Relations.{compare}
use Rattle.rsml_syntax.specs.rules.Tables.{table_truth}
use Rattle.rsml_meaning.specs.Words.{Each}
use Rattle.state_tree.proofs.Lists.{get_within}
use Rattle.and_or_tables.specs.Ground.{known, ground_row, ground_table}
use Rattle.and_or_tables.specs.Shape.{PhrasesBelow}
use Rattle.and_or_tables.specs.declared.ground.GroundRow.{GroundRow}
use Rattle.and_or_tables.specs.declared.ground.GroundTable.{GroundTable}
use Rattle.rsml_ground.specs.declared.definitions.GroundGuard.{GroundGuard}
use Rattle.rsml_ground.specs.declared.definitions.GroundGuard.TheVariants as guards
use Rattle.rsml_ground.specs.declared.definitions.GroundCase.{GroundCase}
use Rattle.rsml_ground.specs.declared.definitions.Definition.{Definition}
use Rattle.rsml_ground.specs.declared.definitions.Definition.TheVariants as definition
use Rattle.rsml_ground.specs.declared.phrases.GroundPhrase.{GroundPhrase}
use Rattle.rsml_ground.specs.declared.phrases.GroundPhrase.TheVariants as phrases
use Rattle.rsml_ground.specs.Truths.{Grounded, sum_number, guard_truth, case_values, macro_truth, function_values, phrase_truth, with_next, truths_in}
use Rattle.rsml_ground.specs.Rests.{GuardFits, CaseFits, DefinitionFits, RestsOn, Rest}

-- Truths that agree.

-- the lists agree on the first n phrases
abbrev pub Alike : ℕ → List Bool → List Bool → Type 0
Alike n ts us = (k : ℕ) → k < n → known ts k ≡ known us k

rows_alike : (n : ℕ) (ts us : List Bool) → Alike n ts us → (rows : List GroundRow) → All (λ row. row.phrase < n) rows → map (ground_row ts) rows ≡ map (ground_row us) rows
rows_alike n ts us h [] b = refl
rows_alike n ts us h (r ∷ rows) b =
    λ i. (h r.phrase (b 0 r (omega arith)) i, r.cells) ∷ rows_alike n ts us h rows (λ k d l. b (suc k) d (omega (arith, l))) i

pub table_alike : (n : ℕ) (ts us : List Bool) → Alike n ts us → (t : GroundTable) → PhrasesBelow n t → ground_table ts t ≡ ground_table us t
table_alike n ts us h t b = ap table_truth (rows_alike n ts us h t.rows b)

pub guard_alike : (n : ℕ) (ts us : List Bool) → Alike n ts us → (x : GroundGuard) → GuardFits n x → guard_truth ts x ≡ guard_truth us x
guard_alike n ts us h guards.Always b = refl
guard_alike n ts us h (guards.Table t) b = table_alike n ts us h t b.below

pub cases_alike : (n count : ℕ) (cells : List ℤ) (ts us : List Bool) → Alike n ts us → (cs : List GroundCase) → Each (CaseFits count n) cs → case_values cells ts cs ≡ case_values cells us cs
cases_alike n count cells ts us h [] b = refl
cases_alike n count cells ts us h (c ∷ cs) b =
    let here = guard_alike n ts us h c.guard b.0.guard in
    let rest = cases_alike n count cells ts us h cs b.1 in
    λ i. (if here i then sum_number cells c.value ∷ [] else []) ++ rest i

pub macro_alike : (n count : ℕ) (ts us : List Bool) → Alike n ts us → (d : Definition) → DefinitionFits count n d → macro_truth ts (Some d) ≡ macro_truth us (Some d)
macro_alike n count ts us h (definition.Macro t) b = table_alike n ts us h t b.below
macro_alike n count ts us h (definition.Function cs) b = refl

pub function_alike : (n count : ℕ) (cells : List ℤ) (ts us : List Bool) → Alike n ts us → (d : Definition) → DefinitionFits count n d → function_values cells ts (Some d) ≡ function_values cells us (Some d)
function_alike n count cells ts us h (definition.Macro t) b = refl
function_alike n count cells ts us h (definition.Function cs) b = cases_alike n count cells ts us h cs b

any_alike : (n : ℕ) (ts us : List Bool) → Alike n ts us → (ks : List ℕ) → Each (λ k. k < n) ks → list_any (known ts) ks ≡ list_any (known us) ks
any_alike n ts us h [] b = refl
any_alike n ts us h (k ∷ ks) b = λ i. h k b.0 i || any_alike n ts us h ks b.1 i

every_alike : (n : ℕ) (ts us : List Bool) → Alike n ts us → (ks : List ℕ) → Each (λ k. k < n) ks → list_all (known ts) ks ≡ list_all (known us) ks
every_alike n ts us h [] b = refl
every_alike n ts us h (k ∷ ks) b = λ i. h k b.0 i && every_alike n ts us h ks b.1 i

-- what rests on the first n phrases has one truth by both
pub phrase_alike : (g : Grounded) (w : World) (n count : ℕ) (ts us : List Bool) → Alike n ts us → (p : GroundPhrase) → RestsOn g.definitions count n p → phrase_truth g w ts p ≡ phrase_truth g w us p
phrase_alike g w n count ts us h (phrases.In node) b = refl
phrase_alike g w n count ts us h (phrases.Macro d) b =
    ap (macro_truth ts) b.1 ∙ macro_alike n count ts us h b.0 b.2 ∙ ap (macro_truth us) (sym b.1)
phrase_alike g w n count ts us h (phrases.Any ks) b = any_alike n ts us h ks b
phrase_alike g w n count ts us h (phrases.Every ks) b = every_alike n ts us h ks b
phrase_alike g w n count ts us h (phrases.Compare left relation right) b = refl
phrase_alike g w n count ts us h (phrases.Function d relation constant) b =
    let values = ap (function_values w.cells ts) b.1 ∙ function_alike n count w.cells ts us h b.0 b.2 ∙ ap (function_values w.cells us) (sym b.1) in
    ap (λ (xs : List ℤ). list_any (λ x. compare relation x constant) xs) values

-- The truths, one after another.

fold_append : {A B : Type 0} (f : B → A → B) (b : B) (xs ys : List A) → fold f b (xs ++ ys) ≡ fold f (fold f b xs) ys
fold_append f b [] ys = refl
fold_append f b (x ∷ xs) ys = fold_append f (f b x) xs ys

take_next : {A : Type 0} (xs : List A) (k : ℕ) (x : A) → slice_get xs k ≡ Some x → take (suc k) xs ≡ take k xs ++ (x ∷ [])
take_next [] k x h = absurd (let no : ⊥ = cc in no)
take_next (y ∷ xs) zero x h = ap (λ z. z ∷ []) (same_Some y x h)
take_next (y ∷ xs) (suc k) x h = ap (λ zs. y ∷ zs) (take_next xs k x h)

module _ (g : Grounded) (w : World) where
  -- the truths of these phrases, each by those before it
  abbrev of_phrases : List GroundPhrase → List Bool
  of_phrases ps = fold (with_next g w) [] ps

  -- the truths of the first phrases stay, and one for each further phrase follows
  grows : (ps : List GroundPhrase) (ts : List Bool) → (more : List Bool) × (fold (with_next g w) ts ps ≡ ts ++ more) × (length more ≡ length ps)
  grows [] ts = ([], sym (append-nil ts), refl)
  grows (p ∷ ps) ts =
      let r = grows ps (with_next g w ts p) in
      (phrase_truth g w ts p ∷ r.0, r.1 ∙ append_assoc ts (phrase_truth g w ts p ∷ []) r.0, ap suc r.2)

  count_of : (ps : List GroundPhrase) → length (of_phrases ps) ≡ length ps
  count_of ps = let r = grows ps [] in ap length r.1 ∙ r.2

  -- each phrase has a truth
  pub truths_count : length (truths_in g w) ≡ length g.phrases
  truths_count = count_of g.phrases

  -- the truths of the first phrases
  pub first_truths : (k : ℕ) → k ≤ length g.phrases → take k (truths_in g w) ≡ of_phrases (take k g.phrases)
  first_truths k l =
      let r = grows (drop k g.phrases) (of_phrases (take k g.phrases)) in
      let parts = ap of_phrases (sym (take-append-drop k g.phrases)) ∙ fold_append (with_next g w) [] (take k g.phrases) (drop k g.phrases) in
      ap (take k) (parts ∙ r.1) ∙ take_at (of_phrases (take k g.phrases)) r.0 k (count_of (take k g.phrases) ∙ length-take-le k g.phrases l)

  -- the truths up to a phrase are those before it, and its own by them
  pub next_truth : (k : ℕ) (p : GroundPhrase) → slice_get g.phrases k ≡ Some p → take (k + 1) (truths_in g w) ≡ with_next g w (take k (truths_in g w)) p
  next_truth k p h =
      let l = get_within g.phrases k p h in
      let next : k + 1 ≡ suc k = omega arith in
      let here = first_truths k (omega (arith, l)) in
      ap (λ n. take n (truths_in g w)) next
      ∙ first_truths (suc k) (omega (arith, l))
      ∙ ap of_phrases (take_next g.phrases k p h)
      ∙ fold_append (with_next g w) [] (take k g.phrases) (p ∷ [])
      ∙ ap (λ ts. with_next g w ts p) (sym here)

  -- the truths before a phrase are those of all, as far as they go
  pub front_alike : (k : ℕ) → Alike k (take k (truths_in g w)) (truths_in g w)
  front_alike k j l = get_or-take k (truths_in g w) j false l

  -- each truth is that of its phrase by those before it
  pub truth_by_front : (k : ℕ) (p : GroundPhrase) → slice_get g.phrases k ≡ Some p → known (truths_in g w) k ≡ phrase_truth g w (take k (truths_in g w)) p
  truth_by_front k p h =
      let l = get_within g.phrases k p h in
      let before = take k (truths_in g w) in
      let many : length before ≡ k = length-take-le k (truths_in g w) (let c = truths_count in omega (arith, l, c)) in
      sym (front_alike (k + 1) k (omega arith)) ∙ ap (λ ts. known ts k) (next_truth k p h) ∙ get_or_push before (phrase_truth g w before p) false k many

  -- each truth is that of its phrase by the truths of all
  pub truth_of_phrase : (count : ℕ) → Rest count g.definitions g.phrases → (k : ℕ) (p : GroundPhrase) → slice_get g.phrases k ≡ Some p → known (truths_in g w) k ≡ phrase_truth g w (truths_in g w) p
  truth_of_phrase count r k p h =
      truth_by_front k p h ∙ phrase_alike g w k count (take k (truths_in g w)) (truths_in g w) (front_alike k) p (r.phrase k p h)
