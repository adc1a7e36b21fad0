-- The states that checked claims ask for are there: those of the joined specification are, and they are the same.
use Rattle.std.proofs.Common.{◌≡◌, ℕ, suc, ◌+◌, ◌≤◌, true, List, [], ◌∷◌, ◌++◌, map, flat_map, length, Some, All, refl, sym, ap, ◌∙◌, subst, arith, slice_get, true≢false}
use Rattle.std.specs.List.{list_all}
use Rattle.std.specs.Cmp.{first_so, second_so}
use Rattle.std.proofs.lemmas.List.Concat.{flat_map-append}
use Rattle.rsml_syntax.specs.declared.syntax.Spec.{Spec}
use Rattle.rsml_syntax.specs.declared.syntax.Amount.{Amount}
use Rattle.rsml_syntax.specs.declared.syntax.Mention.{Mention}
use Rattle.rsml_syntax.specs.declared.syntax.Simple.{Simple}
use Rattle.rsml_syntax.specs.declared.syntax.Simple.TheVariants as simples
use Rattle.rsml_syntax.specs.declared.syntax.Phrase.{Phrase}
use Rattle.rsml_syntax.specs.declared.syntax.Phrase.TheVariants as phrases
use Rattle.rsml_syntax.specs.declared.syntax.Row.{Row}
use Rattle.rsml_syntax.specs.grammar.Written.{simple_of}
use Rattle.rsml_syntax.specs.rules.Globals.{Globals, indices}
use Rattle.rsml_syntax.specs.limits.Comparisons.{Indices}
use Rattle.rsml_meaning.specs.Words.{Each, at}
use Rattle.rsml_meaning.specs.Instances.{globals_of, states}
use Rattle.rsml_meaning.specs.Truth.{within, quantified, instance}
use Rattle.rsml_meaning.specs.Interfaces.{Definition, macro_table, definitions_of}
use Rattle.state_arrays.specs.Places.{path_place}
use Rattle.rsml_ground.specs.Scoped.{IndexFits, PathIsScoped, SimpleIsScoped, QuantifiedIsScoped, PhraseIsScoped, TableIsScoped, DefinitionIsScoped}
use Rattle.rsml_ground.proofs.PhraseScopes.{rules_scope_phrases}
use Rattle.phrase_builder.proofs.Lists.{each_to, each_here}
use Rattle.claim_syntax.specs.declared.claim.Claim.{Claim}
use Rattle.claim_syntax.specs.Joined.{macro_of, joined}
use Rattle.claim_syntax.specs.OfStates.{asks_a_state, IsOfStates}
use Rattle.ground_claims.specs.Checked.{AreChecked}
use Rattle.ground_claims.specs.Scoped.{AskedStatesAreScoped, ClaimIsScoped}
use Rattle.ground_claims.proofs.Instances.{same_many, same_indices, same_index, same_path, same_states, claims_change_no_constant}

module _ (s : Spec) (cs : List Claim) where
  abbrev t : Spec
  t = joined s cs

  abbrev g : Globals
  g = globals_of t

  abbrev h : Globals
  h = globals_of s

  -- What is there in the joined specification is there in the specification.

  path_there : (r : Indices) (path : List Mention) → PathIsScoped t r path → PathIsScoped s r path
  path_there r path x =
      let place : path_place (states t) (map (instance g r) path) ≡ path_place (states s) (map (instance h r) path) = λ i. path_place (same_states s cs i) (same_path g h (claims_change_no_constant s cs) r path i) in
      record {
        node = x.node;
        place = sym place ∙ x.place;
        fits = each_to (IndexFits t r) (IndexFits s r) (λ m l. subst (λ n. n ≤ 64) (same_index g h (claims_change_no_constant s cs) r m.index) l) path x.fits;
      }

  simple_there : (n : ℕ) (r : Indices) (b : Simple) → asks_a_state b ≡ true → SimpleIsScoped t n r b → SimpleIsScoped s 0 r b
  simple_there n r (simples.In path) e x = path_there r path x
  simple_there n r (simples.Macro m) e x = absurd (true≢false (sym e))
  simple_there n r (simples.Compare left relation right) e x = absurd (true≢false (sym e))
  simple_there n r (simples.Function f relation right) e x = absurd (true≢false (sym e))

  quantified_there : (n : ℕ) (r : ℕ → Indices) (bound : Amount) (b : Simple) → asks_a_state b ≡ true → QuantifiedIsScoped t n r bound b → QuantifiedIsScoped s 0 r bound b
  quantified_there n r bound b e x =
      let many_same = same_many g h (claims_change_no_constant s cs) (Some bound) in
      record {
        some = subst (λ n. 1 ≤ n) many_same x.some;
        few = subst (λ n. n ≤ 64) many_same x.few;
        each = subst (Each (λ i. SimpleIsScoped s 0 (r i) b)) (same_indices g h (claims_change_no_constant s cs) (Some bound))
            (each_to (λ i. SimpleIsScoped t n (r i) b) (λ i. SimpleIsScoped s 0 (r i) b) (λ i y. simple_there n (r i) b e y) (indices g (Some bound)) x.each);
      }

  phrase_there : (n : ℕ) (r : Indices) (p : Phrase) → asks_a_state (simple_of p) ≡ true → PhraseIsScoped t n r p → PhraseIsScoped s 0 r p
  phrase_there n r (phrases.Plain b) e x = simple_there n r b e x
  phrase_there n r (phrases.Any name bound b) e x = quantified_there n (quantified r name) bound b e x
  phrase_there n r (phrases.Every name bound b) e x = quantified_there n (quantified r name) bound b e x

  rows_there : (n : ℕ) (rows : List Row) → list_all (λ (row : Row). asks_a_state (simple_of row.phrase)) rows ≡ true
      → Each (λ row. PhraseIsScoped t n (within 0) row.phrase) rows → Each (λ row. AskedStatesAreScoped s row.phrase) rows
  rows_there n [] e x = tt
  rows_there n (row ∷ rows) e x =
      let here = asks_a_state (simple_of row.phrase) in
      let rest = list_all (λ (row : Row). asks_a_state (simple_of row.phrase)) rows in
      let asks = first_so here rest e in
      (record { asks = asks; scoped = phrase_there n (within 0) row.phrase asks x.0 }, rows_there n rows (second_so here rest e) x.1)

  -- each claim is a definition of the joined specification
  claims_defined : (ds : List Claim) → ((k : ℕ) (d : Definition) → slice_get (flat_map (definitions_of g) (map macro_of ds)) k ≡ Some d → (n : ℕ) × DefinitionIsScoped t n d)
      → Each IsOfStates ds → Each (ClaimIsScoped s) ds
  claims_defined [] scoped e = tt
  claims_defined (c ∷ ds) scoped e =
      let table : (n : ℕ) × TableIsScoped t n (within 0) c.rows = scoped 0 (macro_table (at c.name 0) c.rows) refl in
      (λ k d l. each_here (λ row. AskedStatesAreScoped s row.phrase) c.rows k d (rows_there table.0 c.rows e.0 table.1.rows_are) l, claims_defined ds (λ k d there. scoped (suc k) d there) e.1)

get_behind : {A : Type 0} (xs ys : List A) (k : ℕ) → slice_get (xs ++ ys) (length xs + k) ≡ slice_get ys k
get_behind [] ys k = ap (slice_get ys) (let e : 0 + k ≡ k = omega arith in e)
get_behind (x ∷ xs) ys k = let e : suc (length xs) + k ≡ suc (length xs + k) = omega arith in ap (slice_get (x ∷ (xs ++ ys))) e ∙ get_behind xs ys k

-- the states that checked claims ask for are there
pub claims_are_scoped : (s : Spec) (cs : List Claim) → AreChecked s cs → All (ClaimIsScoped s) cs
claims_are_scoped s cs a =
    let front = flat_map (definitions_of (g s cs)) s.decls in
    let back = flat_map (definitions_of (g s cs)) (map macro_of cs) in
    let parts = flat_map-append (definitions_of (g s cs)) s.decls (map macro_of cs) in
    let scoped = rules_scope_phrases (joined s cs) a.checked a.short in
    let each = claims_defined s cs cs (λ k d there. (length front + k, scoped.definition (length front + k) d (ap (λ ds. slice_get ds (length front + k)) parts ∙ get_behind front back k ∙ there))) a.of_states in
    λ k d l. each_here (ClaimIsScoped s) cs k d each l
