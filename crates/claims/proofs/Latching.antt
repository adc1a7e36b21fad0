-- What is latched changes no state, so no claim of states.
use Rattle.std.proofs.Common.{◌≡◌, true, ◌&&◌, List, [], ◌∷◌, map, fold, zip, Some, refl, ap, ◌∙◌, true≢false, sym}
use Rattle.std.specs.List.{list_any, list_all}
use Rattle.std.specs.Cmp.{first_so, second_so}
use Rattle.rsml_syntax.specs.declared.syntax.Spec.{Spec}
use Rattle.rsml_syntax.specs.declared.world.World.{World}
use Rattle.rsml_syntax.specs.declared.syntax.Decl.{Decl}
use Rattle.rsml_syntax.specs.declared.syntax.Decl.TheVariants as decl
use Rattle.rsml_syntax.specs.declared.syntax.Simple.{Simple}
use Rattle.rsml_syntax.specs.declared.syntax.Simple.TheVariants as simples
use Rattle.rsml_syntax.specs.declared.syntax.Phrase.{Phrase}
use Rattle.rsml_syntax.specs.declared.syntax.Phrase.TheVariants as phrases
use Rattle.rsml_syntax.specs.declared.syntax.Row.{Row}
use Rattle.rsml_syntax.specs.limits.Comparisons.{Indices}
use Rattle.rsml_syntax.specs.rules.Globals.{indices}
use Rattle.rsml_syntax.specs.rules.Tables.{table_truth}
use Rattle.rsml_syntax.specs.grammar.Written.{simple_of}
use Rattle.rsml_meaning.specs.Words.{Each}
use Rattle.rsml_meaning.specs.Instances.{globals_of, components}
use Rattle.rsml_meaning.specs.Active.{leads_on, active}
use Rattle.rsml_meaning.specs.Truth.{View, view, bare, learn, within, quantified, instance, simple, phrase, row_truth}
use Rattle.rsml_meaning.proofs.Sources.{view_active}
use Rattle.claim_syntax.specs.declared.claim.Claim.{Claim}
use Rattle.claim_syntax.specs.OfStates.{IsOfStates, asks_a_state}
use Rattle.claims.specs.Claims.{is_true, all_true}

learn_keeps : (d : Decl) (v : View) → (learn v d).names ≡ v.names
learn_keeps (decl.Macro x size rows) v = refl
learn_keeps (decl.Function x size cases) v = refl
learn_keeps _ v = refl

learned : (ds : List Decl) (v : View) → (fold learn v ds).names ≡ v.names
learned [] v = refl
learned (d ∷ ds) v = learned ds (learn v d) ∙ learn_keeps d v

view_names : (s : Spec) (w : World) → (view s w).names ≡ globals_of s
view_names s w = learned s.decls (bare s w)

-- Two views have the same names and the same active states.
record Agree (v u : View) : Type 0 where
  names : v.names ≡ u.names
  active : v.is_active ≡ u.is_active

module _ (v u : View) (a : Agree v u) where
  simple_agrees : (r : Indices) (x : Simple) → asks_a_state x ≡ true → simple v r x ≡ simple u r x
  simple_agrees r (simples.In path) h = λ t. a.active t (map (instance (a.names t) r) path)
  simple_agrees r (simples.Macro m) h = absurd (true≢false (sym h))
  simple_agrees r (simples.Compare left relation right) h = absurd (true≢false (sym h))
  simple_agrees r (simples.Function f relation right) h = absurd (true≢false (sym h))

  phrase_agrees : (r : Indices) (p : Phrase) → asks_a_state (simple_of p) ≡ true → phrase v r p ≡ phrase u r p
  phrase_agrees r (phrases.Plain x) h = simple_agrees r x h
  phrase_agrees r (phrases.Any name bound x) h = λ t. list_any (λ i. simple_agrees (quantified r name i) x h t) (indices (a.names t) (Some bound))
  phrase_agrees r (phrases.Every name bound x) h = λ t. list_all (λ i. simple_agrees (quantified r name i) x h t) (indices (a.names t) (Some bound))

  rows_agree : (r : Indices) (rows : List Row) → list_all (λ (row : Row). asks_a_state (simple_of row.phrase)) rows ≡ true → map (row_truth v r) rows ≡ map (row_truth u r) rows
  rows_agree r [] h = refl
  rows_agree r (row ∷ rows) h =
      let here = asks_a_state (simple_of row.phrase) in
      let rest = list_all (λ (row : Row). asks_a_state (simple_of row.phrase)) rows in
      let first = phrase_agrees r row.phrase (first_so here rest h) in
      let later = rows_agree r rows (second_so here rest h) in
      λ t. (first t, row.cells) ∷ later t

agree : (s : Spec) (w v : World) → w.choices ≡ v.choices → Agree (view s w) (view s v)
agree s w v e = record {
  names = view_names s w ∙ sym (view_names s v);
  active = view_active s w ∙ same ∙ sym (view_active s v);
}
  where
    same : active s w ≡ active s v
    same = λ t path. list_all (leads_on path) (zip (components s) (e t))

claim_alone : (s : Spec) (w v : World) → w.choices ≡ v.choices → (c : Claim) → IsOfStates c → is_true s w c ≡ is_true s v c
claim_alone s w v e c h = ap table_truth (rows_agree (view s w) (view s v) (agree s w v e) (within 0) c.rows h)

-- the truth of claims of states is a matter of states alone
pub states_alone : (s : Spec) (w v : World) → w.choices ≡ v.choices → (cs : List Claim) → Each IsOfStates cs → all_true s cs w ≡ all_true s cs v
states_alone s w v e [] h = refl
states_alone s w v e (c ∷ cs) h =
    let here = claim_alone s w v e c h.0 in
    let rest = states_alone s w v e cs h.1 in
    λ t. here t && rest t
