-- What stands for the text is true in the same worlds.
use Rattle.std.proofs.Common.{◌≡◌, ℕ, zero, suc, ◌<◌, Bool, true, false, ◌&&◌, ◌||◌, List, [], ◌∷◌, map, length, Some, All, refl, sym, ap, ◌∙◌, subst, slice_get, not-suc-le-zero, le_of_suc-le-suc}
use Rattle.std.specs.List.{AllZip, list_any, list_all}
use Rattle.std.proofs.lemmas.List.{length-map}
use Rattle.std.proofs.lemmas.Option.{slice_get-map, slice_get_within}
use Rattle.rsml_syntax.specs.declared.syntax.Spec.{Spec}
use Rattle.rsml_syntax.specs.declared.syntax.Amount.{Amount}
use Rattle.rsml_syntax.specs.declared.syntax.Mention.{Mention}
use Rattle.rsml_syntax.specs.declared.syntax.Simple.{Simple}
use Rattle.rsml_syntax.specs.declared.syntax.Simple.TheVariants as simples
use Rattle.rsml_syntax.specs.declared.syntax.Phrase.TheVariants as phrases
use Rattle.rsml_syntax.specs.declared.syntax.Row.{Row}
use Rattle.rsml_syntax.specs.declared.world.World.{World}
use Rattle.rsml_syntax.specs.text.Names.{Name}
use Rattle.rsml_syntax.specs.limits.Comparisons.{Indices}
use Rattle.rsml_syntax.specs.rules.Globals.{indices}
use Rattle.rsml_syntax.specs.rules.Tables.{table_truth}
use Rattle.rsml_meaning.specs.Instances.{State, globals_of, states}
use Rattle.rsml_meaning.specs.Active.{active}
use Rattle.rsml_meaning.specs.Truth.{View, bare, view, within, quantified, simple}
use Rattle.rsml_meaning.specs.Truth as meaning_of
use Rattle.rsml_meaning.proofs.Stable.{same_rest}
use Rattle.rsml_ground.specs.Truths.{is_active}
use Rattle.rsml_ground.specs.StandsFor.{IsNode}
use Rattle.rsml_ground.proofs.DeclaredLemmas.{path_is}
use Rattle.claim_syntax.specs.declared.claim.Claim.{Claim}
use Rattle.ground_claims.specs.declared.phrase.StatePhrase.TheVariants as state_phrases
use Rattle.ground_claims.specs.declared.claim.ClaimRow.{ClaimRow}
use Rattle.ground_claims.specs.declared.claim.GroundClaim.{GroundClaim}
use Rattle.ground_claims.specs.Truths.{row_truth}
use Rattle.ground_claims.specs.StandsFor.{AreStates, StateIs, StatesAre, PhraseIs, RowIs, ClaimIs}

-- the state of a path is active where the phrase is true
pub state_is : (s : Spec) (r : Indices) (path : List Mention) (node : ℕ) → IsNode s r path node → StateIs s r (simples.In path) node
state_is s r path node e = record {
  there = subst (λ n. node < n) (length-map (states s) (λ (x : State). x.path)) (slice_get_within (map (λ (x : State). x.path) (states s)) node _ (slice_get-map (λ (x : State). x.path) (states s) node ∙ e));
  truth = λ w. ap (active s w) (path_is s node _ e) ∙ sym (ap (λ (v : View). simple v r (simples.In path)) (same_rest s.decls (bare s w)));
}

states_there : (s : Spec) (r : ℕ → Indices) (b : Simple) (is ns : List ℕ) → StatesAre s r b is ns → All (λ node. node < length (states s)) ns
states_there s r b [] [] e k d l = absurd (not-suc-le-zero l)
states_there s r b (i ∷ is) (n ∷ ns) e zero d l = e.0.there
states_there s r b (i ∷ is) (n ∷ ns) e (suc k) d l = states_there s r b is ns e.1 k d (le_of_suc-le-suc l)
states_there s r b [] (n ∷ ns) e k d l = elim e [ ]
states_there s r b (i ∷ is) [] e k d l = elim e [ ]

module _ (s : Spec) (w : World) (r : ℕ → Indices) (b : Simple) where
  any_told : (is ns : List ℕ) → StatesAre s r b is ns → list_any (is_active s w) ns ≡ list_any (λ i. simple (view s w) (r i) b) is
  any_told [] [] e = refl
  any_told (i ∷ is) (n ∷ ns) e =
      let here = e.0.truth w in
      let rest = any_told is ns e.1 in
      λ j. here j || rest j
  any_told [] (n ∷ ns) e = elim e [ ]
  any_told (i ∷ is) [] e = elim e [ ]

  every_told : (is ns : List ℕ) → StatesAre s r b is ns → list_all (is_active s w) ns ≡ list_all (λ i. simple (view s w) (r i) b) is
  every_told [] [] e = refl
  every_told (i ∷ is) (n ∷ ns) e =
      let here = e.0.truth w in
      let rest = every_told is ns e.1 in
      λ j. here j && rest j
  every_told [] (n ∷ ns) e = elim e [ ]
  every_told (i ∷ is) [] e = elim e [ ]

names_are : (s : Spec) (w : World) → globals_of s ≡ (view s w).names
names_are s w = sym (ap (λ (v : View). v.names) (same_rest s.decls (bare s w)))

pub plain_is : (s : Spec) (b : Simple) (node : ℕ) → StateIs s (within 0) b node → PhraseIs s (phrases.Plain b) (state_phrases.Every (node ∷ []))
plain_is s b node e = record { there = one; truth = λ w. and_true (is_active s w node) ∙ e.truth w }
  where
    one : AreStates s (state_phrases.Every (node ∷ []))
    one zero d l = e.there
    one (suc k) d l = absurd (not-suc-le-zero (le_of_suc-le-suc l))

    and_true : (a : Bool) → (a && true) ≡ a
    and_true true = refl
    and_true false = refl

pub any_is : (s : Spec) (name : Name) (bound : Amount) (b : Simple) (ns : List ℕ) → StatesAre s (quantified (within 0) name) b (indices (globals_of s) (Some bound)) ns
    → PhraseIs s (phrases.Any name bound b) (state_phrases.Any ns)
any_is s name bound b ns e = record {
  there = states_there s (quantified (within 0) name) b (indices (globals_of s) (Some bound)) ns e;
  truth = λ w. any_told s w (quantified (within 0) name) b (indices (globals_of s) (Some bound)) ns e
      ∙ ap (λ g. list_any (λ i. simple (view s w) (quantified (within 0) name i) b) (indices g (Some bound))) (names_are s w);
}

pub every_is : (s : Spec) (name : Name) (bound : Amount) (b : Simple) (ns : List ℕ) → StatesAre s (quantified (within 0) name) b (indices (globals_of s) (Some bound)) ns
    → PhraseIs s (phrases.Every name bound b) (state_phrases.Every ns)
every_is s name bound b ns e = record {
  there = states_there s (quantified (within 0) name) b (indices (globals_of s) (Some bound)) ns e;
  truth = λ w. every_told s w (quantified (within 0) name) b (indices (globals_of s) (Some bound)) ns e
      ∙ ap (λ g. list_all (λ i. simple (view s w) (quantified (within 0) name i) b) (indices g (Some bound))) (names_are s w);
}

-- Rows and claims.

rows_there : (s : Spec) (rows : List Row) (xs : List ClaimRow) → AllZip (RowIs s) rows xs → All (λ x. AreStates s x.phrase) xs
rows_there s [] [] e k d l = absurd (not-suc-le-zero l)
rows_there s (row ∷ rows) (x ∷ xs) e zero d l = e.0.asked.there
rows_there s (row ∷ rows) (x ∷ xs) e (suc k) d l = rows_there s rows xs e.1 k d (le_of_suc-le-suc l)
rows_there s [] (x ∷ xs) e k d l = elim e [ ]
rows_there s (row ∷ rows) [] e k d l = elim e [ ]

rows_told : (s : Spec) (w : World) (rows : List Row) (xs : List ClaimRow) → AllZip (RowIs s) rows xs
    → map (row_truth (is_active s w)) xs ≡ map (meaning_of.row_truth (view s w) (within 0)) rows
rows_told s w [] [] e = refl
rows_told s w (row ∷ rows) (x ∷ xs) e =
    let here = e.0.asked.truth w in
    let rest = rows_told s w rows xs e.1 in
    λ i. (here i, e.0.cells i) ∷ rest i
rows_told s w [] (x ∷ xs) e = elim e [ ]
rows_told s w (row ∷ rows) [] e = elim e [ ]

pub claim_is : (s : Spec) (c : Claim) (x : GroundClaim) → AllZip (RowIs s) c.rows x.rows → ClaimIs s c x
claim_is s c x e = record { rows = e; there = rows_there s c.rows x.rows e; truth = λ w. ap table_truth (rows_told s w c.rows x.rows e) }
