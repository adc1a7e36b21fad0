-- Two lists of truths that agree on what a phrase names give it one truth.
use Rattle.std.proofs.Common.{◌≡◌, ℕ, Bool, ◌&&◌, ◌||◌, List, [], ◌∷◌, ◌++◌, map, Option, Some, None, if◌then◌else◌, ℤ, refl, ap, slice_get}
use Rattle.std.specs.List.{list_any, list_all}
use Rattle.rsml_syntax.specs.declared.world.World.{World}
use Rattle.rsml_syntax.specs.rules.Relations.{compare}
use Rattle.rsml_syntax.specs.rules.Tables.{table_truth}
use Rattle.rsml_meaning.specs.Words.{Each}
use Rattle.and_or_tables.specs.Ground.{known, ground_row}
use Rattle.and_or_tables.specs.declared.ground.GroundRow.{GroundRow}
use Rattle.rsml_ground.specs.declared.definitions.GroundGuard.{GroundGuard}
use Rattle.rsml_ground.specs.declared.definitions.GroundGuard.TheVariants as guards
use Rattle.rsml_ground.specs.declared.definitions.GroundCase.{GroundCase}
use Rattle.rsml_ground.specs.declared.definitions.Definition.{Definition}
use Rattle.rsml_ground.specs.declared.definitions.Definition.TheVariants as definition
use Rattle.rsml_ground.specs.declared.phrases.GroundPhrase.{GroundPhrase}
use Rattle.rsml_ground.specs.declared.phrases.GroundPhrase.TheVariants as phrases
use Rattle.rsml_ground.specs.Truths.{Grounded, sum_number, guard_truth, case_values, macro_truth, function_values, phrase_truth}
use Rattle.macros.specs.Guards.{phrases_of}
use Rattle.macros.specs.Named.{NamedBy, Named}

module _ (P : ℕ → Type 0) (ts us : List Bool) (same : (k : ℕ) → P k → known ts k ≡ known us k) where
  rows_alike : (rows : List GroundRow) → Each P (map (λ row. row.phrase) rows) → map (ground_row ts) rows ≡ map (ground_row us) rows
  rows_alike [] e = refl
  rows_alike (r ∷ rows) e = λ i. (same r.phrase e.0 i, r.cells) ∷ rows_alike rows e.1 i

  pub guard_alike : (g : GroundGuard) → Each P (phrases_of g) → guard_truth ts g ≡ guard_truth us g
  guard_alike guards.Always e = refl
  guard_alike (guards.Table table) e = ap table_truth (rows_alike table.rows e)

  values_alike : (cells : List ℤ) (cs : List GroundCase) → Each (λ g. Each P (phrases_of g)) (map (λ c. c.guard) cs) → case_values cells ts cs ≡ case_values cells us cs
  values_alike cells [] e = refl
  values_alike cells (c ∷ cs) e = λ i. (if guard_alike c.guard e.0 i then sum_number cells c.value ∷ [] else []) ++ values_alike cells cs e.1 i

  macro_alike : (d : Option Definition) → NamedBy P d → macro_truth ts d ≡ macro_truth us d
  macro_alike None e = refl
  macro_alike (Some (definition.Macro table)) e = guard_alike (guards.Table table) e.0
  macro_alike (Some (definition.Function cases)) e = refl

  function_alike : (cells : List ℤ) (d : Option Definition) → NamedBy P d → function_values cells ts d ≡ function_values cells us d
  function_alike cells None e = refl
  function_alike cells (Some (definition.Macro table)) e = refl
  function_alike cells (Some (definition.Function cases)) e = values_alike cells cases e

  any_alike : (ks : List ℕ) → Each P ks → list_any (known ts) ks ≡ list_any (known us) ks
  any_alike [] e = refl
  any_alike (k ∷ ks) e = λ i. same k e.0 i || any_alike ks e.1 i

  all_alike : (ks : List ℕ) → Each P ks → list_all (known ts) ks ≡ list_all (known us) ks
  all_alike [] e = refl
  all_alike (k ∷ ks) e = λ i. same k e.0 i && all_alike ks e.1 i

  pub phrase_alike : (g : Grounded) (w : World) (p : GroundPhrase) → Named P g.definitions p → phrase_truth g w ts p ≡ phrase_truth g w us p
  phrase_alike g w (phrases.In node) e = refl
  phrase_alike g w (phrases.Macro number) e = macro_alike (slice_get g.definitions number) e
  phrase_alike g w (phrases.Any numbers) e = any_alike numbers e
  phrase_alike g w (phrases.Every numbers) e = all_alike numbers e
  phrase_alike g w (phrases.Compare left relation right) e = refl
  phrase_alike g w (phrases.Function number relation constant) e =
      ap (λ (xs : List ℤ). list_any (λ x. compare relation x constant) xs) (function_alike w.cells (slice_get g.definitions number) e)
