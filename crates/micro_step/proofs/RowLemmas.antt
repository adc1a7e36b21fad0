-- The truths of the rows of tables over numbers are those of the text.
use Rattle.std.proofs.Common.{◌≡◌, ℕ, zero, suc, ◌+◌, ◌*◌, ◌-◌, ◌<◌, ◌≤◌, Bool, List, [], ◌∷◌, map, length, drop, get_or, Option, Some, None, slice_get, refl, sym, ap, ◌∙◌, arith}
use Rattle.std.specs.Prelude.{if◌then◌else◌}
use Rattle.std.specs.List.{AllZip}
use Rattle.std.specs.Option.{option_map_or}
use Rattle.std.proofs.lemmas.List.{length-map, length-drop}
use Rattle.std.proofs.lemmas.Option.{slice_get_past}
use Rattle.rsml_syntax.specs.declared.world.World.{World}
use Rattle.rsml_syntax.specs.declared.syntax.Row.{Row}
use Rattle.rsml_syntax.specs.declared.syntax.Case.{Case}
use Rattle.rsml_syntax.specs.declared.syntax.Guard.{Guard}
use Rattle.rsml_syntax.specs.declared.syntax.Guard.TheVariants as written
use Rattle.rsml_syntax.specs.limits.Comparisons.{Indices}
use Rattle.rsml_meaning.specs.Words.{item_of}
use Rattle.rsml_meaning.specs.Truth.{phrase, view, within}
use Rattle.rsml_meaning.specs.Transitions.{TransitionInstance, transitions}
use Rattle.rsml_meaning.specs.Interfaces.{SendCaseInstance, macro_table, function_cases, definitions, send_cases}
use Rattle.rsml_meaning.specs.Interfaces as meaning_of
use Rattle.and_or_tables.specs.Ground.{known}
use Rattle.and_or_tables.specs.declared.ground.GroundRow.{GroundRow}
use Rattle.and_or_tables.proofs.Masked.{mask_room}
use Rattle.state_tree.proofs.Lists.{beside, as_long}
use Rattle.rsml_ground.specs.declared.definitions.GroundGuard.{GroundGuard}
use Rattle.rsml_ground.specs.declared.definitions.GroundGuard.TheVariants as guards
use Rattle.rsml_ground.specs.declared.definitions.GroundCase.{GroundCase}
use Rattle.rsml_ground.specs.declared.definitions.Definition.{Definition}
use Rattle.rsml_ground.specs.declared.definitions.Definition.TheVariants as definition
use Rattle.rsml_ground.specs.Truths.{Grounded, truths_in}
use Rattle.rsml_ground.specs.Grounded.{IsGrounded}
use Rattle.rsml_ground.specs.Rests.{GuardFits}
use Rattle.rsml_ground.specs.StandsFor.{RowIs, GuardIs, CaseIs, DefinitionIs}
use Rattle.rsml_ground.proofs.PhraseLemmas.{phrases_mean_the_text}
use Rattle.ground_members.specs.declared.transitions.GroundTransition.{GroundTransition}
use Rattle.ground_members.specs.declared.send_cases.GroundSendCase.{GroundSendCase}
use Rattle.ground_members.specs.Members.{TransitionIs, SendCaseIs}
use Rattle.ground_groups.specs.declared.group.Member.TheVariants as members
use Rattle.elaborate.specs.Machine.{GroundMachine, StandsFor}
use Rattle.micro_step.specs.Numbers.{ground_rows}
use Rattle.micro_step.specs.Rows.{guard_rows, case_rows, member_rows, bits_of}

-- Bits.

-- room for one more row
pub room_for_row : (truths : List Bool) (rows : List GroundRow) (k : ℕ) → length rows ≤ 64 → 0 < k → bits_of (map (λ row. known truths row.phrase) (drop k rows)) < 9223372036854775808
room_for_row truths rows k few some =
    mask_room (map (λ row. known truths row.phrase) (drop k rows))
    (omega (arith, length-map {A = GroundRow} (drop k rows) (λ row. known truths row.phrase), length-drop k rows))

first_row : (f : GroundRow → Bool) (rows : List GroundRow) (k : ℕ) (row : GroundRow) → k < length rows → row ≡ get_or rows k row → map f (drop k rows) ≡ f row ∷ map f (drop (suc k) rows)
first_row f [] k row l e = absurd (omega (arith, l))
first_row f (r ∷ rows) zero row l e = ap (λ (z : GroundRow). f z ∷ map f rows) (sym e)
first_row f (r ∷ rows) (suc k) row l e = first_row f rows k row (omega (arith, l)) e

-- one more row
pub one_more_row : (truths : List Bool) (rows : List GroundRow) (k : ℕ) (row : GroundRow) (truth : Bool) (rest bits : ℕ) → 0 < k → k ≤ length rows → row ≡ get_or rows (k - 1) row
    → truth ≡ known truths row.phrase → rest ≡ bits_of (map (λ row. known truths row.phrase) (drop k rows)) → bits ≡ (if truth then 1 else 0) + 2 * rest
    → bits ≡ bits_of (map (λ row. known truths row.phrase) (drop (k - 1) rows))
one_more_row truths rows k row truth rest bits some within at is of more =
    let f : GroundRow → Bool = λ row. known truths row.phrase in
    let next : suc (k - 1) ≡ k = omega (arith, some) in
    more
    ∙ ap (λ (b : Bool). (if b then 1 else 0) + 2 * rest) is
    ∙ ap (λ (n : ℕ). (if f row then 1 else 0) + 2 * n) (of ∙ ap (λ (n : ℕ). bits_of (map f (drop n rows))) (sym next))
    ∙ ap bits_of (sym (first_row f rows (k - 1) row (omega (arith, some, within)) at))

-- Rows and guards.

rows_mean : (g : Grounded) (w : World) → IsGrounded g → (r : Indices) (rows : List Row) (ys : List GroundRow) → AllZip (RowIs g.phrases g.spec r) rows ys
    → map (λ y. known (truths_in g w) y.phrase) ys ≡ map (λ row. phrase (view g.spec w) r row.phrase) rows
rows_mean g w e r [] [] z = refl
rows_mean g w e r (row ∷ rows) (y ∷ ys) z =
    let here = phrases_mean_the_text g w e r row.phrase y.phrase z.0.phrase in
    let rest = rows_mean g w e r rows ys z.1 in
    λ i. here i ∷ rest i
rows_mean g w e r [] (y ∷ ys) z = absurd z
rows_mean g w e r (row ∷ rows) [] z = absurd z

rows_of_guard : (g : Grounded) (w : World) → IsGrounded g → (r : Indices) (a : Guard) (b : GroundGuard) → GuardIs g.phrases g.spec r a b
    → ground_rows (truths_in g w) b ≡ guard_rows (view g.spec w) r a
rows_of_guard g w e r written.Always guards.Always z = refl
rows_of_guard g w e r (written.Table rows) (guards.Table t) z = rows_mean g w e r rows t.rows z
rows_of_guard g w e r written.Always (guards.Table t) z = absurd z
rows_of_guard g w e r (written.Table rows) guards.Always z = absurd z

-- Lists side by side.

none_beside : {A B : Type 0} (R : A → B → Type 0) (xs : List A) (ys : List B) → AllZip R xs ys → (k : ℕ) → length ys ≤ k → slice_get xs k ≡ None
none_beside R xs ys z k l = slice_get_past xs k (omega (arith, l, as_long R xs ys z))

-- Members.

module _ (m : GroundMachine) (w : World) (stands : StandsFor m) where
  pub transition_rows_are : (k : ℕ) (x : GroundTransition) → slice_get m.transitions k ≡ Some x
      → ground_rows (truths_in m.base w) x.guard ≡ member_rows m.base.spec w (members.Transition k)
  transition_rows_are k x at =
      let s = m.base.spec in
      let r = beside (TransitionIs m.base.phrases s) (transitions s) m.transitions k x stands.transitions_are at in
      rows_of_guard m.base w stands.grounded (within r.0.this) r.0.guard x.guard r.2.guard
      ∙ ap (λ (o : Option TransitionInstance). option_map_or (λ t. guard_rows (view s w) (within t.this) t.guard) o []) (sym r.1)

  pub transition_fits : (k : ℕ) (x : GroundTransition) → slice_get m.transitions k ≡ Some x → GuardFits (length m.base.phrases) x.guard
  transition_fits k x at = (beside (TransitionIs m.base.phrases m.base.spec) (transitions m.base.spec) m.transitions k x stands.transitions_are at).2.fits

  pub no_transition : (k : ℕ) → length m.transitions ≤ k → [] ≡ member_rows m.base.spec w (members.Transition k)
  no_transition k l =
      let s = m.base.spec in
      ap (λ (o : Option TransitionInstance). option_map_or (λ t. guard_rows (view s w) (within t.this) t.guard) o [])
      (sym (none_beside (TransitionIs m.base.phrases s) (transitions s) m.transitions stands.transitions_are k l))

  pub case_rows_are : (k : ℕ) (x : GroundSendCase) → slice_get m.send_cases k ≡ Some x
      → ground_rows (truths_in m.base w) x.guard ≡ member_rows m.base.spec w (members.SendCase k)
  case_rows_are k x at =
      let s = m.base.spec in
      let r = beside (SendCaseIs m.base.phrases s) (send_cases s) m.send_cases k x stands.cases_are at in
      rows_of_guard m.base w stands.grounded (within r.0.send.index) r.0.guard x.guard r.2.guard
      ∙ ap (λ (o : Option SendCaseInstance). option_map_or (λ c. guard_rows (view s w) (within c.send.index) c.guard) o []) (sym r.1)

  pub case_fits_phrases : (k : ℕ) (x : GroundSendCase) → slice_get m.send_cases k ≡ Some x → GuardFits (length m.base.phrases) x.guard
  case_fits_phrases k x at = (beside (SendCaseIs m.base.phrases m.base.spec) (send_cases m.base.spec) m.send_cases k x stands.cases_are at).2.fits

  pub no_case : (k : ℕ) → length m.send_cases ≤ k → [] ≡ member_rows m.base.spec w (members.SendCase k)
  no_case k l =
      let s = m.base.spec in
      ap (λ (o : Option SendCaseInstance). option_map_or (λ c. guard_rows (view s w) (within c.send.index) c.guard) o [])
      (sym (none_beside (SendCaseIs m.base.phrases s) (send_cases s) m.send_cases stands.cases_are k l))

  -- Functions.

  abbrev rows_at : Option meaning_of.Definition → ℕ → List Bool
  rows_at o place = option_map_or (λ d. case_rows (view m.base.spec w) d place) o []

  there : (f : ℕ) (d : Definition) → slice_get m.base.definitions f ≡ Some d
      → (e : meaning_of.Definition) × (slice_get (definitions m.base.spec) f ≡ Some e) × DefinitionIs m.base.phrases m.base.spec e d
  there f d at = beside (DefinitionIs m.base.phrases m.base.spec) (definitions m.base.spec) m.base.definitions f d stands.grounded.stand at

  pub no_definition : (f place : ℕ) → length m.base.definitions ≤ f → [] ≡ member_rows m.base.spec w (members.FunctionCase f place)
  no_definition f place l =
      ap (λ (o : Option meaning_of.Definition). rows_at o place)
      (sym (none_beside (DefinitionIs m.base.phrases m.base.spec) (definitions m.base.spec) m.base.definitions stands.grounded.stand f l))

  pub no_function : (f place : ℕ) (d : Definition) → ((cases : List GroundCase) → d ≡ definition.Function cases → ⊥) → slice_get m.base.definitions f ≡ Some d
      → [] ≡ member_rows m.base.spec w (members.FunctionCase f place)
  no_function f place d not at =
      let e = there f d at in
      by d e.0 not e.2 ∙ ap (λ (o : Option meaning_of.Definition). rows_at o place) (sym e.1)
    where
      by : (d : Definition) (e : meaning_of.Definition) → ((cases : List GroundCase) → d ≡ definition.Function cases → ⊥) → DefinitionIs m.base.phrases m.base.spec e d
          → [] ≡ case_rows (view m.base.spec w) e place
      by d (macro_table i rows) not is = refl
      by (definition.Function cases) (function_cases g) not is = absurd (not cases refl)
      by (definition.Macro t) (function_cases g) not is = absurd is

  pub no_function_case : (f place : ℕ) (cases : List GroundCase) → slice_get m.base.definitions f ≡ Some (definition.Function cases) → length cases ≤ place
      → [] ≡ member_rows m.base.spec w (members.FunctionCase f place)
  no_function_case f place cases at past =
      let e = there f (definition.Function cases) at in
      by e.0 e.2 ∙ ap (λ (o : Option meaning_of.Definition). rows_at o place) (sym e.1)
    where
      by : (e : meaning_of.Definition) → DefinitionIs m.base.phrases m.base.spec e (definition.Function cases) → [] ≡ case_rows (view m.base.spec w) e place
      by (macro_table i rows) is = refl
      by (function_cases g) is =
          ap (λ (o : Option (ℕ × Case)). option_map_or (λ (c : ℕ × Case). guard_rows (view m.base.spec w) (within g.function.index) (item_of c).guard) o [])
          (sym (none_beside (λ c x. CaseIs m.base.phrases m.base.spec (within g.function.index) (item_of c) x) g.cases cases is place past))

  pub function_rows_are : (f place : ℕ) (cases : List GroundCase) (x : GroundCase) → slice_get m.base.definitions f ≡ Some (definition.Function cases) → slice_get cases place ≡ Some x
      → ground_rows (truths_in m.base w) x.guard ≡ member_rows m.base.spec w (members.FunctionCase f place)
  function_rows_are f place cases x at one =
      let e = there f (definition.Function cases) at in
      by e.0 e.2 ∙ ap (λ (o : Option meaning_of.Definition). rows_at o place) (sym e.1)
    where
      by : (e : meaning_of.Definition) → DefinitionIs m.base.phrases m.base.spec e (definition.Function cases)
          → ground_rows (truths_in m.base w) x.guard ≡ case_rows (view m.base.spec w) e place
      by (macro_table i rows) is = absurd is
      by (function_cases g) is =
          let c = beside (λ c x. CaseIs m.base.phrases m.base.spec (within g.function.index) (item_of c) x) g.cases cases place x is one in
          rows_of_guard m.base w stands.grounded (within g.function.index) (item_of c.0).guard x.guard c.2.guard
          ∙ ap (λ (o : Option (ℕ × Case)). option_map_or (λ (c : ℕ × Case). guard_rows (view m.base.spec w) (within g.function.index) (item_of c).guard) o []) (sym c.1)
