-- Values taken off at which keys contradict one another.
use Rattle.std.proofs.Common.{◌≡◌, ℕ, ◌+◌, ◌<◌, Bool, true, false, not, ◌&&◌, ◌||◌, List, All, Contains, length, get_or, refl, sym, ap, subst, ◌∙◌, true≢false, inl, inr, arith, Some, slice_get}
use Rattle.std.proofs.lemmas.Bool.{cases_eq}
use Rattle.std.proofs.lemmas.List.{get_or_default}
use Rattle.std.proofs.lemmas.Option.{slice_get_within}
use Rattle.linear_conflicts.specs.declared.row.Row.{Row}
use Rattle.linear_conflicts.specs.declared.range.Range.{Range}
use Rattle.linear_conflicts.specs.Rows.{AreInConflict}
use Rattle.bdd_core.specs.Diagram.{Diagram, IsRef, meaning}
use Rattle.bdd_core.specs.Calls.{Keeps, Represents}
use Rattle.spelled_numbers.specs.declared.slot.Slot.TheVariants.{Free}
use Rattle.keyed_levels.specs.Keyed.{KeyedWorlds, AreKeyed, Lawful, key_at}
use Rattle.settled_worlds.specs.declared.literal.Literal.{Literal}
use Rattle.settled_worlds.specs.declared.rows.Rows.{Rows}
use Rattle.settled_worlds.specs.Settled.{IsSameLawfully}
use Rattle.settled_worlds.specs.Conflicts.{literal_at, no_literal, numbers_at, AreRows, HasValue, HoldWorlds, IsSo, IsUnlike, IsWithout}

-- the first so many literals at these places have their values
abbrev pub HaveFirst : KeyedWorlds → List Literal → List ℕ → ℕ → (ℕ → Bool) → Type 0
HaveFirst k literals places count values = (i : ℕ) → i < count → HasValue k values (literal_at literals (get_or places i 0))

-- a level that is false where the key has its value
pub unlike_false : (k : KeyedWorlds) (literal : Literal) (d : Diagram) (level r : ℕ) → literal.truth ≡ false → level ≡ (key_at k.keyed literal.place).level
    → Represents d (λ values. values level) r → IsUnlike k literal d r
unlike_false k literal d level r truth own is = record {
  is_ref = is.is_ref;
  unless = λ values h. sym (ap values own) ∙ sym (is.means values) ∙ h ∙ sym truth;
}

not_false : (b : Bool) → not b ≡ false → b ≡ true
not_false true e = refl
not_false false e = absurd (true≢false e)

-- the same where it is true
pub unlike_true : (k : KeyedWorlds) (literal : Literal) (a d : Diagram) (level g r : ℕ) → literal.truth ≡ true → level ≡ (key_at k.keyed literal.place).level
    → Represents a (λ values. values level) g → Represents d (λ values. not (meaning a g values)) r → IsUnlike k literal d r
unlike_true k literal a d level g r truth own is other = record {
  is_ref = other.is_ref;
  unless = λ values h. sym (ap values own) ∙ sym (is.means values) ∙ not_false (meaning a g values) (sym (other.means values) ∙ h) ∙ sym truth;
}

first_false : (p q : Bool) → (p || q) ≡ false → p ≡ false
first_false true q e = absurd (true≢false e)
first_false false q e = refl

second_false : (p q : Bool) → (p || q) ≡ false → q ≡ false
second_false true q e = absurd (true≢false e)
second_false false q e = e

-- one more literal
pub first_more : (k : KeyedWorlds) (literals : List Literal) (places : List ℕ) (count : ℕ) (b c d : Diagram) (out other r : ℕ)
    → ((values : ℕ → Bool) → meaning b out values ≡ false → HaveFirst k literals places count values) → IsRef b out → Keeps b c
    → IsUnlike k (literal_at literals (get_or places count 0)) c other
    → Represents d (λ values. meaning c out values || meaning c other values) r
    → (values : ℕ → Bool) → meaning d r values ≡ false → HaveFirst k literals places (count + 1) values
first_more k literals places count b c d out other r have ref keeps unlike or values h i less =
    let either : (meaning c out values || meaning c other values) ≡ false = sym (or.means values) ∙ h in
    elim (cases_eq i count) [
      | inl same ↦ subst (λ j. HasValue k values (literal_at literals (get_or places j 0))) (sym same) (unlike.unless values (second_false (meaning c out values) (meaning c other values) either))
      | inr ne ↦ have values (sym (keeps.meanings_stay out values ref) ∙ first_false (meaning c out values) (meaning c other values) either) i (omega (arith, less, ne))
    ]

and_true : (p q : Bool) → (q ≡ false → ⊥) → (p && q) ≡ p
and_true true true h = refl
and_true true false h = absurd (h refl)
and_true false q h = refl

-- the literals at all places
pub without_all : (k : KeyedWorlds) (literals : List Literal) (places : List ℕ) (count : ℕ) (a b d : Diagram) (f out r : ℕ) → length places ≡ count
    → ((values : ℕ → Bool) → meaning b out values ≡ false → HaveFirst k literals places count values) → IsRef a f → Keeps a b
    → Represents d (λ values. meaning b f values && meaning b out values) r → IsWithout k literals places a d f r
without_all k literals places count a b d f out r all have ref keeps and = record {
  is_ref = and.is_ref;
  same = λ values never.
      and.means values
      ∙ and_true (meaning b f values) (meaning b out values) (λ h. never (λ place c.
      subst (λ p. HasValue k values (literal_at literals p)) (same_place place c) (have values h c.0 (let less : c.0 < length places = c.1 in omega (arith, less, all)))))
      ∙ keeps.meanings_stay f values ref;
}
  where
    same_place : (place : ℕ) (c : Contains places place) → get_or places c.0 0 ≡ place
    same_place place c = get_or_default places c.0 0 place c.1 ∙ c.2

-- what is taken off where rows are in conflict is lawful nowhere
pub conflict_off : (k : KeyedWorlds) (ranges : List Range) (rows : Rows) (core : List ℕ) (a d : Diagram) (f r : ℕ) → HoldWorlds k ranges → AreRows k rows
    → AreInConflict ranges rows.rows.items core → IsWithout k rows.literals.items core a d f r → IsSameLawfully a d k f r
conflict_off k ranges rows core a d f r hold are conflict less = record {
  is_ref = less.is_ref;
  same = λ values lawful. less.same values (λ have. conflict.contradict (numbers_at k values) (hold values) (λ place row c at.
      are.met place row at values (so values lawful place (below place row at) (have place c))));
}
  where
    below : (place : ℕ) (row : Row) → slice_get rows.rows.items place ≡ Some row → place < length rows.literals.items
    below place row at = omega (arith, slice_get_within rows.rows.items place row at, are.many)

    so : (values : ℕ → Bool) → Lawful k values → (place : ℕ) → place < length rows.literals.items → HasValue k values (literal_at rows.literals.items place)
        → IsSo k values (literal_at rows.literals.items place)
    so values lawful place within has = sym (lawful (literal_at rows.literals.items place).place (are.there place no_literal within)) ∙ has

-- the places of a core are places of literals
pub core_within : (k : KeyedWorlds) (rows : Rows) (core : List ℕ) (ranges : List Range) → AreRows k rows → AreInConflict ranges rows.rows.items core
    → All (λ place. place < length rows.literals.items) core
core_within k rows core ranges are conflict = λ i d less. subst (λ n. get_or core i d < n) (sym are.many) (conflict.places i d less)

-- a function that stays
pub same_kept : (a d : Diagram) (k : KeyedWorlds) (f : ℕ) → IsRef a f → Keeps a d → IsSameLawfully a d k f f
same_kept a d k f is keeps = record { is_ref = omega (arith, keeps.longer, is); same = λ values lawful. keeps.meanings_stay f values is }

-- the level of a key is one of the arena's
pub level_there : (k : KeyedWorlds) (place level levels : ℕ) → AreKeyed k → place < length k.keyed → level ≡ (key_at k.keyed place).level → levels ≡ length k.slots → level < levels
level_there k place level levels are less own room = omega (arith, own, room, slice_get_within k.slots (key_at k.keyed place).level Free (are.free place less))
