-- The steps of the recursion, on diagrams.
use Rattle.std.proofs.Common.{◌≡◌, ℕ, ◌+◌, ◌-◌, ◌<◌, ◌≤◌, leb, Bool, true, false, if◌then◌else◌, List, [], ◌∷◌, refl, sym, ◌∙◌, ap, subst, arith, length, get_or, drop, inl, inr}
use Rattle.std.proofs.lemmas.Bool.{le-leb, lt-leb, cases_lt}
use Rattle.std.proofs.lemmas.Bool.Decides.{leb_tells}
use Rattle.std.proofs.lemmas.List.{drop_more, drop_all}
use Rattle.bdd_core.specs.Diagram.{Diagram, meaning}
use Rattle.bdd_core.specs.Calls.{Keeps, Represents}
use Rattle.bdd_core.proofs.CanonicalLemmas.{same_choice}
use Rattle.spelled_numbers.specs.declared.kept.Kept.{Kept}
use Rattle.spelled_numbers.specs.declared.weighted.Weighted.{Weighted}
use Rattle.spelled_numbers.specs.Sums.{total_weight}
use Rattle.spelled_numbers.specs.Table.{Table}
use Rattle.spelled_numbers.specs.Steps.{counts, counted, taken_off, no_term, weight_at, IsAtMost, AllRight, GainsOnly}

pub represents-keeps : (a b : Diagram) (F : (ℕ → Bool) → Bool) (r : ℕ) → Keeps a b → Represents a F r → Represents b F r
represents-keeps a b F r k h = record { is_ref = omega (arith, k.longer, h.is_ref); means = λ v. k.meanings_stay r v h.is_ref ∙ h.means v }

pub all-keeps : (a b : Diagram) (terms : List Weighted) (table : Table) → Keeps a b → AllRight a terms table → AllRight b terms table
all-keeps a b terms table k all = record { right = λ kept there e. represents-keeps a b _ _ k (all.right kept there e) }

-- one right answer more
pub all-gains : (d : Diagram) (terms : List Weighted) (old new : Table) (at room answer : ℕ) → AllRight d terms old → new.question ≡ old.question
    → GainsOnly old.slots new.slots (record { question = old.question; at = at; room = room; answer = answer }) → IsAtMost d (drop at terms) room answer → AllRight d terms new
all-gains d terms old new at room answer all same gains is_right = record {
  right = λ kept there e. elim (gains kept there) [
    | inl before ↦ all.right kept before (e ∙ same)
    | inr is ↦ subst (λ (k : Kept). IsAtMost d (drop k.at terms) k.room k.answer) (sym is) is_right
  ];
}

most_of : (b : Bool) (w : ℕ) → (if b then w else 0) ≤ w
most_of true w = omega arith
most_of false w = omega arith

pub counted_most : (v : ℕ → Bool) (terms : List Weighted) → counted v terms ≤ total_weight terms
counted_most v [] = omega arith
counted_most v (t ∷ ts) = omega (arith, counted_most v ts, most_of (counts (v t.level) t) t.weight)

pub taken_most : (terms : List Weighted) → taken_off terms ≤ total_weight terms
taken_most [] = omega arith
taken_most (t ∷ ts) = omega (arith, taken_most ts, most_of t.minus t.weight)

-- all weights together fit
pub at_most-all : (d : Diagram) (terms : List Weighted) (room r : ℕ) → Represents d (λ v. true) r → total_weight terms ≤ room → IsAtMost d terms room r
at_most-all d terms room r sure h = record { is_ref = sure.is_ref; means = λ v. sure.means v ∙ sym (le-leb (counted v terms) room (omega (arith, counted_most v terms, h))) }

-- a weight that does not fit
pub over : (d : Diagram) (terms : List Weighted) (weight room r : ℕ) → Represents d (λ v. false) r → room < weight → Represents d (λ v. leb (weight + counted v terms) room) r
over d terms weight room r never h = record { is_ref = never.is_ref; means = λ v. never.means v ∙ sym (lt-leb (weight + counted v terms) room (omega arith)) }

less_room : (w x room : ℕ) → w ≤ room → leb x (room - w) ≡ leb (w + x) room
less_room w x room h = elim (leb_tells x (room - w)) [
  | inl p ↦ p.0 ∙ sym (le-leb (w + x) room (omega (arith, p.1, h)))
  | inr p ↦ p.0 ∙ sym (lt-leb (w + x) room (omega (arith, p.1, h)))
]

-- a weight that fits
pub fits : (d : Diagram) (terms : List Weighted) (weight room r : ℕ) → weight ≤ room → IsAtMost d terms (room - weight) r → Represents d (λ v. leb (weight + counted v terms) room) r
fits d terms weight room r h is = record { is_ref = is.is_ref; means = λ v. is.means v ∙ less_room weight (counted v terms) room h }

-- the terms from one on: it, and those after it
pub from_one : (terms : List Weighted) (at : ℕ) → at < length terms → drop at terms ≡ get_or terms at no_term ∷ drop (at + 1) terms
from_one terms at less = drop_more terms at no_term less

-- where something is left, there is a term
pub some_left : (terms : List Weighted) (at rest room : ℕ) → rest ≡ total_weight (drop at terms) → room < rest → at < length terms
some_left terms at rest room e h = elim (cases_lt at (length terms)) [
  | inl less ↦ less
  | inr most ↦ absurd (omega (arith, h, e, ap total_weight (drop_all at terms most)))
]

picked : (b : Bool) (w x room : ℕ) → (if b then leb (w + x) room else leb x room) ≡ leb ((if b then w else 0) + x) room
picked true w x room = refl
picked false w x room = let e : x ≡ 0 + x = omega arith in ap (λ y. leb y room) e

-- a term before the rest
one_more : (a b : Diagram) (t : Weighted) (rest : List Weighted) (room out within r : ℕ) → IsAtMost a rest room out
    → Represents a (λ v. leb (t.weight + counted v rest) room) within
    → Represents b (λ v. if counts (v t.level) t then meaning a within v else meaning a out v) r → IsAtMost b (t ∷ rest) room r
one_more a b t rest room out within r o w h = record {
  is_ref = h.is_ref;
  means = λ v. h.means v ∙ same_choice _ _ _ _ _ _ refl (w.means v) (o.means v) ∙ picked (counts (v t.level) t) t.weight (counted v rest) room;
}

pub joined : (a b : Diagram) (terms : List Weighted) (at room out within r : ℕ) → at < length terms → IsAtMost a (drop (at + 1) terms) room out
    → Represents a (λ v. leb (weight_at terms at + counted v (drop (at + 1) terms)) room) within
    → Represents b (λ v. if counts (v (get_or terms at no_term).level) (get_or terms at no_term) then meaning a within v else meaning a out v) r
    → IsAtMost b (drop at terms) room r
joined a b terms at room out within r less o w h =
    subst (λ ts. IsAtMost b ts room r) (sym (from_one terms at less)) (one_more a b (get_or terms at no_term) (drop (at + 1) terms) room out within r o w h)
