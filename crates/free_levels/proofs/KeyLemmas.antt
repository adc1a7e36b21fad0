-- What is said of keys stays where an arena keeps its functions.
use Rattle.std.proofs.Common.{◌≡◌, ℕ, ◌<◌, Bool, List, length, get_or, ◌∙◌, subst, arith, Option, None, Some, IfSome, IsSomeAnd}
use Rattle.bdd_core.specs.Diagram.{Diagram, IsRef}
use Rattle.bdd_core.specs.Calls.{Keeps, Represents}
use Rattle.free_levels.specs.declared.cell.Cell.{Cell}
use Rattle.free_levels.specs.declared.key.Key.{Key}
use Rattle.free_levels.specs.Keys.{Keys, AreExact, IsExact, key_at, IsMade, AreMade}

pub represents-keeps : (a b : Diagram) (F : (ℕ → Bool) → Bool) (r : ℕ) → Keeps a b → Represents a F r → Represents b F r
represents-keeps a b F r k h = record { is_ref = omega (arith, k.longer, h.is_ref); means = λ v. k.meanings_stay r v h.is_ref ∙ h.means v }

if_made : (a b : Diagram) (F : (ℕ → Bool) → Bool) (o : Option ℕ) → Keeps a b → IfSome o (Represents a F) → IfSome o (Represents b F)
if_made a b F None k h = h
if_made a b F (Some r) k h = represents-keeps a b F r k h

pub exact-keeps : (a b : Diagram) (keys : Keys) (kept : List Key) → Keeps a b → AreExact a keys kept → AreExact b keys kept
exact-keeps a b keys kept k all = record {
  count = all.count;
  levels = all.levels;
  functions = λ i less. if_made a b (keys.function i) (key_at kept i).exact k (all.functions i less);
}

some_made : (a b : Diagram) (o : Option ℕ) → Keeps a b → IsSomeAnd o (IsRef a) → IsSomeAnd o (IsRef b)
some_made a b None k h = h
some_made a b (Some r) k h = omega (arith, k.longer, h)

pub is_made_keeps : (a b : Diagram) (key : Key) → Keeps a b → IsMade a key → IsMade b key
is_made_keeps a b key k h = some_made a b key.exact k h

pub are_made_keeps : (a b : Diagram) (kept : List Key) (cell : Cell) → Keeps a b → AreMade a kept cell → AreMade b kept cell
are_made_keeps a b kept cell k h = record { fits = h.fits; made = λ i less. is_made_keeps a b (key_at kept (get_or cell.keys.items i 0)) k (h.made i less) }

-- a key whose function has been made
pub one-exact : (d : Diagram) (keys : Keys) (kept : List Key) (place exact : ℕ) → AreExact d keys kept → place < length kept → (key_at kept place).exact ≡ Some exact
    → IsExact d keys place (key_at kept place).level exact
one-exact d keys kept place exact all less is = record {
  fits = omega (arith, less, all.count);
  same_level = all.levels place less;
  represents = subst (λ o. IfSome o (Represents d (keys.function place))) is (all.functions place less);
}
