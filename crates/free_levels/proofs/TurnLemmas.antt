-- A turn of a sweep, whatever the keys are whose functions stand in the arena.
use Rattle.std.proofs.Common.{◌≡◌, ◌↔◌, ℕ, ◌<◌, Bool, true, false, List, length, get_or, sym, subst, ◌∙◌, true≢false, All}
use Rattle.bdd_core.specs.Diagram.{Diagram, meaning}
use Rattle.bdd_core.specs.Calls.{Keeps}
use Rattle.free_levels.specs.declared.cell.Cell.{Cell}
use Rattle.free_levels.specs.declared.key.Key.{Key}
use Rattle.free_levels.specs.Values.{is_in, TrueOff, IsForgotten}
use Rattle.free_levels.specs.Keys.{Keys, AreKeys, AreExact, IsCell, levels_of}
use Rattle.free_levels.specs.Stages.{is_left, FewerLeft, IsStage}
use Rattle.free_levels.proofs.KeyLemmas.{exact-keeps}
use Rattle.free_levels.proofs.StageLemmas.{stage-widen, stage-trans, stage-forget, level_of_cells}

abbrev none : ℕ → Bool
none level = false

-- nothing forgotten, widened
pub widen-none : (all : Keys) (gone : ℕ → Bool) (x y : List Bool) (F G : (ℕ → Bool) → Bool) → IsStage all (λ level. false) x y F G → IsStage all gone x y F G
widen-none all gone x y F G stage = stage-widen all none gone x y F G (λ level e. absurd (true≢false (sym e))) stage

pub fewer-trans : (x y z : List Bool) → FewerLeft x y → FewerLeft y z → FewerLeft x z
fewer-trans x y z p q = record { same_length = q.same_length ∙ p.same_length; stays = λ i e. q.stays i (p.stays i e) }

-- a key more, in the sweep of a cell
pub key-turn : (a b d : Diagram) (keys : List Key) (x y z : List Bool) (f g h : ℕ) → Keeps a b
    → ((all : Keys) → AreKeys all → AreExact a all keys → IsStage all (λ level. false) x y (meaning a f) (meaning b g))
    → ((all : Keys) → AreKeys all → AreExact b all keys → IsStage all (λ level. false) y z (meaning b g) (meaning d h))
    → (all : Keys) → AreKeys all → AreExact a all keys → IsStage all (λ level. false) x z (meaning a f) (meaning d h)
key-turn a b d keys x y z f g h k p q all are ex = stage-trans all none x y z (meaning a f) (meaning b g) (meaning d h) (p all are ex) (q all are (exact-keeps a b all keys k ex))

-- the end of the sweep of a cell
pub sweep-ends : (a b d : Diagram) (keys : List Key) (cell : Cell) (levels : List ℕ) (x y : List Bool) (f g r : ℕ) → levels ≡ cell.levels.items
    → ((k : ℕ) → k < length cell.keys.items → is_left y (get_or cell.keys.items k 0) ≡ false)
    → ((all : Keys) → AreKeys all → AreExact a all keys → IsStage all (λ level. false) x y (meaning a f) (meaning b g)) → IsForgotten b d g levels r
    → (all : Keys) → AreKeys all → AreExact a all keys → IsCell all cell → IsStage all (is_in cell.levels.items) x y (meaning a f) (meaning d r)
sweep-ends a b d keys cell levels x y f g r same done p gone all are ex is =
    stage-trans all (is_in cell.levels.items) x y y (meaning a f) (meaning b g) (meaning d r)
    (widen-none all (is_in cell.levels.items) x y (meaning a f) (meaning b g) (p all are ex))
    (stage-forget all cell y (meaning b g) (meaning d r) is done
    (subst (λ ls. (v : ℕ → Bool) → (meaning d r v ≡ true) ↔ TrueOff (meaning b g) ls v) same gone.means))

-- a cell more
pub cell-turn : (a b d : Diagram) (keys : List Key) (cells : List Cell) (i : ℕ) (cell : Cell) (x y z : List Bool) (f g h : ℕ) → Keeps a b → i < length cells → cell ≡ get_or cells i cell
    → ((all : Keys) → AreKeys all → AreExact a all keys → All (IsCell all) cells → IsStage all (levels_of cells) x y (meaning a f) (meaning b g))
    → ((all : Keys) → AreKeys all → AreExact b all keys → IsCell all cell → IsStage all (is_in cell.levels.items) y z (meaning b g) (meaning d h))
    → (all : Keys) → AreKeys all → AreExact a all keys → All (IsCell all) cells → IsStage all (levels_of cells) x z (meaning a f) (meaning d h)
cell-turn a b d keys cells i cell x y z f g h k less at p q all are ex cs =
    stage-trans all (levels_of cells) x y z (meaning a f) (meaning b g) (meaning d h) (p all are ex cs)
    (stage-widen all (is_in cell.levels.items) (levels_of cells) y z (meaning b g) (meaning d h) (λ level e. level_of_cells cells i cell level less at e)
    (q all are (exact-keeps a b all keys k ex) (subst (IsCell all) (sym at) (cs i cell less))))

-- a key more, after the cells
pub last-turn : (a b d : Diagram) (keys : List Key) (cells : List Cell) (x y z : List Bool) (f g h : ℕ) → Keeps a b
    → ((all : Keys) → AreKeys all → AreExact a all keys → All (IsCell all) cells → IsStage all (levels_of cells) x y (meaning a f) (meaning b g))
    → ((all : Keys) → AreKeys all → AreExact b all keys → IsStage all (λ level. false) y z (meaning b g) (meaning d h))
    → (all : Keys) → AreKeys all → AreExact a all keys → All (IsCell all) cells → IsStage all (levels_of cells) x z (meaning a f) (meaning d h)
last-turn a b d keys cells x y z f g h k p q all are ex cs =
    stage-trans all (levels_of cells) x y z (meaning a f) (meaning b g) (meaning d h) (p all are ex cs)
    (widen-none all (levels_of cells) y z (meaning b g) (meaning d h) (q all are (exact-keeps a b all keys k ex)))
