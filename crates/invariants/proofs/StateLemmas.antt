-- States, and what is asked of several, one after another.
use Rattle.std.proofs.Common.{◌≡◌, ℕ, ◌+◌, ◌<◌, Bool, ◌&&◌, ◌||◌, List, take, length, get_or, sym, ap, ◌∙◌}
use Rattle.std.specs.List.{list_any, list_all}
use Rattle.std.proofs.lemmas.List.Folds.{list_all_more, list_any_more}
use Rattle.rsml_syntax.specs.declared.syntax.Spec.{Spec}
use Rattle.rsml_syntax.specs.declared.world.World.{World}
use Rattle.rsml_ground.specs.declared.choices.Choice.{Choice}
use Rattle.rsml_ground.specs.Choices.{TellActivity, is_chosen}
use Rattle.elaborate.specs.Machine.{GroundMachine}
use Rattle.guard_encode.specs.Encoding.{Encoding, Keeps, Tells}
use Rattle.micro_step.proofs.MicroLemmas.{choices_are}
use Rattle.invariants.specs.Moves.{after, LeaveWorlds}
use Rattle.invariants.specs.Told.{TellsOf, active_after}
use Rattle.invariants.proofs.ToldLemmas.{tells_and, tells_as, tells_on}

-- one more of which each is true
pub all_more : {A : Type 0} (s : Spec) (e : Encoding) (truth : World → A → Bool) (xs : List A) (i : ℕ) (x d : A) (r : ℕ) → i < length xs → x ≡ get_or xs i d
    → TellsOf s e (λ w. list_all (truth w) (take i xs) && truth w x) r → TellsOf s e (λ w. list_all (truth w) (take (i + 1) xs)) r
all_more s e truth xs i x d r l is h =
    tells_as s e (λ w. list_all (truth w) (take i xs) && truth w x) (λ w. list_all (truth w) (take (i + 1) xs)) r
    (λ w _. ap (λ y. list_all (truth w) (take i xs) && truth w y) is ∙ sym (list_all_more (truth w) xs i d l)) h

-- one more of which some is true
pub any_more : {A : Type 0} (s : Spec) (e : Encoding) (truth : World → A → Bool) (xs : List A) (i : ℕ) (x d : A) (r : ℕ) → i < length xs → x ≡ get_or xs i d
    → TellsOf s e (λ w. list_any (truth w) (take i xs) || truth w x) r → TellsOf s e (λ w. list_any (truth w) (take (i + 1) xs)) r
any_more s e truth xs i x d r l is h =
    tells_as s e (λ w. list_any (truth w) (take i xs) || truth w x) (λ w. list_any (truth w) (take (i + 1) xs)) r
    (λ w _. ap (λ y. list_any (truth w) (take i xs) || truth w y) is ∙ sym (list_any_more (truth w) xs i d l)) h

-- whether a component has its child after these transitions
abbrev pub chosen_after : GroundMachine → List ℕ → World → Choice → Bool
chosen_after m moves w choice = is_chosen (after m moves w).choices choice

-- one more component
pub chosen_more : (m : GroundMachine) (old seen new : Encoding) (moves : List ℕ) (xs : List Choice) (i : ℕ) (x d : Choice) (f g r : ℕ) → i < length xs → x ≡ get_or xs i d → Keeps old seen
    → ((t u : World → Bool) → Tells seen t f → Tells seen u g → Tells new (λ w. t w && u w) r)
    → TellsOf m.base.spec old (λ w. list_all (chosen_after m moves w) (take i xs)) f → TellsOf m.base.spec seen (λ w. is_chosen (after m moves w).choices x) g
    → TellsOf m.base.spec new (λ w. list_all (chosen_after m moves w) (take (i + 1) xs)) r
chosen_more m old seen new moves xs i x d f g r l is keeps joined before here =
    let front : World → Bool = λ w. list_all (chosen_after m moves w) (take i xs) in
    all_more m.base.spec new (chosen_after m moves) xs i x d r l is
    (tells_and m.base.spec seen new front (λ w. chosen_after m moves w x) f g r joined (tells_on m.base.spec old seen front f keeps before) here)

-- so a state is active
pub active_told : (m : GroundMachine) (e : Encoding) (moves : List ℕ) (node : ℕ) (choices some : List Choice) (r : ℕ) → LeaveWorlds m moves → TellActivity m.base.spec node choices → some ≡ choices
    → TellsOf m.base.spec e (λ w. list_all (chosen_after m moves w) some) r → TellsOf m.base.spec e (λ w. active_after m moves w node) r
active_told m e moves node choices some r leave tell whole h =
    tells_as m.base.spec e (λ w. list_all (chosen_after m moves w) some) (λ w. active_after m moves w node) r
    (λ w is. ap (list_all (chosen_after m moves w)) whole ∙ tell (after m moves w) (choices_are m.base.spec (after m moves w) (leave.worlds w is))) h
