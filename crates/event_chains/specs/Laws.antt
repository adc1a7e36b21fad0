-- What a graph that stands for a specification says of it, and what is found of its chains.
use Rattle.std.specs.Prelude.{◌≡◌, ℕ, List, [], map, Option, IsTrue, ◌↔◌}
use Rattle.std.specs.List.{AllZip}
use Rattle.rsml_syntax.specs.declared.syntax.Spec.{Spec}
use Rattle.rsml_syntax.specs.limits.Checked.{IsChecked}
use Rattle.rsml_meaning.specs.Words.{Instance, AllThree}
use Rattle.rsml_meaning.specs.Chains.{is_external, Ends, Loops, Clash}
use Rattle.rsml_meaning.specs.Report.{ClashFound, externals, IsLengthAnswer, IsClashAnswer, IsFirstClash}
use Rattle.ground_members.specs.Members.{IsEvent}
use Rattle.event_graph.specs.declared.clash.Clash.{Clash as Numbers}
use Rattle.event_graph.specs.Graphs.{Graph}
use Rattle.event_graph.specs.Chains as graph
use Rattle.event_graph.specs.Clashes as graph_clashes
use Rattle.event_chains.specs.declared.external.External.{External}
use Rattle.event_chains.specs.Draws.{Draws}
use Rattle.event_chains.specs.Found.{AreLooping, ClashIs, AnswerIs, AreClashes, AreExternals}

-- the length of an external event is that of its number
abbrev pub LengthsAgree : Type 0
LengthsAgree = (s : Spec) (g : Graph) → IsChecked s → Draws s g → (a : ℕ) (e : Instance) → IsEvent s e a → IsTrue (is_external s e)
    → (answer : Option ℕ) → graph.IsLengthAnswer g a answer → IsLengthAnswer s e answer

-- an event loops where its number does
abbrev pub LoopsAgree : Type 0
LoopsAgree = (s : Spec) (g : Graph) → IsChecked s → Draws s g → (a : ℕ) (e : Instance) → IsEvent s e a → graph.Loops g a ↔ Loops s e

-- an event ends a chain of n events from an external one where its number does
abbrev pub EndsAgree : Type 0
EndsAgree = (s : Spec) (g : Graph) → IsChecked s → Draws s g → (a b : ℕ) (x e : Instance) → IsEvent s x a → IsEvent s e b → IsTrue (is_external s x)
    → (n : ℕ) → graph.Ends g a n b ↔ Ends s x n e

-- two events clash where their numbers do
abbrev pub ClashesAgree : Type 0
ClashesAgree = (s : Spec) (g : Graph) → IsChecked s → Draws s g → (a b c : ℕ) (x e f : Instance) → IsEvent s x a → IsEvent s e b → IsEvent s f c → IsTrue (is_external s x)
    → (n : ℕ) → graph.IsClash g a n b c ↔ Clash s x n e f

-- the first clash of an external event is that of its number
abbrev pub FirstClashesAgree : Type 0
FirstClashesAgree = (s : Spec) (g : Graph) → IsChecked s → Draws s g → (a : ℕ) (x : Instance) → IsEvent s x a → IsTrue (is_external s x)
    → (c : Numbers) → graph_clashes.IsFirstClash g a c → (d : ClashFound) × ClashIs s x d c × IsFirstClash s x d

-- no event loops, and there is no clash
pub record NoneFound (s : Spec) : Type 0 where
  pub no_loop : (e : Instance) → Loops s e → ⊥
  pub no_clash : (x : Instance) (n : ℕ) (e f : Instance) → Clash s x n e f → ⊥

-- exactly where none is found, none is there
abbrev pub NoneFoundIsNone : Type 0
NoneFoundIsNone = (s : Spec) → IsChecked s → (loops : List ℕ) (clashes : List Numbers) → AreLooping s loops → AreClashes s clashes
    → ((loops ≡ []) × (clashes ≡ [])) ↔ NoneFound s

-- what is found of the external events is what a report answers of them
abbrev pub ExternalsAnswer : Type 0
ExternalsAnswer = (s : Spec) (rs : List External) → AreExternals s rs
    → AllZip (IsLengthAnswer s) (externals s) (map (λ r. r.length) rs)
    × ((answers : List (Option ClashFound)) × AllZip (IsClashAnswer s) (externals s) answers × AllThree (AnswerIs s) (externals s) answers (map (λ r. r.clash) rs))
