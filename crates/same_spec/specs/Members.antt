-- The members of a machine by their places. No public clause speaks of them.
use Rattle.std.specs.Prelude.{ℕ, zero, suc, List, [], ◌∷◌, ◌++◌, length}
use Rattle.rsml_ground.specs.declared.definitions.Definition.{Definition}
use Rattle.rsml_ground.specs.declared.definitions.Definition.TheVariants as definition
use Rattle.ground_groups.specs.declared.group.Member.{Member}
use Rattle.ground_groups.specs.declared.group.Member.TheVariants as members

-- what is made of the first n numbers
abbrev pub numbered : (ℕ → Member) → ℕ → List Member
numbered make zero = []
numbered make (suc n) = make 0 ∷ numbered (λ k. make (suc k)) n

-- the cases of the function of this number; a macro has none
abbrev pub cases_of : ℕ → Definition → List Member
cases_of number (definition.Function cases) = numbered (members.FunctionCase number) (length cases)
cases_of number (definition.Macro table) = []

-- the cases of all functions, where the definitions have these numbers
abbrev pub all_cases : (ℕ → ℕ) → List Definition → List Member
all_cases number [] = []
all_cases number (d ∷ ds) = cases_of (number 0) d ++ all_cases (λ k. number (suc k)) ds
