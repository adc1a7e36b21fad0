-- Which tasks there are, and what their arenas are like.
use Rattle.std.specs.Prelude.{ℕ, ◌≤◌, ⊤}
use Rattle.bdd_bench.specs.declared.task.Task.{Task}
use Rattle.bdd_bench.specs.declared.task.Task.TheVariants.{Queens, Equal, Tables, Forget, Singly, Bottom, Top}

-- the sizes of a task
abbrev pub Fits : Task → Type 0
Fits (Queens size) = size ≤ 11
Fits (Equal bits) = bits ≤ 64
Fits (Tables count) = ⊤
Fits (Forget count) = ⊤
Fits (Singly count) = ⊤
Fits (Bottom size) = ⊤
Fits (Top size) = ⊤

-- how many levels the arena of a task has
abbrev pub levels_of : Task → ℕ
levels_of (Queens size) = 128
levels_of (Equal bits) = 128
levels_of (Tables count) = 128
levels_of (Forget count) = 128
levels_of (Singly count) = 128
levels_of (Bottom size) = size
levels_of (Top size) = size
