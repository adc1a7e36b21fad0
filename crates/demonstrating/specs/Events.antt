-- The events of `demo`: lines that give one unit after another a depth.
use Rattle.std.specs.Prelude.{ℕ, ◌+◌, ◌*◌, ◌%◌, List, [], ◌∷◌, ◌++◌, map, flat_map, codes, decimal}
use Rattle.rsml_syntax.specs.rules.Globals.{up_to}

-- the line that gives a unit a depth
abbrev pub load : ℕ → ℕ → List ℕ
load unit depth = codes "Load[" ++ (decimal unit ++ (codes "] Depth=" ++ decimal depth))

-- the line at a place, from 1, for n units
abbrev pub event_line : ℕ → ℕ → List ℕ
event_line n place = load (1 + (7 * place) % n) ((37 * place) % 1000)

-- 1,000 lines for n units
abbrev pub event_lines : ℕ → List (List ℕ)
event_lines n = map (event_line n) (up_to 1000)

-- these lines, with a line feed after each
abbrev pub whole : List (List ℕ) → List ℕ
whole lines = flat_map (λ line. line ++ (10 ∷ [])) lines

-- the text of the events for n units
abbrev pub event_text : ℕ → List ℕ
event_text n = whole (event_lines n)
