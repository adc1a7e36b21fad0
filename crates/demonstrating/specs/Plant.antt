-- The specification that `demo` generates: a plant of n units, each of which has a depth of its own. Beside each part stands its text.
use Rattle.std.specs.Prelude.{ℕ, List, [], ◌∷◌, codes}
use Rattle.rsml_syntax.specs.declared.syntax.Body.{Body, Basic}
use Rattle.rsml_syntax.specs.declared.syntax.Cell.TheVariants.{T, F, Dot}
use Rattle.rsml_syntax.specs.declared.syntax.Decl.{Decl}
use Rattle.rsml_syntax.specs.declared.syntax.Phrase.{Phrase}
use Rattle.rsml_syntax.specs.declared.syntax.Spec.{Spec}
use Rattle.rsml_syntax.specs.declared.syntax.Transition.{Transition}
use Rattle.demonstrating.specs.Writing.{plain, at, at_this, is_at_least, in_state, macro_is_true, phrase, every, some, row, table, range, input, event, macro, receive, state, array, all, one, move, stay}

-- Depth[this] >= 500
abbrev pub is_deep : Phrase
is_deep = phrase (is_at_least (at_this "Depth") 500)

-- macro Full
abbrev pub is_full : Phrase
is_full = phrase (macro_is_true "Full")

-- macro High
abbrev pub is_high : Phrase
is_high = phrase (macro_is_true "High")

-- move Off -> On on Go when { Depth[this] >= 500 | T; };
abbrev pub start : Transition
start = move "Off" "On" "Go" (table (row is_deep (T ∷ []) ∷ []))

-- stay Off on Go when { Depth[this] >= 500 | F; };
abbrev pub rest : Transition
rest = stay "Off" "Go" (table (row is_deep (F ∷ []) ∷ []))

-- move On -> Off on Go when { macro Full | T .; macro High | . F; };
abbrev pub stop : Transition
stop = move "On" "Off" "Go" (table (row is_full (T ∷ Dot ∷ []) ∷ row is_high (Dot ∷ F ∷ []) ∷ []))

-- stay On on Go when { macro Full | F; macro High | T; };
abbrev pub run : Transition
run = stay "On" "Go" (table (row is_full (F ∷ []) ∷ row is_high (T ∷ []) ∷ []))

-- one { default Off; state Off; state On; .. }
abbrev pub unit : Body
unit = one "Off" (state "Off" Basic ∷ state "On" Basic ∷ []) (start ∷ rest ∷ stop ∷ run ∷ [])

-- range Level 0 .. 999;
-- input Depth [n] : Level = 0;
-- event Go;
-- macro Full { every k of n : in Plant.Unit[k].On | T; }
-- macro High { some k of n : Depth[k] >= 500 | T; }
-- receive Load [n] (Depth[this]) raise Go;
abbrev pub declarations : ℕ → List Decl
declarations n =
    range "Level" 0 999
    ∷ input "Depth" n "Level" 0
    ∷ event "Go"
    ∷ macro "Full" (row (every "k" n (in_state (plain "Plant" ∷ at "Unit" "k" ∷ plain "On" ∷ []))) (T ∷ []) ∷ [])
    ∷ macro "High" (row (some "k" n (is_at_least (at "Depth" "k") 500)) (T ∷ []) ∷ [])
    ∷ receive "Load" n (at_this "Depth" ∷ []) "Go"
    ∷ []

-- specification Demo; .. state Plant all { array Unit [n] .. }
abbrev pub plant : ℕ → Spec
plant n = record { name = codes "Demo"; decls = declarations n; top = codes "Plant"; body = all (array "Unit" n unit ∷ []) }
