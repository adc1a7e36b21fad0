-- The text of the specification that `demo` generates. `f rest` is what f says, and then the rest.
use Rattle.std.specs.Prelude.{◌≡◌, ℕ, List, [], ◌∷◌, ◌++◌, codes, decimal}
use Prim.Native.String.{String}

-- a line
abbrev pub line : String → List ℕ → List ℕ
line bytes rest = codes bytes ++ (10 ∷ rest)

-- a line with a number in it
abbrev pub numbered : String → ℕ → String → List ℕ → List ℕ
numbered before n after rest = codes before ++ (decimal n ++ (codes after ++ (10 ∷ rest)))

-- the lines of the declarations of n units
abbrev pub declaration_lines : ℕ → List ℕ → List ℕ
declaration_lines n rest =
    line "specification Demo;" (
    line "range Level 0 .. 999;" (
    numbered "input Depth[" n "] : Level = 0;" (
    line "event Go;" (
    line "macro Full {" (
    numbered "  every k of " n " : in Plant.Unit[k].On | T;" (
    line "}" (
    line "macro High {" (
    numbered "  some k of " n " : Depth[k] >= 500 | T;" (
    line "}" (
    numbered "receive Load[" n "] (Depth[this]) raise Go;" rest))))))))))

-- the lines of the states of n units
abbrev pub state_lines : ℕ → List ℕ → List ℕ
state_lines n rest =
    line "state Plant all {" (
    numbered "  array Unit[" n "] one {" (
    line "    default Off;" (
    line "    state Off;" (
    line "    state On;" (
    line "    move Off -> On on Go when {" (
    line "      Depth[this] >= 500 | T;" (
    line "    };" (
    line "    stay Off on Go when {" (
    line "      Depth[this] >= 500 | F;" (
    line "    };" (
    line "    move On -> Off on Go when {" (
    line "      macro Full | T .;" (
    line "      macro High | . F;" (
    line "    };" (
    line "    stay On on Go when {" (
    line "      macro Full | F;" (
    line "      macro High | T;" (
    line "    };" (
    line "  }" (
    line "}" rest))))))))))))))))))))

-- the text with n units
abbrev pub text : ℕ → List ℕ
text n = declaration_lines n (state_lines n [])

-- f is put at the end of the old bytes
abbrev pub Puts : List ℕ → List ℕ → (List ℕ → List ℕ) → Type 0
Puts old new f = (rest : List ℕ) → new ++ rest ≡ old ++ f rest
