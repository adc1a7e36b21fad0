-- The token list of the lamp specification, and its layout; and the layout of a specification of one state.
use Rattle.std.specs.Prelude.{◌≡◌, [], ◌∷◌, ◌++◌, codes}
use Rattle.std.proofs.Common.{refl}
use Prim.Native.String.{String}
use Rattle.rsml_syntax.specs.declared.syntax.Body.{Basic}
use Rattle.rsml_syntax.specs.declared.syntax.Relation.TheVariants as relations
use Rattle.rsml_syntax.specs.declared.syntax.Spec.{Spec}
use Rattle.rsml_syntax.specs.declared.token.Mark.{Mark}
use Rattle.rsml_syntax.specs.declared.token.Mark.TheVariants as marks
use Rattle.rsml_syntax.specs.declared.token.Token.{Token}
use Rattle.rsml_syntax.specs.declared.token.Token.TheVariants as token
use Rattle.rsml_syntax.specs.declared.token.Word.{Word}
use Rattle.rsml_syntax.specs.declared.token.Word.TheVariants as words
use Rattle.rsml_syntax.specs.grammar.Grammar.{tokens_of}
use Rattle.rsml_syntax.specs.grammar.Layout.{layout}
use Rattle.rsml_syntax.specs.text.Marks as mark_words
use Rattle.rsml_syntax.specs.text.Tokens.{Tokens}
use Rattle.rsml_syntax.specs.text.Words.{spelling}
use Rattle.rsml_syntax.proofs.Examples.Broken.{lamp}
use Rattle.rsml_syntax.proofs.Examples.Writing.{compare, row, specification, table, the}

word : Word → Token
word w = token.Word w

mark : Mark → Token
mark m = token.Mark m

name : String → Token
name x = token.Name (codes x)

abbrev the_lamp : Spec
the_lamp = lamp (table (row (compare (the "Lever") relations.Equal (the "Up")) "T" ∷ []))

abbrev lamp_tokens : Tokens
lamp_tokens =
    word words.Specification ∷ name "Lamp" ∷ mark marks.Semicolon
    ∷ word words.Enumeration ∷ name "Switch" ∷ mark marks.OpenBrace
    ∷ name "Down" ∷ mark marks.Comma ∷ name "Up"
    ∷ mark marks.CloseBrace
    ∷ word words.Input ∷ name "Lever" ∷ mark marks.Colon ∷ name "Switch" ∷ mark marks.Equal ∷ name "Down" ∷ mark marks.Semicolon
    ∷ word words.Event ∷ name "Tick" ∷ mark marks.Semicolon
    ∷ word words.Receive ∷ name "Set" ∷ mark marks.OpenParen ∷ name "Lever" ∷ mark marks.CloseParen ∷ word words.Raise ∷ name "Tick" ∷ mark marks.Semicolon
    ∷ word words.State ∷ name "Lamp" ∷ word words.One ∷ mark marks.OpenBrace
    ∷ word words.Default ∷ name "Off" ∷ mark marks.Semicolon
    ∷ word words.State ∷ name "Off" ∷ mark marks.Semicolon
    ∷ word words.State ∷ name "On" ∷ mark marks.Semicolon
    ∷ word words.Move ∷ name "Off" ∷ mark marks.Arrow ∷ name "On" ∷ word words.On ∷ name "Tick" ∷ word words.When ∷ mark marks.OpenBrace
    ∷ name "Lever" ∷ mark marks.Equal ∷ name "Up" ∷ mark marks.Bar ∷ word words.T ∷ mark marks.Semicolon
    ∷ mark marks.CloseBrace ∷ mark marks.Semicolon
    ∷ word words.Stay ∷ name "Off" ∷ word words.On ∷ name "Tick" ∷ word words.When ∷ mark marks.OpenBrace
    ∷ name "Lever" ∷ mark marks.Equal ∷ name "Up" ∷ mark marks.Bar ∷ word words.F ∷ mark marks.Semicolon
    ∷ mark marks.CloseBrace ∷ mark marks.Semicolon
    ∷ word words.Move ∷ name "On" ∷ mark marks.Arrow ∷ name "Off" ∷ word words.On ∷ name "Tick" ∷ word words.When ∷ mark marks.OpenBrace
    ∷ name "Lever" ∷ mark marks.Equal ∷ name "Down" ∷ mark marks.Bar ∷ word words.T ∷ mark marks.Semicolon
    ∷ mark marks.CloseBrace ∷ mark marks.Semicolon
    ∷ word words.Stay ∷ name "On" ∷ word words.On ∷ name "Tick" ∷ word words.When ∷ mark marks.OpenBrace
    ∷ name "Lever" ∷ mark marks.Equal ∷ name "Down" ∷ mark marks.Bar ∷ word words.F ∷ mark marks.Semicolon
    ∷ mark marks.CloseBrace ∷ mark marks.Semicolon
    ∷ mark marks.CloseBrace ∷ []

tokens_of_the_lamp : tokens_of the_lamp ≡ lamp_tokens
unfolding word mark name
tokens_of_the_lamp = refl

layout_of_the_lamp : layout lamp_tokens ≡
    codes "specification Lamp;\n" ++ (
    codes "enumeration Switch {\n" ++ (
    codes "  Down, Up\n" ++ (
    codes "}\n" ++ (
    codes "input Lever : Switch = Down;\n" ++ (
    codes "event Tick;\n" ++ (
    codes "receive Set (Lever) raise Tick;\n" ++ (
    codes "state Lamp one {\n" ++ (
    codes "  default Off;\n" ++ (
    codes "  state Off;\n" ++ (
    codes "  state On;\n" ++ (
    codes "  move Off -> On on Tick when {\n" ++ (
    codes "    Lever = Up | T;\n" ++ (
    codes "  };\n" ++ (
    codes "  stay Off on Tick when {\n" ++ (
    codes "    Lever = Up | F;\n" ++ (
    codes "  };\n" ++ (
    codes "  move On -> Off on Tick when {\n" ++ (
    codes "    Lever = Down | T;\n" ++ (
    codes "  };\n" ++ (
    codes "  stay On on Tick when {\n" ++ (
    codes "    Lever = Down | F;\n" ++ (
    codes "  };\n" ++ (
    codes "}\n")))))))))))))))))))))))
unfolding word mark name spelling mark_words.spelling
layout_of_the_lamp = refl

layout_of_one_state : layout (tokens_of (specification "Still" [] "Still" Basic)) ≡ codes "specification Still;\nstate Still;\n"
unfolding spelling mark_words.spelling
layout_of_one_state = refl
