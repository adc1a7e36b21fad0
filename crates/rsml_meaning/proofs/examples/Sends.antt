-- Traces with sends, byte for byte: indices, negative numbers, constants, previous numbers, values of functions and of enumerations.
use Rattle.std.specs.Prelude.{◌≡◌, refl, Some, codes}
use Rattle.std.specs.Fmt.{digits}
use Rattle.std.specs.Str.{is_utf8, chars}
use Rattle.rsml_meaning.specs.EventLines.{E6}
use Rattle.rsml_meaning.specs.EventFiles.{program_limits, broken_line, first_fault}
use Rattle.rsml_meaning.proofs.Computed.{HasTrace}
use Rattle.rsml_meaning.proofs.Exists.{traced}
use Rattle.rsml_meaning.proofs.values.Colours.{colours}
use Rattle.rsml_meaning.proofs.values.Deep.{deep}
use Rattle.rsml_meaning.proofs.values.Latch.{latch}
use Rattle.rsml_meaning.proofs.values.Single.{single}

-- a move that enters a state three deep, and the default children beside it; an array inside; `this` of a send
a_target_three_deep : HasTrace deep (codes "R[1] X=-5 Col=Red\nR[2] X=03 Col=Red\nR[1] X=3 Col=Red\nR[01] X=-1 Col=Red\nR[2] X=-2 Col=Red\n")
    (codes "event 1 R[1]\n  round 1 Go[1]\n    take Top.P 1 move A -> B.U.U2.V2\n    send S[1] A=0 B=-3 D=Red\n  round 2 Out\n    send S[1] A=1 B=-1 D=Red\n    send S[2] A=1 B=-1 D=Red\n    send E\nevent 2 R[2]\n  round 1 Go[2]\n    take Top.P.B.W[2] 1 move W1 -> W2\n    send S[2] A=-1 B=-11 D=Red\nevent 3 R[1]\n  round 1 Go[1]\n    take Top.P.B.W[1] 1 move W1 -> W2\nevent 4 R[1]\n  round 1 Go[1]\n    take Top.P.B.W[1] 3 stay W2\n    send S[1] A=4 B=-7 D=Red\nevent 5 R[2]\n  round 1 Go[2]\n    take Top.P.B.W[2] 3 stay W2\n    send S[2] A=-5 B=-2 D=Red\nend 5\n")
unfolding digits is_utf8 chars lib.Utf8.encode
a_target_three_deep = traced _ _ _ refl refl

-- the previous number of an input changes with an event of that input alone
previous_numbers_of_two_inputs : HasTrace latch (codes "R X=0\nQ Y=1\nR X=2\nQ Y=0\nR X=2\n")
    (codes "event 1 R\n  round 1 E\n    send S A=0 B=1 C=2 D=2\nevent 2 Q\n  round 1 E\n    send S A=0 B=1 C=1 D=2\nevent 3 R\n  round 1 E\n    send S A=2 B=0 C=1 D=2\nevent 4 Q\n  round 1 E\n    send S A=2 B=0 C=0 D=1\nevent 5 R\n  round 1 E\n    send S A=2 B=2 C=0 D=1\nend 5\n")
unfolding digits is_utf8 chars lib.Utf8.encode
previous_numbers_of_two_inputs = traced _ _ _ refl refl

an_enumeration_with_one_value : HasTrace single (codes "R X=A\n\tR  X=A \n") (codes "event 1 R\n  round 1 E\n    send Z Fld=A\nevent 2 R\n  round 1 E\n    send Z Fld=A\nend 2\n")
unfolding digits is_utf8 chars lib.Utf8.encode
an_enumeration_with_one_value = traced _ _ _ refl refl

-- one carriage return is taken off, and no second one
a_second_carriage_return_belongs_to_the_line : first_fault single program_limits (codes "R X=A\n\tR  X=A \nR X=A\r\r") ≡ Some (broken_line 3 E6)
unfolding is_utf8 chars lib.Utf8.encode
a_second_carriage_return_belongs_to_the_line = refl

a_negative_number_is_sent : HasTrace colours (codes "R X=-2 Y=Red\r") (codes "event 1 R\n  round 1 E\n    send S A=-2 B=Red\nend 1\n")
unfolding digits is_utf8 chars lib.Utf8.encode
a_negative_number_is_sent = traced _ _ _ refl refl
