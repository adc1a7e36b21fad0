use Rattle.std.proofs.Common.{◌≡◌, ◌-◌}
use Rattle.rsml_syntax.specs.grammar.Layout.{is_the_word}
use Rattle.rsml_syntax.specs.declared.token.Word.TheVariants as words
use Rattle.rsml_parser.specs.Claims as spec
use Rattle.rsml_parser.proofs.Loops.{going}
use Rattle.rsml_parser.proofs.claims.claims.Given as goal

abbrev pub invariant-loop-turn : goal.invariant-loop-turn
invariant-loop-turn l = going (is_the_word words.Macro) spec.claim (l._turn-end - l._turn) l.found.items l.reader ≡ spec.claims l.fn.reader
