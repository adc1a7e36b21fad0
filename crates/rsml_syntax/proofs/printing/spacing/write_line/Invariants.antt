use Rattle.std.proofs.Common.{◌≡◌, ◌≤◌, ◌*◌, ◌++◌, ◌∷◌, replicate, vec_len}
use Rattle.rsml_syntax.proofs.printing.spacing.write_line.Given as goal

abbrev pub invariant-loop-brace : goal.invariant-loop-brace
invariant-loop-brace l = record {
  written : l.text.items ≡ l.fn.text.items ++ (10 ∷ replicate (2 * l._brace) 32);
  grown : vec_len l.fn.text ≤ vec_len l.text;
}
