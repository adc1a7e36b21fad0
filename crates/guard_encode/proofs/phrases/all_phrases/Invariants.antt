use Rattle.bdd_core.specs.Calls.{Keeps}
use Rattle.guard_encode.specs.Phrases.{ArePhrases}
use Rattle.guard_encode.proofs.phrases.all_phrases.Given as goal

-- the diagrams of the phrases so far
abbrev pub invariant-loop-number : goal.invariant-loop-number
invariant-loop-number l = record {
  keeps : Keeps l.fn.arena l.arena;
  so_far : ArePhrases l.arena l.levels l.macros l.number l.diagrams.items;
}
