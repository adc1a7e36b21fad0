use Rattle.std.proofs.Common.{◌≡◌, drop, take, []}
use Rattle.std.specs.List.{list_any}
use Rattle.rsml_syntax.specs.declared.syntax.Mention.{Mention}
use Rattle.rsml_rules.specs.breaches.Noting.{noted}
use Rattle.rsml_syntax.specs.rules.States.{same_mention, raised_again}
use Rattle.rsml_rules.proofs.breaches.transitions.raised_again.Given as goal

abbrev pub invariant-loop-mention : goal.invariant-loop-mention
invariant-loop-mention l = record {
  seen : (m : Mention) → list_any (λ k. same_mention m k.now) l.earlier.keys ≡ list_any (same_mention m) (take l.mention-index l.mentions);
  rest : noted l.worst (raised_again (take l.mention-index l.mentions) (drop l.mention-index l.mentions)) ≡ noted l.fn.worst (raised_again [] l.mentions);
}
