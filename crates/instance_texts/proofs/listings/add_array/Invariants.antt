use Rattle.std.proofs.Common.{◌≡◌, ◌++◌, map}
use Rattle.rsml_syntax.specs.rules.Globals.{up_to}
use Rattle.instance_texts.specs.Listing.{at_index}
use Rattle.instance_texts.proofs.listings.add_array.Given as goal

abbrev pub invariant-loop-before : goal.invariant-loop-before
invariant-loop-before l = l.listed.items ≡ l.initial.listed.items ++ map (at_index l.decl) (up_to l.before)
