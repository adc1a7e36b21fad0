use Rattle.std.proofs.Common.{◌≡◌, flat_map, take}
use Rattle.instance_texts.specs.Listing.{listed_by}
use Rattle.instance_texts.proofs.listings.listing.Given as goal

abbrev pub invariant-loop-decl : goal.invariant-loop-decl
invariant-loop-decl l = l.listed.items ≡ flat_map (listed_by l.sort l.globals) (take l.decl-index l.decls)
