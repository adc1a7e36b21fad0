-- No comment lines.
use Rattle.std.proofs.Common.{◌≡◌, ℕ, [], Vec, refl, sym, subst}
use Rattle.std.specs.declared.alloc.Global.{Global}
use Rattle.source_notes.specs.Comments.{AreComments}

no_lines : AreComments []
no_lines = record { lines = []; plain = refl; spelled = refl }

pub no_comments : (v : Vec ℕ Global) → v.items ≡ [] → AreComments v.items
no_comments v e = subst AreComments (sym e) no_lines
