-- Taking note of breaches one after another: the lowest so far is kept.
use Rattle.std.specs.Prelude.{List, [], ◌∷◌, Option, Some, None, if◌then◌else◌, nat_lt}
use Rattle.rsml_syntax.specs.rules.Breaches.{Breach}

-- of two breaches the one of the lower rule, of one rule the earlier
abbrev pub lower : Option Breach → Option Breach → Option Breach
lower None later = later
lower (Some earlier) None = Some earlier
lower (Some earlier) (Some later) = if nat_lt later.rule earlier.rule then Some later else Some earlier

-- the lowest so far, and then that of a list
abbrev pub noted : Option Breach → List Breach → Option Breach
noted worst [] = worst
noted worst (b ∷ bs) = noted (lower worst (Some b)) bs
