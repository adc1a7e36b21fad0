-- The steps of a path after the first, as they are written.
use Rattle.std.specs.Prelude.{◌++◌, codes}
use Rattle.rsml_meaning.specs.Words.{Instance}
use Rattle.rsml_meaning.specs.Texts.{Text, instance_text}

-- `.Child[3]`
abbrev pub dotted : Instance → Text
dotted step = codes "." ++ instance_text step
