-- What `version` writes.
use Rattle.rsml_meaning.specs.EventLines.{Bytes}
use Rattle.rsml.specs.declared.version.TheConstants.{VERSION}

-- the two lines of this program, a constant
abbrev pub version_text : Bytes
version_text = VERSION.now
