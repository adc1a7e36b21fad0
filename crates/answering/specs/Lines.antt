-- The lines of a command that writes nothing else.
use Rattle.std.specs.Prelude.{codes}
use Rattle.rsml_meaning.specs.EventLines.{Bytes}

-- the words are no command
abbrev pub usage : Bytes
usage = codes "usage: rsml COMMAND WORDS\n"

-- a read was refused
abbrev pub read : Bytes
read = codes "fault read\n"

-- the specification has too many bytes
abbrev pub long : Bytes
long = codes "fault long\n"
