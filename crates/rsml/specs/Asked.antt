-- What a command of the program asks for.
use Rattle.rsml.specs.Commands.{Command, act, follow, pair, demo, version}
use Rattle.rsml.specs.declared.command.Command.{Command as Given}
use Rattle.rsml.specs.declared.command.Command.TheVariants as given

-- the same command, with the bytes of its names
abbrev pub asked : Given → Command
asked (given.Act action file) = act action file.now
asked (given.Follow action file events) = follow action file.now events.now
asked (given.Pair action file other) = pair action file.now other.now
asked (given.Demo units) = demo units
asked given.Version = version
