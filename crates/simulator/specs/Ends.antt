-- How following an event file ends, and its line.
use Rattle.std.specs.Prelude.{[], ◌++◌, codes, decimal}
use Rattle.rsml_meaning.specs.EventLines.{Bytes}
use Rattle.rsml_meaning.specs.EventFiles.{long_line, broken_line, long_file}
use Rattle.rsml_meaning.specs.Texts.{text_line}
use Rattle.event_lines.specs.Told.{rule_of}
use Rattle.simulator.specs.Outputs.{fault_line, read_line}
use Rattle.simulator.specs.declared.upcoming.Upcoming.{Upcoming}
use Rattle.simulator.specs.declared.upcoming.Upcoming.TheVariants as upcoming
use Rattle.simulator.specs.declared.sim_end.SimEnd.{SimEnd}
use Rattle.simulator.specs.declared.sim_end.SimEnd.TheVariants as end

-- how it ends, by a final answer
abbrev pub end_by : Upcoming → SimEnd
end_by (upcoming.LineFault n fault) = end.LineFault n fault
end_by (upcoming.LineTooLong n) = end.LineTooLong n
end_by upcoming.ReadFault = end.ReadFault
end_by upcoming.TooLong = end.TooLong
end_by (upcoming.Ended n) = end.Ended n
end_by (upcoming.Event k) = end.Ended 0

-- the last line, by how it ends; none where a write was refused
abbrev pub last_line : SimEnd → Bytes
last_line (end.Ended n) = text_line (codes "end " ++ decimal n)
last_line (end.LineFault n fault) = fault_line (broken_line n (rule_of fault))
last_line (end.LineTooLong n) = fault_line (long_line n)
last_line end.TooLong = fault_line long_file
last_line end.ReadFault = read_line
last_line end.WriteFault = []
