-- What a command leaves, whatever it is.
use Rattle.rsml_meaning.specs.EventLines.{Bytes}
use Rattle.answering.specs.Outcomes.{HasActed}
use Rattle.answering.specs.Uses.{FileUse, SinkUse}
use Rattle.answering.specs.Writing.{HasWritten}
use Rattle.answering.specs.declared.status.Status.{Status}
use Rattle.answering.specs.declared.status.Status.TheVariants as status
use Rattle.following.specs.Steps.{HasFollowed}
use Rattle.demonstrating.specs.Steps.{HasDemonstrated}
use Rattle.pairing.specs.Steps.{HasPaired}
use Rattle.rsml.specs.Commands.{Command, act, follow, pair, demo, version}
use Rattle.rsml.specs.Output.{ActionOutput}
use Rattle.rsml.specs.Version.{version_text}

-- what a command left of its files and of the sink, and how it ended
abbrev pub HasObeyed : Command → (Bytes → FileUse) → SinkUse → Status → Type 0
HasObeyed (act action file) files k answer = HasActed (ActionOutput action) (files file) k answer
HasObeyed (follow does file events) files k answer = HasFollowed does file events files k answer
HasObeyed (pair does file other) files k answer = HasPaired does file other files k answer
HasObeyed (demo n) files k answer = HasDemonstrated n k answer
HasObeyed version files k answer = HasWritten k version_text status.Done answer
