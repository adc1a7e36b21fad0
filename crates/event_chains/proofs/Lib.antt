mod Numbers
mod ChainLemmas
mod FirstClashes
mod FoundLemmas
mod MeetLemmas
mod RoundLemmas
mod TellLemmas
mod DrawLemmas
