pub mod JudgementLemmas
pub mod LastLines
pub mod OneText
pub mod ShortLemmas
pub mod TextLemmas
