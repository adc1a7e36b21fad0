mod Places
mod Drafts
mod Chained
mod Judged
mod Written
mod Whole
