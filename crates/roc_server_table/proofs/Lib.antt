mod KnownRows
mod Settled
mod SameEdges
mod FoundRows
mod EntriesAmong
mod DecidedIds
mod FilledMarks
pub mod Unlearnt
mod AllLearnt
mod AllEnded
mod TakenBack
mod DecidedToo
mod EndedIds
mod NewIds
mod LeadingRows
mod LedTo
mod RisingIds
