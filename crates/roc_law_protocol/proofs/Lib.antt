pub mod Marks
mod MarksKept
pub mod Thinned
pub mod KeptAside
pub mod SubmissionEnds
pub mod ReadsHere
mod KeptGroups
mod OneGroupMore
mod Gone
pub mod ForgottenHere
mod Followed
mod Flattened
pub mod Means
pub mod Grows
pub mod Meets
pub mod Facts
mod Local
mod SaidOfServers
mod FollowedEdges
mod Elsewhere
mod Starting
mod Buffered
pub mod Runs
pub mod Deciding
mod TakenNow
mod Changing
mod Forgets
mod Teaching
pub mod Coordinators
pub mod Rounds
mod Replies
pub mod Changed
pub mod FirstTaken
mod KeepsTaken
mod TakesOn
mod Explains
pub mod Served
pub mod Stopping
pub mod Stops
pub mod ServerSends
mod NoStarts
mod Coordinated
mod AsideSteps
pub mod Submissions
pub mod Firsts
pub mod AcceptedSubmissions
pub mod Logged
pub mod Worlds
pub mod Onward
mod TakenRuns
mod KeptRuns
pub mod Witness
pub mod WhatRan
pub mod Idle
pub mod Serial
mod KeptOrders
mod Answered
mod Cells
mod Resting
mod Anew
mod Decisions
mod Earlier
mod Taking
pub mod Carried
mod Gathered
mod Networks
mod Finals
mod Fetches
pub mod AskedFor
mod Refusals
mod Agree
mod Held
mod Pending
mod PendingSends
mod PendingRuns
mod Staleness
mod Ends
mod Heard
mod Outstanding
mod Taken
mod OutstandingSteps
pub mod Undelivered
pub mod Counting
pub mod Deliveries
mod Ongoing
mod OngoingRuns
mod Liveness
mod Once
pub mod Tells
pub mod Counted
mod Hears
mod HeardLists
mod Takes
pub mod Transactions
mod Delivered
mod StoppedHearing
mod Hearing
mod Quieted
mod Ordered
mod WhatIsOver
mod Forgotten
pub mod PlainSteps
pub mod Named
pub mod ServersHere
pub mod CoordsHere
pub mod WorldsFit
mod OrderParts
pub mod Findings
