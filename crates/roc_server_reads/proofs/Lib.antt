mod HeldByCell
mod Holding
mod Parting
mod ReadSteps
mod CountedWrites
mod ReadTurns
mod CopiedCells
mod ReadsOfPlan
