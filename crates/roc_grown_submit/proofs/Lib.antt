mod Closing
mod Gathered
mod Lasting
mod Replied
mod Runs
mod Turning
mod Ending
mod Writing
