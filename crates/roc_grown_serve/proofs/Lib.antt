mod Folds
mod Served
mod Servers
mod Shards
mod Turning
