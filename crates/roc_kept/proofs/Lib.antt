mod Files
mod Folds
mod Keeping
mod Opened
