mod Apart
mod Folds
