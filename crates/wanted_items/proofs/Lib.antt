mod Tries
mod Walking
