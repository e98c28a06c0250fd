mod Sound
mod Played
mod Marking
mod Counting
