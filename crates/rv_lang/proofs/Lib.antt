pub mod Cuts
mod Longest
mod Runs
mod TextLengths
mod Texts
mod Utf8
