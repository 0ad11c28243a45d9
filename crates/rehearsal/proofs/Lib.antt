-- What the proofs of several functions use.
mod Places
mod Totals
mod Written
mod Packed
mod Unpacked
