mod Bits
mod Cases
mod Turns
