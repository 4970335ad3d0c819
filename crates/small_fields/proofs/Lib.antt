mod Powers
mod Remainders
mod Sums
