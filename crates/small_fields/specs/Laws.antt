-- The proofs that the impls cite: that the scalars meet the laws of a field. An impl may cite no file of proofs/, so they stand here; no clause cites them.
pub mod Made
pub mod Tests
pub mod Primes
pub mod Inverses
pub mod ModularField
pub mod Linear
pub mod Products
pub mod ByteField
