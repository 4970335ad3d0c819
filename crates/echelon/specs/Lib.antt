pub mod Leads
pub mod Eliminations
pub mod Found
pub mod Inserted
pub mod Residues
pub mod Grown
