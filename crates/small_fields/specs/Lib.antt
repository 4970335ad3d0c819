pub mod Bytes
pub mod FieldName
pub mod Modular
pub mod Prime
pub mod ScalarsOf
pub mod Laws
