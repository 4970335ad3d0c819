pub mod CactusLists
pub mod ChosenCactus
