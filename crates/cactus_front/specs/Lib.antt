pub mod CactusLists
