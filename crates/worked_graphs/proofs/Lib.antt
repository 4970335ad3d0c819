pub mod NoDarts
