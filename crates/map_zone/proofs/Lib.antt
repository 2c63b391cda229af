pub mod Welds
