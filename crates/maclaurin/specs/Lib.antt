pub mod Maclaurin
