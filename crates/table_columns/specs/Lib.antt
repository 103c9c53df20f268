pub mod TableColumns
