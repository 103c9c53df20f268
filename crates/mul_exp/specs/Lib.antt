pub mod MulExp
