-- Arrays that are blank behind their last row; what is made of a word and a window.
pub mod Blanks
pub mod Making
