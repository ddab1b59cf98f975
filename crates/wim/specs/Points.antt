-- The rules held against something outside: the points and the run of 01, a dozen runs, guards over one small browser, and its local steps.
pub mod Compared
pub mod Paper
pub mod Runs
pub mod SmallBrowser
pub mod Guards
pub mod Local
