-- What HREF and FORM share, and what each command does behind the store.
pub mod Navigation
pub mod Change
