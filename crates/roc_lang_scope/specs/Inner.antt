-- Definitions that the contracts of private functions alone cite: a reader of `check_scope` needs none of them.
pub mod Misuse
pub mod Before
