pub mod Tables
pub mod Firsts
