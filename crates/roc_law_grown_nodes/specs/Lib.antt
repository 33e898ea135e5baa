-- The definitions that contracts cite
pub mod GrownInterleaved
pub mod GrownWorldOf
