pub mod Interleaved
pub mod InterleavedLaws
