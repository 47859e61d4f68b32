pub mod Ranked
pub mod Private
pub mod Queue
pub mod Ages
pub mod RankedLaws
