pub mod Sets
pub mod SetAssociative
pub mod SetsLaws
pub mod Lrus
