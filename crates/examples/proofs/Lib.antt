pub mod MovesOn
