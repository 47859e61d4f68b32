pub mod RanksLemmas
