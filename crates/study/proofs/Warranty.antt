-- The warrant, put together.
use Rattle.study.specs.Warrant.{Warrant}
use Rattle.study.proofs.Stacking.{piles}
use Rattle.study.proofs.Counting.{reported}
use Rattle.study.proofs.Theorem.{fresh, vacant, zeros, machine, told, decided, tiers-called, memory-called, coherence, unmet, honest}

pub warrant : Warrant
warrant cs m w few ok memory fair = record {
  piles = piles;
  fresh = fresh cs m w few ok memory;
  empty = vacant cs m w few ok memory;
  zeros = zeros cs m w few ok memory;
  machine = machine cs m w few ok memory;
  told = told cs m w few ok memory;
  decided = decided cs m w few ok memory;
  tiers = tiers-called cs m w few ok memory;
  memory = memory-called cs m w few ok memory;
  coherent = coherence cs m w few ok memory;
  unmet = unmet cs m w few ok memory;
  honest = honest cs m w few ok memory;
  reported = reported cs m w fair;
}
