use Rattle.round_trip.proofs.Exactly.{read_exactly, pair_read_exactly}
use Rattle.round_trip.proofs.FirstFaults.{decides, pair_decides}
use Rattle.round_trip.proofs.scenarios_read_back.Goals as goal

pub returns-clause-whole : goal.returns-clause-whole
returns-clause-whole c = read_exactly

pub returns-clause-parted : goal.returns-clause-parted
returns-clause-parted c = pair_read_exactly

pub returns-clause-first_fault : goal.returns-clause-first_fault
returns-clause-first_fault c = decides

pub returns-clause-first_fault_in_pair : goal.returns-clause-first_fault_in_pair
returns-clause-first_fault_in_pair c = pair_decides
