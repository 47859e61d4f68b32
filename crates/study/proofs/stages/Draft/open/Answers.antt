-- A study that is opened is warranted.
use Rattle.std.proofs.Common.{◌≤◌, rules}
use Rattle.row.specs.Cores.{count_of}
use Rattle.study.proofs.Warranty.{warrant}
use Rattle.study.proofs.stages.Draft.open.Goals as goal

pub returns-clause-warrant : goal.returns-clause-warrant
returns-clause-warrant g c =
    let draft = c.args.self in
    let few : count_of (g.R.Row.cores draft.row) ≤ 8 = search rules in
    warrant _ _ _ few (g.met.R.Row.lawful draft.row) (g.met.M.Memory.lawful draft.memory) draft.weights.affordable
