-- Neither tier is deeper than 4.
use Rattle.std.proofs.Common.{[], rules}
use Rattle.tier.proofs.pile.PileTier.depth.Goals as goal

pub overflow_add-depth : goal.overflow_add-depth
overflow_add-depth g c =
    let u = (g.met.U.Tier.lawful c.args.self.now.upper []).depth_high in
    let l = (g.met.L.Tier.lawful c.args.self.now.lower []).depth_high in
    search rules
