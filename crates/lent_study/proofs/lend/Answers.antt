use Rattle.std.proofs.Common.{◌≡◌, [], ◌∷◌, sym, refl, ap, ◌∙◌, subst}
use Rattle.memory.specs.Meaning.{lent_of}
use Rattle.memory.specs.Flat.{flat}
use Rattle.protocol.specs.Weighing.{prices_of}
use Rattle.study.specs.Opening.{opening}
use Rattle.study.specs.Play.{calls_of}
use Rattle.study.specs.Settling.{quoted, memory_after, simulated, recorded}
use Rattle.study.specs.Warrant.{Warranted}
use Rattle.lent_study.specs.Lent.{lent}
use Rattle.lent_study.proofs.Loan.{quote_in, quotes, weighed-started, weighed-at, returned}
use Rattle.lent_study.proofs.lend.Goals as goal

pub returns-in-Ok : goal.returns-in-Ok
returns-in-Ok g c =
    let cs = g.R.Row.cores c.args.row in
    let t = flat c.args.table.ghost_name c.args.table.now in
    let w = prices_of c.weigh.new.self.weights in
    let turns = c.args.schedule.now in
    let row = c.weigh.ensures.row ∙ c.new-draft.ensures.row in
    let table = ap (λ f. f.table) (c.weigh.ensures.memory ∙ c.new-draft.ensures.memory) ∙ c.over.ensures in
    let opens : opening (g.R.Row.cores c.weigh.new.self.row) (flat c.weigh.new.self.memory.table.ghost_name c.weigh.new.self.memory.table.now) w ≡ opening cs t w =
    (λ i. opening (g.R.Row.cores (row i)) (flat (table i).ghost_name (table i).now) w) in
    let starts = weighed-started _ w _ cs t c.in_default.ensures.answer c.weigh.ensures.weights in
    let weighed = weighed-at c.args.prices w _ c.in_default.ensures.answer c.weigh.ensures.weights in
    let ends = c.in-Ok.ensures.ending ∙ ap (λ o. simulated o (calls_of turns)) opens in
    let back = returned cs w (calls_of turns) c.args.table.ghost_name _ c.args.table.now _ _ refl ends in
    record {
      named = ap (λ x. x.ghost_name) c.into_table-in-Ok.ensures ∙ back.named;
      study = record {
        table = ap (λ o. lent_of (memory_after o t (calls_of turns))) starts ∙ back.table ∙ ap (λ x. lent c.args.table.ghost_name x.now ∷ []) (sym c.into_table-in-Ok.ensures);
        schedule = c.in-Ok.ensures.turns ∙ ap (λ o. recorded o turns) opens ∙ ap (λ o. recorded o turns) (sym starts);
        quote = ap quote_in ends ∙ quotes _ _ ∙ ap (λ o. quoted o (calls_of turns)) (sym starts);
        warrant = subst (Warranted cs t) weighed (subst (λ x. Warranted cs (flat x.ghost_name x.now) w) table
            (subst (λ x. Warranted (g.R.Row.cores x) (flat c.weigh.new.self.memory.table.ghost_name c.weigh.new.self.memory.table.now) w) row c.in-Ok.ensures.warrant));
      };
    }
