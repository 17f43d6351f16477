use Rattle.std.proofs.Common.{subst, arith, rules}
use Rattle.std.proofs.lemmas.List.{get_or_default}
use Rattle.table.proofs.Rows.{row_bounded}
use Rattle.table.proofs.table.Table.step.Goals as goal

pub step-requires : goal.step-requires
step-requires g c =
    let q = c.args.self.now in
    let t = g.M.Memory in
    subst (t.fits q.limit (t.view q.memory)) (get_or_default q.stages c.args.station t.steps.idle c.index-self-station.result (search rules))
    (g.met.M.Memory.bounds.step_fits q.stations q.limit (t.view q.memory) q.stages c.args.station q.bounded (omega arith))

pub invariant_of-self-clause-bounded : goal.invariant_of-self-clause-bounded
invariant_of-self-clause-bounded g c =
    let q = c.args.self.now in
    let t = g.M.Memory in
    row_bounded t.steps t.fits t.bounded g.met.M.Memory.bounds q.stations q.limit (t.view q.memory) q.stages c.args.station (omega arith) q.bounded
    _ (get_or_default q.stages c.args.station c.index-self-station.result t.steps.idle (search rules)) c.step.result _ c.step.new.stage c.step.ensures
