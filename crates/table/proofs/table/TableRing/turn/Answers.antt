use Rattle.std.proofs.Common.{sym, subst}
use Rattle.ring.specs.Meaning.{Turned}
use Rattle.table.proofs.table.TableRing.turn.Goals as goal

pub returns-clause-meaning : goal.returns-clause-meaning
returns-clause-meaning g c =
    λ m h. subst (Turned g.M.Memory.stands m c.args.station) (sym c.step.ensures)
    (g.met.M.Memory.means.turn_means _ c.args.station m h)
