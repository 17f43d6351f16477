use Rattle.std.proofs.Common.{sym, subst}
use Rattle.ring.specs.Meaning.{TakeBegun}
use Rattle.table.proofs.table.TableRing.begin_take.Goals as goal

pub returns-clause-meaning : goal.returns-clause-meaning
returns-clause-meaning g c =
    λ m h. subst (TakeBegun g.M.Memory.stands m c.args.station) (sym c.start_take.ensures)
    (g.met.M.Memory.means.take_means _ c.args.station m h)
