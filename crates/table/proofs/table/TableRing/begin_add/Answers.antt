use Rattle.std.proofs.Common.{sym, subst}
use Rattle.ring.specs.Meaning.{AddBegun}
use Rattle.table.proofs.table.TableRing.begin_add.Goals as goal

pub returns-clause-meaning : goal.returns-clause-meaning
returns-clause-meaning g c =
    λ m h. subst (AddBegun g.M.Memory.stands m c.args.station c.args.index) (sym c.start_add.ensures)
    (g.met.M.Memory.means.add_means _ c.args.station c.args.index m h)
