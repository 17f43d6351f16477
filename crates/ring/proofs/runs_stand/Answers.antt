use Rattle.ring.proofs.Runs.{runs_stand}
use Rattle.ring.proofs.runs_stand.Goals as goal

pub returns : goal.returns
returns g c =
    let r = g.R.Ring in
    runs_stand r.state r.stands r.empty r.full r.adds r.takes r.turns g.met.R.Ring.means
