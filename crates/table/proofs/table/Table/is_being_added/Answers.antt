use Rattle.std.proofs.Common.{rules, ◌∙◌, take}
use Rattle.std.proofs.lemmas.Iterator.{YieldsList-from_slice}
use Rattle.std.proofs.lemmas.Iterator.Search.{any_from_yields_List}
use borrow.Author.Tests.{tests}
use Rattle.ring.proofs.Scans.{list_any-take}
use Rattle.table.proofs.table.Table.is_being_added.Goals as goal

pub returns : goal.returns
returns g c =
    let q = c.args.self.now in
    let r = any_from_yields_List (g.M.Memory.steps.is_adding c.args.index) _ _ c.any.result c.any.ensures.ran (YieldsList-from_slice {s = c.iter.result} (take q.stations q.stages) c.iter.ensures.rest) (λ x b q k. search (rules, tests)) in
    r ∙ list_any-take (g.M.Memory.steps.is_adding c.args.index) q.stages q.stations g.M.Memory.steps.idle (search rules)
