use Rattle.std.proofs.Common.{◌∙◌, ap, refl, arith, rules}
use Rattle.std.proofs.lemmas.Iterator.{YieldsList-from_range}
use Rattle.std.proofs.lemmas.Iterator.Search.{any_from_yields_List}
use borrow.Author.Tests.{tests}
use Rattle.ring.specs.Scans.{any_below}
use Rattle.ring.proofs.Scans.{list_any-range}
use Rattle.table.proofs.table.Table.is_there.Goals as goal

pub returns : goal.returns
returns g c =
    let test = g.M.Memory.steps.is_there (g.M.Memory.view c.args.self.now.memory) c.args.index in
    let n = c.slots.result in
    any_from_yields_List test _ _ c.any.result c.any.ensures.ran (YieldsList-from_range 0 n n refl (omega arith)) (λ x b q k. search (rules, tests))
    ∙ (list_any-range test n ∙ ap (λ n. any_below n test) c.slots.ensures)
