use Rattle.ncq.proofs.NcqMemoryMemory.row.Goals as goal

pub returns-in-N2 : goal.returns-in-N2
returns-in-N2 c = rw c.in-N2.is (c.load_to_add.ensures c.args.limit)

pub returns-in-N4 : goal.returns-in-N4
returns-in-N4 c = rw c.in-N4.is (c.write.ensures c.args.limit)

pub returns-in-N7 : goal.returns-in-N7
returns-in-N7 c = rw c.in-N7.is (c.load_to_take.ensures c.args.limit)
