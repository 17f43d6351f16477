use Rattle.scq.proofs.ScqMemoryMemory.row.Goals as goal

pub returns-in-A2 : goal.returns-in-A2
returns-in-A2 c = rw c.in-A2.is (c.load_to_add.ensures c.args.limit)

pub returns-in-A4 : goal.returns-in-A4
returns-in-A4 c = rw c.in-A4.is (c.write.ensures c.args.limit)

pub returns-in-T3 : goal.returns-in-T3
returns-in-T3 c = rw c.in-T3.is (c.load_to_take.ensures c.args.limit)

pub returns-in-T4 : goal.returns-in-T4
returns-in-T4 c = rw c.in-T4.is (c.empty_word.ensures c.args.limit)

pub returns-in-T5 : goal.returns-in-T5
returns-in-T5 c = rw c.in-T5.is (c.spoil_word.ensures c.args.limit)

pub returns-in-T7 : goal.returns-in-T7
returns-in-T7 c = rw c.in-T7.is (c.move_tail.ensures c.args.limit)

pub returns-in-T11 : goal.returns-in-T11
returns-in-T11 c = rw c.in-T11.is (c.lower_threshold.ensures c.args.limit)
