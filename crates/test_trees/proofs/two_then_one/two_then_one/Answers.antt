use Rattle.std.proofs.Common.{rules}
use Rattle.test_trees.proofs.two_then_one.two_then_one.Goals as goal

pub returns-in-Ok-clause-frame : goal.returns-in-Ok-clause-frame
returns-in-Ok-clause-frame g c = λ id none.
    let tree = c.seq.ensures c.in-Ok.both (search rules) in
    let made = c.in-Ok.ensures.made (record { 0 = record { 0 = c.args.first } }) c.new-alone.ensures in
    c.run_tree.ensures.frame id (rw tree (rw made.1 (rw made.2 none)))

pub returns-in-Err-Conflict-clause-told : goal.returns-in-Err-Conflict-clause-told
returns-in-Err-Conflict-clause-told g c = rw c.in-Err-Conflict.field-0-is at (c.in-Err-Conflict.ensures.conflict (record { 0 = record { 0 = c.args.first } }) c.new-alone.ensures)
