use Rattle.std.proofs.Common.{arith, rules}
use Rattle.shred_run.specs.Batches.{NotesAtMost}
use Rattle.shred_run.proofs.Inner.{least-of-all, least-with, notes-grows}
use Rattle.shred_run.proofs.kept_entries.deepest_entry.Goals as goal

pub loop-entry-preserved : goal.loop-entry-preserved
loop-entry-preserved g c =
    let same = c.depth_of.ensures in
    least-with NotesAtMost notes-grows c.args.entries.now c.loop-entry.entry-index c.entry-item.result (search rules) (search rules) c.max-most.ensures c.loop-entry.invariant (omega (arith, same)) (λ bound one. omega (arith, same, one))

pub returns : goal.returns
returns g c = least-of-all NotesAtMost c.args.entries.now c.loop-entry.entry-index (search rules) c.loop-entry.invariant
