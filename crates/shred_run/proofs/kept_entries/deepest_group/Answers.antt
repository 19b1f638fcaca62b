use Rattle.std.proofs.Common.{rules}
use Rattle.shred_run.specs.Batches.{GroupNotesAtMost}
use Rattle.shred_run.proofs.Inner.{least-of-all, least-with, group-grows}
use Rattle.shred_run.proofs.kept_entries.deepest_group.Goals as goal

pub loop-group-preserved : goal.loop-group-preserved
loop-group-preserved g c =
    let found = rw c.as_slice.ensures.value at c.deepest_entry.ensures in
    least-with GroupNotesAtMost group-grows c.args.tier.now.groups.items c.loop-group.group-index c.group-item.result (search rules) (search rules) c.max-most.ensures c.loop-group.invariant found.noted found.least

pub returns : goal.returns
returns g c = least-of-all GroupNotesAtMost c.args.tier.now.groups.items c.loop-group.group-index (search rules) c.loop-group.invariant
