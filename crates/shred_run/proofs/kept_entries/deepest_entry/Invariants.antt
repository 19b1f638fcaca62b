use Rattle.std.proofs.Common.{take}
use Rattle.shred_run.specs.Batches.{NotesAtMost}
use Rattle.shred_run.proofs.Inner.{IsLeast}
use Rattle.shred_run.proofs.kept_entries.deepest_entry.Given as goal

abbrev pub invariant-loop-entry : goal.invariant-loop-entry
invariant-loop-entry g l = IsLeast NotesAtMost l.most (take l.entry-index l.entries)
