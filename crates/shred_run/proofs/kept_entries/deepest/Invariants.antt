use Rattle.std.proofs.Common.{take}
use Rattle.shred_run.specs.Batches.{TierNotesAtMost}
use Rattle.shred_run.proofs.Inner.{IsLeast}
use Rattle.shred_run.proofs.kept_entries.deepest.Given as goal

abbrev pub invariant-loop-tier : goal.invariant-loop-tier
invariant-loop-tier g l = IsLeast TierNotesAtMost l.most (take l.tier-index l.tiers.items)
