use Rattle.std.proofs.Common.{rules}
use Rattle.shred_run.specs.Batches.{TierNotesAtMost}
use Rattle.shred_run.proofs.Inner.{least-of-all, least-with, tier-grows}
use Rattle.shred_run.proofs.kept_entries.deepest.Goals as goal

pub loop-tier-preserved : goal.loop-tier-preserved
loop-tier-preserved g c =
    least-with TierNotesAtMost tier-grows c.args.tiers.now.items c.loop-tier.tier-index c.tier-item.result (search rules) (search rules) c.max-most.ensures c.loop-tier.invariant c.deepest_group.ensures.noted c.deepest_group.ensures.least

pub returns : goal.returns
returns g c = least-of-all TierNotesAtMost c.args.tiers.now.items c.loop-tier.tier-index (search rules) c.loop-tier.invariant
