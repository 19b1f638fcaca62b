use Rattle.std.proofs.Common.{length}
use Rattle.shred_kept.proofs.laying.+copy_levels.Given as goal

abbrev pub decreases-copy_levels : goal.decreases-copy_levels
decreases-copy_levels g l = length l.levels.now
