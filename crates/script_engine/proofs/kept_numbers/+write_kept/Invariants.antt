use Rattle.std.proofs.Common.{length}
use Rattle.script_engine.proofs.kept_numbers.+write_kept.Given as goal

abbrev pub decreases-write_kept : goal.decreases-write_kept
decreases-write_kept g l = length l.kept.now
