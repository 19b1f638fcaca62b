use Rattle.std.proofs.Common.{rules}
use Rattle.script_text.proofs.script.Script.take_batch.Goals as goal

pub returns : goal.returns
returns c = record { batch = c.in_ok-batch.batch; room = search rules; writes = c.in_ok-batch.ensures; left = search rules }
