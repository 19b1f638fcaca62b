use Rattle.std.proofs.Common.{rules}
use Rattle.shred_table.proofs.id.ResourceId.from_type_id.Goals as goal

pub returns : goal.returns
returns c = search rules
