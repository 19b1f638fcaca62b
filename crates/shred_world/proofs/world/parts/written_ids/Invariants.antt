use Rattle.std.proofs.Common.{◌≡◌, take}
use Rattle.shred_table.specs.declared.id.ResourceId.{ResourceId}
use Rattle.shred_table.specs.Parts.{written_by}
use Rattle.shred_table.specs.Slots.{among}
use Rattle.shred_world.proofs.world.parts.written_ids.Given as goal

abbrev pub invariant-loop-pair : goal.invariant-loop-pair
invariant-loop-pair l = (q : ResourceId) → among l.ids.items q ≡ written_by (take l.pair-index l.pairs) q
