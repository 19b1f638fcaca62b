use Rattle.std.proofs.Common.{take}
use Rattle.shred_table.specs.Parting.{IsEmptyHand}
use Rattle.shred_table.proofs.parting.empty_hand.Given as goal

abbrev pub invariant-loop-id : goal.invariant-loop-id
invariant-loop-id g l = IsEmptyHand (take l.id-index l.ids) l.hand
