use Rattle.std.proofs.Common.{◌≡◌, false, take}
use Rattle.shred_table.specs.Slots.{among}
use Rattle.shred_world.proofs.world.view.View.place.Given as goal

abbrev pub invariant-loop-place : goal.invariant-loop-place
invariant-loop-place g l = among (take l.place l.owned) l.id ≡ false
