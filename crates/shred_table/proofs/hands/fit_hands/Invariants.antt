use Rattle.std.proofs.Common.{◌≡◌, length}
use Rattle.std.specs.Prelude.{⊤}
use Rattle.shred_table.specs.Parts.{HasRoom}
use Rattle.shred_table.proofs.Parted.Pairs.{ZipTo}
use Rattle.shred_table.proofs.hands.fit_hands.Given as goal

abbrev pub invariant-loop-i : goal.invariant-loop-i
invariant-loop-i g l = record {
  long : length l.pairs ≡ length l.hands.items;
  hands : ZipTo (HasRoom l.table) (λ pair hand. ⊤) l.i l.pairs l.hands.items;
}
