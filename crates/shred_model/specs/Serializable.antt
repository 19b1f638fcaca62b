-- What a run leaves, as one thread leaves it in the plan's order, and in each conflict-equivalent one.
use Rattle.std.specs.Prelude.{ℕ, List}
use Rattle.shred_model.specs.Record.{Record}
use Rattle.shred_model.specs.Replay.{Configuration, Replays}
use Rattle.shred_model.specs.ConflictEquivalence.{IsConflictEquivalent}

-- Some list of records is a run in the plan's order and leads from x to y, and each conflict-equivalent order of it leads there as well.
pub record IsSerializable {A I V S O : Type 0} (IsRun : List (Record A I V S O) → Type 0) (x y : Configuration A I V S) : Type 0 where
  pub list : List (Record A I V S O)
  pub run : IsRun list
  pub replays : Replays x list y
  pub any_order : (moved : List (Record A I V S O)) (from : ℕ → ℕ) → IsConflictEquivalent list moved from → Replays x moved y
