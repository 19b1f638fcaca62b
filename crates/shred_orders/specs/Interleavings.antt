-- Dispatches whose groups run beside each other, and the orders in which the records of all systems and controllers may come.
use Rattle.std.specs.Prelude.{ℕ, List}
use Rattle.shred_model.specs.ConflictEquivalence.{IsConflictEquivalent}
use Rattle.shred_model.specs.Replay.{Replays}
use Rattle.shred_model.specs.Runs.{Answer}
use Rattle.shred_table.specs.declared.id.Kind.{Kind}
use Rattle.shred_run.specs.declared.entry.StageFault.{StageFault}
use Rattle.shred_run.specs.Depths.{Related}
use Rattle.shred_run.specs.Dispatched.{Dispatched, Situation, configuration_in}
use Rattle.shred_run.specs.NestedRecords.{NestedRecord}
use Rattle.shred_run.specs.Parallel.{IsNestedInterleaving}

-- It was dispatched, and each interleaving of its records is conflict-equivalent, since records of parallel groups are independent, and leads where the dispatch led.
pub record LeadsInterleaved {V S C E F : Type 0} (kind : V → Kind) (related : Related V S C E) (answers : ℕ → Answer (StageFault E) → Answer F) (before : Situation V S C) (answer : Answer F) (after : Situation V S C) : Type 0 where
  pub dispatched : Dispatched kind related answers before answer after
  pub interleaved : (moved : List (NestedRecord V S C E)) (from : ℕ → ℕ) → IsNestedInterleaving dispatched.list moved from
      → IsConflictEquivalent dispatched.list moved from × Replays (configuration_in before) moved (configuration_in after)
