-- Runs of batches over a table and what is lent shared behind it.
use Rattle.std.specs.Prelude.{◌≡◌, ℕ, false, Bool, List}
use Rattle.std.specs.Option.{option_map}
use Rattle.shred_table.specs.declared.id.Kind.{Kind}
use Rattle.shred_table.specs.declared.id.ResourceId.{ResourceId}
use Rattle.shred_table.specs.declared.table.Table.{Table}
use Rattle.shred_table.specs.Shown.{Lent, shown, IsSameSlots}
use Rattle.shred_table.specs.Slots.{among}
use Rattle.shred_run.specs.Steps.{Outcome, Step}
use Rattle.shred_run.specs.KeptControllers.{control_access}
use Rattle.shred_run.specs.Controls.{Control}
use Rattle.shred_run.specs.Rounds.{BatchRun}
use Rattle.shred_run.specs.Works.{InnerRun, IsBatchWithin, tiers_plan}
use Rattle.shred_run.specs.declared.work.Batch.{Batch}

-- The batch ran over what the table and what is lent behind it show. What was kept of it stays and is within the lists still; kinds and slots stay, and each value that is not written.
pub record RanAsBatch {V C X E : Type 0} (kind : V → Kind) (own : X → List ResourceId → List ResourceId → Type 0) (step : Step V X E)
    (control_reads control_writes : C → List ResourceId) (begins : Control V C ℕ E) (asks : Control V C Bool E) (reads writes : List ResourceId) (lent : Lent V)
    (old : Batch V C X) (before : Table V) (outcome : Outcome E) (new : Batch V C X) (after : Table V) : Type 0 where
  pub run : BatchRun kind asks (control_access old.control) (InnerRun kind step) begins old.control.controller old.tiers.items (shown kind lent before) outcome new.control.controller new.tiers.items (shown kind lent after)
  pub same_access : control_access new.control ≡ control_access old.control
  pub same_plan : tiers_plan new.tiers.items ≡ tiers_plan old.tiers.items
  pub same_depth : new.depth ≡ old.depth
  pub kinds : (id : ResourceId) → option_map kind (shown kind lent after id) ≡ option_map kind (shown kind lent before id)
  pub slots : IsSameSlots before after
  pub frame : (id : ResourceId) → among writes id ≡ false → shown kind lent after id ≡ shown kind lent before id
  pub within : IsBatchWithin control_reads control_writes own reads writes new
