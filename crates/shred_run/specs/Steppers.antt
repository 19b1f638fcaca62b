-- Tables over which a step may be made of what is lent to it, and the steps of what stands in entries.
use Rattle.std.specs.Prelude.{◌≡◌, false, List, Result}
use Rattle.std.specs.Option.{option_map}
use Rattle.shred_run.specs.declared.system.Fault.{Fault}
use Rattle.shred_run.specs.Controls.{Control}
use Rattle.shred_run.specs.Steps.{declared_of}
use Rattle.shred_table.specs.declared.id.Kind.{Kind}
use Rattle.shred_table.specs.declared.id.ResourceId.{ResourceId}
use Rattle.shred_table.specs.declared.table.Table.{Table}
use Rattle.shred_table.specs.Shown.{Lent, shown, IsSameSlots}
use Rattle.shred_table.specs.Slots.{among}

-- The step, or the call, lies in the relation on what the two lists show; it keeps kinds, slots, the lists, and each value that is not written.
pub record IsStepBy {V X A E : Type 0} (kind : V → Kind) (own : X → List ResourceId → List ResourceId → Type 0) (step : Control V X A E) (reads writes : List ResourceId) (lent : Lent V)
    (old : X) (before : Table V) (answer : Result A (Fault E)) (new : X) (after : Table V) : Type 0 where
  pub lies : step old (declared_of (record { reads = reads; writes = writes }) (shown kind lent before)) answer new (declared_of (record { reads = reads; writes = writes }) (shown kind lent after))
  pub kinds : (id : ResourceId) → option_map kind (shown kind lent after id) ≡ option_map kind (shown kind lent before id)
  pub slots : IsSameSlots before after
  pub frame : (id : ResourceId) → among writes id ≡ false → shown kind lent after id ≡ shown kind lent before id
  pub own_lists : own new reads writes
