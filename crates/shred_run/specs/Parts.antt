-- The controller and the tiers of a batch while it runs: within which lists they are, and what stays of them.
use Rattle.std.specs.Prelude.{◌≡◌, true, false, List, All}
use Rattle.std.specs.Option.{option_map}
use Rattle.shred_table.specs.declared.id.Kind.{Kind}
use Rattle.shred_table.specs.declared.id.ResourceId.{ResourceId}
use Rattle.shred_table.specs.declared.table.Table.{Table}
use Rattle.shred_table.specs.Shown.{shown, IsSameSlots}
use Rattle.shred_table.specs.Slots.{among}
use Rattle.shred_world.specs.Views.{lent_slot}
use Rattle.shred_run.specs.KeptControllers.{control_access, IsOwnControl}
use Rattle.shred_run.specs.Works.{IsTierWithin, tiers_plan}
use Rattle.shred_run.specs.declared.control.KeptController.{KeptController}
use Rattle.shred_run.specs.declared.loan.Loan.{Loan}
use Rattle.shred_run.specs.declared.work.Tier.{Tier}

module _ {V C X : Type 0} (own : X → List ResourceId → List ResourceId → Type 0) (loan : Loan V) (control_reads control_writes : C → List ResourceId) where
  -- The lists kept of the controller are those that it declares, it writes nothing but what is in the loan's written list, and the tiers are within the loan's lists.
  pub record ArePartsWithin (control : KeptController V C) (tiers : List (Tier V X)) : Type 0 where
    pub own_lists : IsOwnControl control_reads control_writes control
    pub writes_within : (id : ResourceId) → among control.writes.items id ≡ true → among loan.writes.now id ≡ true
    pub within : All (IsTierWithin own loan.reads.now loan.writes.now) tiers

-- The kinds of what the table shows stay, and its slots, and each value that is not written.
pub record KeepsLoan {V : Type 0} (kind : V → Kind) (loan : Loan V) (before after : Table V) : Type 0 where
  pub kinds : (id : ResourceId) → option_map kind (shown kind (lent_slot loan.shelf.now) after id) ≡ option_map kind (shown kind (lent_slot loan.shelf.now) before id)
  pub slots : IsSameSlots before after
  pub frame : (id : ResourceId) → among loan.writes.now id ≡ false → shown kind (lent_slot loan.shelf.now) after id ≡ shown kind (lent_slot loan.shelf.now) before id

module _ {V X : Type 0} (kind : V → Kind) (own : X → List ResourceId → List ResourceId → Type 0) (loan : Loan V) where
  -- The plan of the tiers stays, and they are within the loan's lists still; the table keeps what `KeepsLoan` says.
  pub record KeepsTiers (old : List (Tier V X)) (before : Table V) (new : List (Tier V X)) (after : Table V) : Type 0 where
    pub plan : tiers_plan new ≡ tiers_plan old
    pub within : All (IsTierWithin own loan.reads.now loan.writes.now) new
    pub keeps : KeepsLoan kind loan before after

  module _ {C : Type 0} (control_reads control_writes : C → List ResourceId) where
    -- What was kept of the controller stays, and is what it declares still; the tiers and the table keep what `KeepsTiers` says.
    pub record KeepsParts (old : KeptController V C) (held : List (Tier V X)) (before : Table V) (new : KeptController V C) (left : List (Tier V X)) (after : Table V) : Type 0 where
      pub access : control_access new ≡ control_access old
      pub own_lists : IsOwnControl control_reads control_writes new
      pub tiers : KeepsTiers held before left after
