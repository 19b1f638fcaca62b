-- Calls of systems and controllers over what a loan lends.
use Rattle.std.specs.Prelude.{◌≡◌, true, List, Result}
use Rattle.shred_table.specs.declared.id.Kind.{Kind}
use Rattle.shred_table.specs.declared.id.ResourceId.{ResourceId}
use Rattle.shred_table.specs.declared.table.Table.{Table}
use Rattle.shred_table.specs.Shown.{HasOwnSlots, shown}
use Rattle.shred_table.specs.Slots.{among}
use Rattle.shred_world.specs.Views.{lent_slot}
use Rattle.shred_run.specs.Controls.{Control}
use Rattle.shred_run.specs.Kept.{AreOwnLists}
use Rattle.shred_run.specs.KeptControllers.{control_access}
use Rattle.shred_run.specs.OwnLists.{declared_lists}
use Rattle.shred_run.specs.OwnSlots.{lent_before}
use Rattle.shred_run.specs.Rounds.{IsControlOver}
use Rattle.shred_run.specs.Steppers.{IsStepBy}
use Rattle.shred_run.specs.declared.control.KeptController.{KeptController}
use Rattle.shred_run.specs.declared.loan.Loan.{Loan}
use Rattle.shred_run.specs.declared.system.Fault.{Fault}

-- the kept lists are those that the controller declares
abbrev pub HasOwnLists : {V C : Type 0} → (C → List ResourceId) → (C → List ResourceId) → KeptController V C → Type 0
HasOwnLists reads writes entry = AreOwnLists (reads entry.controller) (writes entry.controller) entry.reads.items entry.writes.items

-- the hand has a slot for each written id that the table, or what is lent behind it, has one for
abbrev pub HasHandSlots : {V C : Type 0} → Loan V → Table V → KeptController V C → Type 0
HasHandSlots loan own entry = HasOwnSlots entry.writes.items (lent_before own (lent_slot loan.shelf.now)) entry.hand

-- the controller writes nothing but what is in the loan's written list
abbrev pub WritesWithin : {V C : Type 0} → Loan V → KeptController V C → Type 0
WritesWithin loan entry = (id : ResourceId) → among entry.writes.items id ≡ true → among loan.writes.now id ≡ true

module _ {V X A E : Type 0} (kind : V → Kind) (reads writes : X → List ResourceId) (does : Control V X A E) where
  -- the call lies in the relation on what the loan's lists show, over the table and what is lent
  abbrev pub IsCallOver : Loan V → X → Table V → Result A (Fault E) → X → Table V → Type 0
  IsCallOver loan old before answer new after = IsStepBy kind (declared_lists reads writes) does loan.reads.now loan.writes.now (lent_slot loan.shelf.now) old before answer new after

  -- the same of a controller, on what its own lists show, over its hand and the table behind it
  abbrev pub IsCallInHand : Loan V → Table V → KeptController V X → Result A (Fault E) → KeptController V X → Type 0
  IsCallInHand loan own old answer new = IsStepBy kind (declared_lists reads writes) does old.reads.items old.writes.items (lent_before own (lent_slot loan.shelf.now)) old.controller old.hand answer new.controller new.hand

-- the call lies in the controller's relation on what it declares, over the table and what is lent
abbrev pub IsKeptCall : {V X A E : Type 0} → (V → Kind) → Control V X A E → Loan V → KeptController V X → Table V → Result A (Fault E) → KeptController V X → Table V → Type 0
IsKeptCall kind does loan old before answer new after = IsControlOver kind does (control_access old) old.controller (shown kind (lent_slot loan.shelf.now) before) answer new.controller (shown kind (lent_slot loan.shelf.now) after)
