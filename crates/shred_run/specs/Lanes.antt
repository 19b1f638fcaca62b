-- Groups that run beside each other, each over its own table and what is lent shared.
use Rattle.std.specs.Prelude.{◌≡◌, List}
use Rattle.std.specs.Option.{option_map}
use Rattle.shred_model.specs.Runs.{Answer, Ran}
use Rattle.shred_model.specs.States.{configuration_of}
use Rattle.shred_table.specs.declared.id.Kind.{Kind}
use Rattle.shred_table.specs.declared.id.ResourceId.{ResourceId}
use Rattle.shred_table.specs.Shown.{Lent, shown, IsSameSlots}
use Rattle.shred_run.specs.declared.entry.Group.{Group}
use Rattle.shred_run.specs.declared.entry.StageFault.{StageFault}
use Rattle.shred_run.specs.Entries.{GroupRun, group_states}
use Rattle.shred_run.specs.Hands.{FitsGroup, HasPlaces}
use Rattle.shred_run.specs.OwnLists.{IsGroupOf}
use Rattle.shred_run.specs.OwnSlots.{HasGroupSlots}
use Rattle.shred_run.specs.PlanOf.{group_plan}
use Rattle.shred_run.specs.Steps.{Step}

-- The group's kept lists are what its works may touch, its table has the slots that it writes and no others, and its entries have their places.
pub record IsReady {V S : Type 0} (own : S → List ResourceId → List ResourceId → Type 0) (lent : Lent V) (group : Group V S) : Type 0 where
  pub own_lists : IsGroupOf own group
  pub own_slots : HasGroupSlots lent group.hand (group_plan group)
  pub just_slots : FitsGroup group
  pub places : HasPlaces group.hand group

-- The group ran over what its table shows; all beside its works and the values in its table stayed.
pub record GroupWent {V S E : Type 0} (kind : V → Kind) (step : Step V S E) (own : S → List ResourceId → List ResourceId → Type 0) (lent : Lent V) (old : Group V S) (answer : Answer (StageFault E)) (new : Group V S) : Type 0 where
  pub ran : Ran (GroupRun kind step 0 (group_plan old)) (configuration_of (group_states old) (shown kind lent old.hand)) answer (configuration_of (group_states new) (shown kind lent new.hand))
  pub plan : group_plan new ≡ group_plan old
  pub own_lists : IsGroupOf own new
  pub ids : new.ids ≡ old.ids
  pub written : new.written ≡ old.written
  pub kinds : (id : ResourceId) → option_map kind (shown kind lent new.hand id) ≡ option_map kind (shown kind lent old.hand id)
  pub slots : IsSameSlots old.hand new.hand
