-- Turns of a stage's groups.
use Rattle.std.specs.Prelude.{◌≡◌, List, All, map}
use Rattle.std.specs.Option.{option_map}
use Rattle.shred_model.specs.Runs.{Answer, Ran}
use Rattle.shred_model.specs.States.{configuration_of, listed_states}
use Rattle.shred_table.specs.declared.id.Kind.{Kind}
use Rattle.shred_table.specs.declared.id.ResourceId.{ResourceId}
use Rattle.shred_world.specs.Worked.{Held}
use Rattle.shred_run.specs.declared.entry.Group.{Group}
use Rattle.shred_run.specs.declared.entry.StageFault.{StageFault}
use Rattle.shred_run.specs.Entries.{group_states}
use Rattle.shred_run.specs.Hands.{KeepsRoom}
use Rattle.shred_run.specs.OwnLists.{IsGroupOf}
use Rattle.shred_run.specs.PlanOf.{group_numbers, groups_plan}
use Rattle.shred_run.specs.Entries.{StageRun}
use Rattle.shred_run.specs.Steps.{Step}

-- The groups took their stage's turn, from these values to those; all beside their systems is as before, and their hands have empty slots again.
pub record TookTurn {V S E : Type 0} (kind : V → Kind) (step : Step V S E) (own : S → List ResourceId → List ResourceId → Type 0) (old : List (Group V S)) (before : Held V) (answer : Answer (StageFault E)) (new : List (Group V S)) (after : Held V) : Type 0 where
  pub ran : Ran (StageRun kind step (groups_plan old)) (configuration_of (listed_states group_states old) before) answer (configuration_of (listed_states group_states new) after)
  pub plan : groups_plan new ≡ groups_plan old
  pub own_lists : All (IsGroupOf own) new
  pub ids : map group_numbers new ≡ map group_numbers old
  pub room : All KeepsRoom new
  pub kinds : (id : ResourceId) → option_map kind (after id) ≡ option_map kind (before id)
