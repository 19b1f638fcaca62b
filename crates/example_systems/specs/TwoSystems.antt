-- Two systems in one plan, and what they leave.
use Rattle.std.specs.Prelude.{◌≡◌, ◌≢◌, ◌↔◌, ℤ, pos, List, [], ◌∷◌, Option, Some, None, Ok, Contains}
use Rattle.shred_model.specs.Plan.{PlanEntry, Plan}
use Rattle.shred_model.specs.Record.{Agent}
use Rattle.shred_table.specs.Slots.{with_at}
use Rattle.shred_table.specs.declared.id.ResourceId.{ResourceId}
use Rattle.shred_table.specs.declared.only.Only.{Only}
use Rattle.shred_world.specs.Worked.{Held}
use Rattle.shred_world.specs.declared.world.view.DataError.{DataError}
use Rattle.shred_run.specs.Alone.{IsStepOver}
use Rattle.shred_run.specs.Steps.{Step}
use Rattle.shred_run.specs.declared.work.Work.{Work}
use Rattle.shred_run.specs.declared.work.Work.TheVariants.{System}
use Rattle.shred_orders.specs.EntryPaths.{entries_with_paths}
use Rattle.shred_orders.specs.OneEnd.{own_access}
use Rattle.example_systems.specs.Numbers.{kind_of, number_id, number_value}

-- what the world holds at first: 5 at place 1, 0 at place 2 and nothing else
abbrev pub five_and_zero : Held (Only ℤ)
five_and_zero = with_at (with_at (λ id. None) (number_id 1) (Some (number_value (pos 5)))) (number_id 2) (Some (number_value (pos 0)))

-- The entry writes the ids that the system declares, in its order, and reads those that it declares, in any.
pub record HasListsOf {S : Type 0} (reads writes : S → List ResourceId) (system : S) (entry : PlanEntry ResourceId) : Type 0 where
  pub same_reads : (id : ResourceId) → Contains entry.access.reads id ↔ Contains (reads system) id
  pub same_writes : entry.access.writes ≡ writes system

-- The plan has two entries at different paths, the first with the one system and its lists, and the second with the other and its.
pub record HasInOrder {S B : Type 0} (reads writes : S → List ResourceId) (first second : S) (plan : Plan ResourceId) (works : Agent → Option (Work S B)) : Type 0 where
  pub path : Agent
  pub entry : PlanEntry ResourceId
  pub its_path : Agent
  pub its_entry : PlanEntry ResourceId
  pub order : entries_with_paths plan ≡ (path, entry) ∷ (its_path, its_entry) ∷ []
  pub apart : path ≢ its_path
  pub stands : works path ≡ Some (System first)
  pub its_stands : works its_path ≡ Some (System second)
  pub lists : HasListsOf reads writes first entry
  pub its_lists : HasListsOf reads writes second its_entry

-- The first system took a step over 5 at place 1 and 0 at place 2, and the second one over what that left; both were Done, and the number is left at place 2.
pub record AreLeftAtTwo {S : Type 0} (step : Step (Only ℤ) S DataError) (reads writes : S → List ResourceId) (first second : S) (number : ℤ) : Type 0 where
  pub after : S
  pub middle : Held (Only ℤ)
  pub its_after : S
  pub last : Held (Only ℤ)
  pub ran : IsStepOver kind_of step (own_access reads writes first) first five_and_zero (Ok tt) after middle
  pub its_run : IsStepOver kind_of step (own_access reads writes second) second middle (Ok tt) its_after last
  pub left : last (number_id 2) ≡ Some (number_value number)
