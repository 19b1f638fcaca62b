-- What the planner keeps of a system.
use Rattle.std.specs.Prelude.{◌≡◌, ◌↔◌, ℕ, List, Contains, AllPairs}
use Rattle.shred_table.specs.Id.{IsBefore}
use Rattle.shred_table.specs.Slots.{among}
use Rattle.shred_table.specs.declared.id.ResourceId.{ResourceId}
use Rattle.shred_model.specs.Plan.{PlanEntry}
use Rattle.shred_run.specs.Time.{time_count}
use Rattle.shred_run.specs.declared.system.RunningTime.{RunningTime}

-- The reads are kept in order, each once; the writes as they were given; the time as its count.
pub record IsKept (id : ℕ) (reads writes : List ResourceId) (time : RunningTime) (entry : PlanEntry ResourceId) : Type 0 where
  pub same_id : entry.id ≡ id
  pub reads_in_order : AllPairs IsBefore entry.access.reads
  pub same_reads : (i : ResourceId) → Contains entry.access.reads i ↔ Contains reads i
  pub same_writes : entry.access.writes ≡ writes
  pub same_time : entry.time ≡ time_count time

-- the kept lists have just the ids of the declared ones
pub record AreOwnLists (reads writes kept_reads kept_writes : List ResourceId) : Type 0 where
  pub same_reads : (id : ResourceId) → among kept_reads id ≡ among reads id
  pub same_writes : (id : ResourceId) → among kept_writes id ≡ among writes id

-- the two lists have the same ids
abbrev pub HaveSameIds : (ids others : List ResourceId) → Type 0
HaveSameIds ids others = (id : ResourceId) → Contains ids id ↔ Contains others id
