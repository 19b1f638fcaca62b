-- The plan, as plain data, that entries and groups hold.
use Rattle.std.specs.Prelude.{◌≡◌, ℕ, List, map}
use Rattle.shred_table.specs.declared.id.ResourceId.{ResourceId}
use Rattle.shred_model.specs.Access.{Access}
use Rattle.shred_model.specs.Plan as model
use Rattle.shred_run.specs.Time.{time_count}
use Rattle.shred_run.specs.declared.entry.SystemId.{SystemId}
use Rattle.shred_run.specs.declared.entry.GroupEntry.{GroupEntry}
use Rattle.shred_run.specs.declared.entry.Group.{Group}

-- the numbers of some ids
abbrev pub numbers_of : List SystemId → List ℕ
numbers_of ids = map (λ id. id.0) ids

-- what the work in an entry may touch
abbrev pub entry_access : {V S : Type 0} → GroupEntry V S → Access ResourceId
entry_access entry = record { reads = entry.reads.items; writes = entry.writes.items }

-- an entry, but for the work in it
abbrev pub entry_plan : {V S : Type 0} → GroupEntry V S → model.PlanEntry ResourceId
entry_plan entry = record { id = entry.id.0; access = entry_access entry; time = time_count entry.time }

-- the numbers of the ids beside a group's entries
abbrev pub group_numbers : {V S : Type 0} → Group V S → List ℕ
group_numbers group = numbers_of group.ids.items

-- a group's entries, in order
abbrev pub group_plan : {V S : Type 0} → Group V S → model.Group ResourceId
group_plan group = map entry_plan group.entries.items

-- the groups of a stage, in order
abbrev pub groups_plan : {V S : Type 0} → List (Group V S) → model.Stage ResourceId
groups_plan groups = map group_plan groups

-- the ids beside a group's entries are those of the entries
abbrev pub HasEntryIds : {V S : Type 0} → Group V S → Type 0
HasEntryIds group = numbers_of group.ids.items ≡ model.group_ids (group_plan group)
