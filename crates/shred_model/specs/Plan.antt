-- A plan as plain data: who runs when, and who may run beside whom.
use Rattle.std.specs.Prelude.{ℕ, List, Option, map, sum_by}
use Rattle.std.specs.List.{flat_map}
use Rattle.shred_model.specs.Access.{Access}
use Rattle.shred_model.specs.Record.{Agent}
use Rattle.shred_model.specs.States.{own_state, listed_states}

-- an entry: its id, what it may touch, and its time
pub record PlanEntry (I : Type 0) : Type 0 where
  pub id : ℕ
  pub access : Access I
  pub time : ℕ

-- a group: entries that run one after the other
abbrev pub Group : Type 0 → Type 0
Group I = List (PlanEntry I)

-- a stage: groups that run beside each other
abbrev pub Stage : Type 0 → Type 0
Stage I = List (Group I)

-- a plan: stages that run one after the other
abbrev pub Plan : Type 0 → Type 0
Plan I = List (Stage I)

-- the ids of a group's entries, in order
abbrev pub group_ids : {I : Type 0} → Group I → List ℕ
group_ids g = map (λ e. e.id) g

-- a group's access joins its entries' accesses
abbrev pub group_access : {I : Type 0} → Group I → Access I
group_access g = record { reads = flat_map (λ e. e.access.reads) g; writes = flat_map (λ e. e.access.writes) g }

-- a group's time is the sum of its entries' times
abbrev pub group_time : {I : Type 0} → Group I → ℕ
group_time g = sum_by (λ e. e.time) g

-- the ids of a stage's entries, group after group
abbrev pub stage_ids : {I : Type 0} → Stage I → List ℕ
stage_ids s = flat_map group_ids s

-- the ids of a plan's entries, stage after stage
abbrev pub plan_ids : {I : Type 0} → Plan I → List ℕ
plan_ids p = flat_map stage_ids p

-- the entry at a place, if there is one: a stage, a group of it and a position in that group
abbrev pub entry_at : {I : Type 0} → Plan I → Agent → Option (PlanEntry I)
entry_at plan path = listed_states (listed_states (listed_states own_state)) plan path
