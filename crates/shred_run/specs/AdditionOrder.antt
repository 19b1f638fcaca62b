-- The entries of a plan one by one, and the order in which they were added.
use Rattle.std.specs.Prelude.{◌≡◌, ◌⊎◌, ℕ, suc, ◌<◌, List, [], ◌∷◌, ◌++◌, map, Option, Some}
use Rattle.shred_model.specs.Access.{Access, Conflicts}
use Rattle.shred_model.specs.Plan.{PlanEntry, Group, Stage, Plan, entry_at}
use Rattle.shred_model.specs.Record.{Record, Agent}

-- an entry of a plan, with the place where it stands
pub record PlacedEntry (I : Type 0) : Type 0 where
  pub place : Agent
  pub entry : PlanEntry I

-- the same, inside the element at place n
abbrev pub placed_in : {I : Type 0} → ℕ → PlacedEntry I → PlacedEntry I
placed_in n placed = record { place = n ∷ placed.place; entry = placed.entry }

-- the entries in the elements of a list, one element after the other, from place n on
abbrev pub entries_in_each : {X I : Type 0} → (X → List (PlacedEntry I)) → ℕ → List X → List (PlacedEntry I)
entries_in_each within n [] = []
entries_in_each within n (x ∷ rest) = map (placed_in n) (within x) ++ entries_in_each within (suc n) rest

-- an entry alone
abbrev pub entry_alone : {I : Type 0} → PlanEntry I → List (PlacedEntry I)
entry_alone entry = record { place = []; entry = entry } ∷ []

-- the entries of a group, in order
abbrev pub group_entries : {I : Type 0} → Group I → List (PlacedEntry I)
group_entries group = entries_in_each entry_alone 0 group

-- the entries of a stage, group after group
abbrev pub stage_entries : {I : Type 0} → Stage I → List (PlacedEntry I)
stage_entries stage = entries_in_each group_entries 0 stage

-- the entries of a plan, stage after stage
abbrev pub plan_entries : {I : Type 0} → Plan I → List (PlacedEntry I)
plan_entries plan = entries_in_each stage_entries 0 plan

-- the first place comes before the second: where they first differ, it has the smaller number
abbrev pub StandsBefore : Agent → Agent → Type 0
StandsBefore (n ∷ a) (m ∷ b) = (n < m) ⊎ ((n ≡ m) × StandsBefore a b)
StandsBefore a b = ⊥

-- of two entries that conflict, the one that stands first in the plan has the smaller id, as a builder gives it to what is added first
abbrev pub KeepsAddition : {I : Type 0} → Plan I → Type 0
KeepsAddition {I} plan = (place other : Agent) (entry next : PlanEntry I) → entry_at plan place ≡ Some entry → entry_at plan other ≡ Some next → Conflicts entry.access next.access → StandsBefore place other → entry.id < next.id

-- the record, of an agent inside the one at this place
abbrev pub under_place : {I V S O : Type 0} → Agent → Record Agent I V S O → Record Agent I V S O
under_place place r = record r { agent = place ++ r.agent }

-- Own says which lists are runs of what stands somewhere, with this access, that were Done.
module _ {I V S O T : Type 0} (Own : (Agent → Option T) → Access I → List (Record Agent I V S O) → Type 0) where
  -- the runs of these entries, one after the other in this order, each of which was Done
  abbrev pub EntriesRun : (Agent → Option T) → List (PlacedEntry I) → List (Record Agent I V S O) → Type 0
  EntriesRun all [] list = list ≡ []
  EntriesRun all (placed ∷ rest) list = (own : List (Record Agent I V S O)) × (others : List (Record Agent I V S O)) × Own (λ path. all (placed.place ++ path)) placed.entry.access own × (list ≡ map (under_place placed.place) own ++ others) × EntriesRun all rest others
