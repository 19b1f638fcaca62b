-- Runs of entries, groups and stages.
use Rattle.std.specs.Prelude.{◌≡◌, ℕ, List, [], ◌∷◌, Option, Ok, Err}
use Rattle.shred_model.specs.Plan as model
use Rattle.shred_model.specs.Record.{Agent}
use Rattle.shred_model.specs.Runs.{Answer, RunsUpToFault, RunsEach}
use Rattle.shred_model.specs.States.{listed_states, own_state}
use Rattle.shred_table.specs.declared.id.Kind.{Kind}
use Rattle.shred_table.specs.declared.id.ResourceId.{ResourceId}
use Rattle.shred_run.specs.declared.entry.GroupEntry.{GroupEntry}
use Rattle.shred_run.specs.declared.entry.Group.{Group}
use Rattle.shred_run.specs.declared.entry.StageFault.{StageFault}
use Rattle.shred_run.specs.declared.entry.StageFault.TheVariants.{System}
use Rattle.shred_run.specs.Steps.{Outcome, Step, Written, IsStep}

-- the answer of an entry whose step had this outcome
abbrev pub entry_answer : {E : Type 0} → ℕ → Outcome E → Answer (StageFault E)
entry_answer id (Ok done) = Ok tt
entry_answer id (Err fault) = Err (System (record { 0 = id }) fault)

module _ {V S E : Type 0} (kind : V → Kind) (step : Step V S E) where
  -- an entry's run is one step of its work, under the lists that were kept of it
  abbrev pub EntryRun : ℕ → model.PlanEntry ResourceId → List (Written V S E) → Answer (StageFault E) → Type 0
  EntryRun place entry list answer = (r : Written V S E) × (list ≡ r ∷ []) × (r.agent ≡ []) × IsStep kind step entry.access r × (answer ≡ entry_answer entry.id r.outcome)

  -- a group's run joins its entries' runs, in order, up to the first that is not Done
  abbrev pub GroupRun : ℕ → model.Group ResourceId → List (Written V S E) → Answer (StageFault E) → Type 0
  GroupRun place group list answer = RunsUpToFault EntryRun 0 group list answer

  -- a stage's run joins its groups' runs, in order, every group's; its answer is that of the first that is not Done
  abbrev pub StageRun : model.Stage ResourceId → List (Written V S E) → Answer (StageFault E) → Type 0
  StageRun stage list answer = RunsEach GroupRun 0 stage list answer

-- the state of the entry's work
abbrev pub entry_states : {V S : Type 0} → GroupEntry V S → Agent → Option S
entry_states entry path = own_state entry.work path

-- the states of a group's works, by place
abbrev pub group_states : {V S : Type 0} → Group V S → Agent → Option S
group_states group path = listed_states entry_states group.entries.items path
