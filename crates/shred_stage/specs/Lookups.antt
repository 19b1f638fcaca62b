-- Systems, looked up by their ids.
use Rattle.std.specs.Prelude.{◌≡◌, ℕ, List, [], ◌∷◌, Option, Some, None, cond, nat_eq}
use Rattle.std.specs.Option.{option_map}
use Rattle.shred_model.specs.Plan.{entry_at}
use Rattle.shred_model.specs.Record.{Agent}
use Rattle.shred_run.specs.declared.entry.Group.{Group}
use Rattle.shred_run.specs.declared.entry.GroupEntry.{GroupEntry}
use Rattle.shred_run.specs.declared.work.Work.{Work}
use Rattle.shred_run.specs.declared.work.Work.TheVariants.{System, Batch}
use Rattle.shred_stage.specs.Plans.{plan_states}
use Rattle.shred_stage.specs.StagePlan.{plan_of}
use Rattle.shred_stage.specs.declared.dispatch.stage.Stage.{Stage}

-- what is there, or else the next
abbrev pub given_or : {B : Type 0} → Option B → Option B → Option B
given_or None next = next
given_or (Some b) next = Some b

-- what the first of these gives that gives something
abbrev pub first_given : {A B : Type 0} → (A → Option B) → List A → Option B
first_given gives [] = None
first_given gives (a ∷ rest) = given_or (gives a) (first_given gives rest)

-- the system of this work, if it is one
abbrev pub work_system : {S B : Type 0} → Work S B → Option S
work_system (System s) = Some s
work_system (Batch b) = None

-- the system of the entry, if this is its id
abbrev pub entry_system : {V S B : Type 0} → ℕ → GroupEntry V (Work S B) → Option S
entry_system id entry = cond (nat_eq entry.id.0 id) (work_system entry.work) None

-- the system of this id in a group
abbrev pub group_system : {V S B : Type 0} → ℕ → Group V (Work S B) → Option S
group_system id group = first_given (entry_system id) group.entries.items

-- the system of this id in a stage
abbrev pub stage_system : {V S C N A M B : Type 0} {vd : _} {sd : _} {ad : _} {cd : _} {bd : _} → ℕ → Stage V S C N A M B vd sd ad cd bd → Option S
stage_system id stage = first_given (group_system id) stage.groups.items

-- the system of this id in a plan
abbrev pub plan_system : {V S C N A M B : Type 0} {vd : _} {sd : _} {ad : _} {cd : _} {bd : _} → ℕ → List (Stage V S C N A M B vd sd ad cd bd) → Option S
plan_system id stages = first_given (stage_system id) stages

-- The system stands at a place of the plan, under this id.
pub record IsSystemOf {V S C N A M B : Type 0} {vd : _} {sd : _} {ad : _} {cd : _} {bd : _} (stages : List (Stage V S C N A M B vd sd ad cd bd)) (id : ℕ) (system : S) : Type 0 where
  pub path : Agent
  pub numbered : option_map (λ entry. entry.id) (entry_at (plan_of stages) path) ≡ Some id
  pub stands : plan_states stages path ≡ Some (System system)
