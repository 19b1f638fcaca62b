-- What a builder has planned.
use Rattle.std.specs.Prelude.{◌≡◌, ◌++◌, [], ◌∷◌, ℕ, Option, List}
use Rattle.shred_table.specs.declared.id.ResourceId.{ResourceId}
use Rattle.shred_model.specs.Access.{Access}
use Rattle.shred_model.specs.Plan.{Plan, PlanEntry}
use Rattle.shred_model.specs.Record.{Agent}
use Rattle.shred_stage.specs.Plans.{plan_states}
use Rattle.shred_stage.specs.StagePlan.{plan_of}
use Rattle.shred_run.specs.Kept.{IsKept}
use Rattle.shred_run.specs.PlanOf.{entry_plan, numbers_of}
use Rattle.shred_run.specs.declared.entry.GroupEntry.{GroupEntry}
use Rattle.shred_run.specs.declared.entry.SystemId.{SystemId}
use Rattle.shred_run.specs.declared.system.System as systems
use Rattle.shred_run.specs.declared.work.Nested.{Nested}
use Rattle.shred_run.specs.declared.work.Work.{Work}
use Rattle.shred_run.specs.declared.work.Work.TheVariants.{System as ASystem}
use Rattle.shred_stage.specs.Search.{PlaceIs}
use Rattle.shred_stage.specs.SearchStart.{IsSearchStart}
use Rattle.shred_stage.specs.declared.dispatch.rule.Rule.{Rule}
use Rattle.shred_stage.specs.declared.dispatch.stage.Spot.{Spot}
use Rattle.shred_stage.specs.declared.dispatch.stages_builder.StagesBuilder.{StagesBuilder}
use Rattle.shred_stage.specs.Placement.{IsPlaced}
use Rattle.shred_stage.specs.Inserted.{IsInserted}

-- the builder's plan
abbrev pub planned : {V S C N A M B : Type 0} {vd : _} {sd : _} {ad : _} {cd : _} {bd : _} → StagesBuilder V S C N A M B vd sd ad cd bd → Plan ResourceId
planned builder = plan_of builder.stages.items

-- the stage from which on new entries are placed
abbrev pub barrier_of : {V S C N A M B : Type 0} {vd : _} {sd : _} {ad : _} {cd : _} {bd : _} → StagesBuilder V S C N A M B vd sd ad cd bd → ℕ
barrier_of builder = builder.barrier

-- where its searches begin
abbrev pub rule_of : {V S C N A M B : Type 0} {vd : _} {sd : _} {ad : _} {cd : _} {bd : _} → StagesBuilder V S C N A M B vd sd ad cd bd → Rule
rule_of builder = builder.rule

-- the states of its systems, by stage, group and position
abbrev pub builder_states : {V S C N A M B : Type 0} {vd : _} {sd : _} {ad : _} {cd : _} {bd : _} → StagesBuilder V S C N A M B vd sd ad cd bd → Agent → Option (Work S (Nested V S C))
builder_states builder path = plan_states builder.stages.items path

module _ {V S C N A M B : Type 0} {vd : _} {sd : _} {ad : _} {cd : _} {bd : _} where
  -- the entry is placed by a search from this stage on
  abbrev pub PlacesEntry : (old new : StagesBuilder V S C N A M B vd sd ad cd bd) → ℕ → List SystemId → GroupEntry V (Work S (Nested V S C)) → Type 0
  PlacesEntry old new start dependencies entry = IsPlaced (planned old) (barrier_of old) start (numbers_of dependencies) (entry_plan entry) (planned new)

  -- the entry is inserted by the builder's rule, and what is to stand in it stands there
  abbrev pub InsertsEntry : (old new : StagesBuilder V S C N A M B vd sd ad cd bd) → List SystemId → GroupEntry V (Work S (Nested V S C)) → Type 0
  InsertsEntry old new dependencies entry = IsInserted (rule_of old) (planned old) (planned new) (builder_states old) (builder_states new) (barrier_of old) (numbers_of dependencies) (entry_plan entry) entry.work

  -- the entry got a new last stage
  abbrev pub PushesStage : (old new : StagesBuilder V S C N A M B vd sd ad cd bd) → PlanEntry ResourceId → Type 0
  PushesStage old new entry = planned new ≡ planned old ++ ((entry ∷ []) ∷ []) ∷ []

  -- the search for a stage that takes an entry of this access begins here
  abbrev pub IsStartOf : StagesBuilder V S C N A M B vd sd ad cd bd → Access ResourceId → ℕ → Type 0
  IsStartOf builder access start = IsSearchStart (rule_of builder) (planned builder) (barrier_of builder) access start

  -- the search from this stage on finds the place
  abbrev pub IsPlaceFrom : StagesBuilder V S C N A M B vd sd ad cd bd → ℕ → List ℕ → PlanEntry ResourceId → Option (ℕ × Spot) → Type 0
  IsPlaceFrom builder start left entry place = PlaceIs (planned builder) (barrier_of builder) start left entry place

module _ {V S C N A M B : Type 0} {vd : _} {sd : systems.Ghosts S V N A} {ad : _} {cd : _} {bd : _} where
  -- what is kept of the system is inserted by the builder's rule, and the system stands there
  abbrev pub InsertsSystem : (old new : StagesBuilder V S C N A M B vd sd ad cd bd) → List SystemId → SystemId → S → Type 0
  InsertsSystem old new dependencies id system = (entry : PlanEntry ResourceId) × IsKept id.0 (sd.reads system) (sd.writes system) (sd.time system) entry
      × IsInserted (rule_of old) (planned old) (planned new) (builder_states old) (builder_states new) (barrier_of old) (numbers_of dependencies) entry (ASystem system)
