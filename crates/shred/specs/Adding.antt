-- Additions to a builder: which are allowed, how they are refused, and what they add.
use Rattle.std.specs.Borrow.{Bor}
use Rattle.std.specs.Prelude.{ℕ, List}
use Rattle.shred_run.specs.Alone.{access_by}
use Rattle.shred_run.specs.declared.controller.BatchController as controllers
use Rattle.shred_run.specs.declared.system.System as systems
use Rattle.shred_run.specs.declared.work.Nested.{Nested}
use Rattle.shred_run.specs.declared.work.Tier.{Tier}
use Rattle.shred_run.specs.declared.work.Work.{Work}
use Rattle.shred_run.specs.declared.work.Work.TheVariants.{System}
use Rattle.shred_stage.specs.Known.{texts_of}
use Rattle.shred_stage.specs.Refusals.{IsBatchRefusal, IsRefusal, MayAdd}
use Rattle.shred_stage.specs.declared.add_error.AddError.{AddError}
use Rattle.shred.specs.Batches.{IsBatchAddition, IsTiersAddition}
use Rattle.shred.specs.Builders.{built}
use Rattle.shred.specs.Built.{IsAddition, IsEntryAdded}
use Rattle.shred.specs.declared.dispatch.builder.DispatcherBuilder.{DispatcherBuilder}
use Rattle.shred_run.specs.declared.entry.GroupEntry.{GroupEntry}
use Rattle.shred_run.specs.PlanOf.{entry_plan}

module _ {V S C L N A M B : Type 0} {vd : _} {sd : systems.Ghosts S V N A} {ad : _} {cd : controllers.Ghosts C V M B} {bd : _} where
  -- the builder may take what is added under this name
  abbrev pub MayAddTo : DispatcherBuilder V S C L N A M B vd sd ad cd bd → List ℕ → List (Bor (List ℕ)) → Type 0
  MayAddTo builder name dependencies = MayAdd (built builder).known (built builder).next name (texts_of dependencies)

  -- how the builder refuses a system
  abbrev pub IsAddRefusal : DispatcherBuilder V S C L N A M B vd sd ad cd bd → List ℕ → List (Bor (List ℕ)) → AddError → Type 0
  IsAddRefusal builder name dependencies error = IsRefusal (built builder).known (built builder).next name (texts_of dependencies) error

  -- how the builder refuses a batch of what the first one has come to
  abbrev pub IsBatchAddRefusal : (inner builder : DispatcherBuilder V S C L N A M B vd sd ad cd bd) → List ℕ → List (Bor (List ℕ)) → AddError → Type 0
  IsBatchAddRefusal inner builder name dependencies error = IsBatchRefusal (built inner).locals (built builder).known (built builder).next name (texts_of dependencies) error

  -- the system is added under this name
  abbrev pub AddsSystem : (old new : DispatcherBuilder V S C L N A M B vd sd ad cd bd) → List ℕ → List (Bor (List ℕ)) → S → Type 0
  AddsSystem old new name dependencies system = IsAddition (built old) (built new) name (texts_of dependencies) (sd.reads system) (sd.writes system) (sd.time system) (System system)

  -- an entry with this in it is added under this name
  abbrev pub AddsEntry : (old new : DispatcherBuilder V S C L N A M B vd sd ad cd bd) → List ℕ → List (Bor (List ℕ)) → GroupEntry V (Work S (Nested V S C)) → Type 0
  AddsEntry old new name dependencies entry = IsEntryAdded (entry_plan entry) (built old) (built new) name (texts_of dependencies) entry.work

  -- a batch of the controller, and of what the other builder has come to, is added under this name
  abbrev pub AddsBatch : (old new : DispatcherBuilder V S C L N A M B vd sd ad cd bd) → List ℕ → List (Bor (List ℕ)) → C → DispatcherBuilder V S C L N A M B vd sd ad cd bd → Type 0
  AddsBatch old new name dependencies controller inner = IsBatchAddition (built old) (built new) name (texts_of dependencies) (access_by cd.reads cd.writes controller) (cd.time controller) controller (built inner)

  -- a batch of the controller and of these tiers is added under this name
  abbrev pub AddsTiers : (old new : DispatcherBuilder V S C L N A M B vd sd ad cd bd) → List ℕ → List (Bor (List ℕ)) → C → List (Tier V (Work S (Nested V S C))) → Type 0
  AddsTiers old new name dependencies controller tiers = IsTiersAddition (built old) (built new) name (texts_of dependencies) (access_by cd.reads cd.writes controller) (cd.time controller) controller tiers
