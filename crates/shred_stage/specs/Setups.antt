-- Setup and disposal of stages, and what a dispatch tells of a fault in them.
use Rattle.std.specs.Prelude.{◌≡◌, ℕ, [], ◌∷◌}
use Rattle.shred_model.specs.Runs.{Answer}
use Rattle.shred_world.specs.Worked.{Held}
use Rattle.shred_run.specs.EntrySetups.{stage_fault}
use Rattle.shred_run.specs.PlanSetups.{DisposedOf, SetUp}
use Rattle.shred_run.specs.Steps.{Outcome}
use Rattle.shred_run.specs.WorkSetups.{Setups}
use Rattle.shred_run.specs.declared.entry.StageFault.{StageFault}
use Rattle.shred_run.specs.declared.system.Fault.{Fault}
use Rattle.shred_stage.specs.Situations.{dispatch_answer, stages_with}
use Rattle.shred_stage.specs.declared.dispatch.dispatch_error.DispatchError.{DispatchError}
use Rattle.shred_stage.specs.declared.dispatch.dispatch_error.DispatchError.TheVariants.{System}
use Rattle.shred_stage.specs.declared.dispatch.stage.Stage.{Stage}

-- a dispatcher tells the fault of an entry with the entry's id
abbrev pub dispatch_fault : {E : Type 0} → ℕ → Fault E → DispatchError E
dispatch_fault id fault = System (record { 0 = id }) fault

module _ {V S C E N A M B : Type 0} {vd : _} {sd : _} {ad : _} {cd : _} {bd : _} where
  -- the setup of the stage at this place
  abbrev pub StageSetupAt : Setups V S C E → ℕ → Stage V S C N A M B vd sd ad cd bd → Held V → Answer (DispatchError E) → Stage V S C N A M B vd sd ad cd bd → Held V → Type 0
  StageSetupAt setups place stage before answer new after = (a : Answer (StageFault E)) × SetUp setups stage_fault (stages_with (stage ∷ []) before) a (stages_with (new ∷ []) after) × (answer ≡ dispatch_answer place a)

  -- the disposal of the stage at this place
  abbrev pub StageDisposalAt : (S → Held V → Outcome E → Held V → Type 0) → ℕ → Stage V S C N A M B vd sd ad cd bd → Held V → Answer (DispatchError E) → Held V → Type 0
  StageDisposalAt disposes place stage before answer after = (a : Answer (StageFault E)) × DisposedOf disposes stage_fault (stages_with (stage ∷ []) before) a after × (answer ≡ dispatch_answer place a)
