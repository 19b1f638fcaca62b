-- What the setup and the disposal of a plan leave. Stages promise it, told as the plan of that stage alone, and so do dispatchers.
use Rattle.std.specs.Prelude.{◌≡◌, ℕ, None}
use Rattle.shred_model.specs.Plan.{entry_at}
use Rattle.shred_model.specs.Record.{Agent}
use Rattle.shred_model.specs.Runs.{Answer}
use Rattle.shred_world.specs.Worked.{Held}
use Rattle.shred_run.specs.AdditionOrder.{plan_entries}
use Rattle.shred_run.specs.Dispatched.{Situation, occupants_of}
use Rattle.shred_run.specs.EntrySetups.{DisposedInOrder, SetUpInOrder}
use Rattle.shred_run.specs.Steps.{Outcome}
use Rattle.shred_run.specs.WorkSetups.{Setups}
use Rattle.shred_run.specs.Rules.{RuleDisposal, RuleSetup}
use Rattle.shred_run.specs.declared.system.Fault.{Fault}

-- `told` says what is told of the fault of the entry with an id.
module _ {V S C E F : Type 0} (setups : Setups V S C E) (told : ℕ → Fault E → F) where
  -- Each entry of the plan was set up at its place, in the plan's order, up to the first that is not Done, whose fault is told; what stands behind it stays. Where the plan has no entry, nothing stands, before and after. The plan stays, and so does what stands at each path.
  pub record SetUp (before : Situation V S C) (answer : Answer F) (after : Situation V S C) : Type 0 where
    pub in_order : SetUpInOrder told (RuleSetup setups None) before.works after.works (plan_entries before.plan) before.values answer after.values
    pub nowhere_else : (path : Agent) → entry_at before.plan path ≡ None → (before.works path ≡ None) × (after.works path ≡ None)
    pub plan : after.plan ≡ before.plan
    pub occupants : (path : Agent) → occupants_of after path ≡ occupants_of before path

module _ {V S C E F : Type 0} (disposes : S → Held V → Outcome E → Held V → Type 0) (told : ℕ → Fault E → F) where
  -- each entry of the plan was disposed of, in the plan's order, also behind one that is not Done; the answer tells the first such
  abbrev pub DisposedOf : Situation V S C → Answer F → Held V → Type 0
  DisposedOf before answer after = DisposedInOrder told (RuleDisposal disposes None) before.works (plan_entries before.plan) before.values answer after
