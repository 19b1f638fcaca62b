-- Dispatches of a script over a world.
use Rattle.std.specs.Prelude.{ℕ}
use Rattle.shred_model.specs.Runs.{Answer}
use Rattle.shred_world.specs.Worked.{Held}
use Rattle.shred_world.specs.Worlds.{world_held}
use Rattle.shred_world.specs.declared.world.World.{World}
use Rattle.shred_stage.specs.declared.dispatch.dispatch_error.DispatchError.{DispatchError}
use Rattle.shred.specs.FullRuns.{Whole, whole_over}
use Rattle.shred.specs.declared.dispatch.dispatcher.Dispatcher.{Dispatcher}
use Rattle.script_text.specs.declared.outcome.Refusal.{Refusal}
use Rattle.script_text.specs.declared.value.Value.{Value}
use Rattle.script_text.specs.Value.{value_kind}
use Rattle.script_engine.specs.Runs.{AreDispatched, IsOnce, LeavesValues, Program}

-- a dispatcher of a script's values, over those of a world
abbrev pub script_over : {S C L N A M B : Type 0} {vd : _} {sd : _} {ad : _} {cd : _} {bd : _} → Dispatcher Value S C L N A M B vd sd ad cd bd → World Value → Whole Value S C L
script_over dispatcher world = whole_over value_kind dispatcher world

-- the program that something makes with the values of a world
abbrev pub program_in : {D : Type 0} → (D → Held Value → Program) → D → World Value → Program
program_in program made world = program made (world_held value_kind world)

-- it was dispatched once over the world
abbrev pub IsOnceOver : {D : Type 0} → (D → Held Value → Program) → D → World Value → Answer (DispatchError Refusal) → D → World Value → Type 0
IsOnceOver program old before answer new after = IsOnce (program_in program old before) answer (program_in program new after)

-- it was dispatched that many times, up to the first dispatch that is not Done
abbrev pub AreDispatchedOver : {D : Type 0} → (D → Held Value → Program) → ℕ → D → World Value → Answer (DispatchError Refusal) → D → World Value → Type 0
AreDispatchedOver program times old before answer new after = AreDispatched times (program_in program old before) answer (program_in program new after)

-- the world has the values that so many dispatches of the program leave
abbrev pub LeavesWorldBy : (ℕ → Program → Answer (DispatchError Refusal) → Program → Type 0) → ℕ → Program → Answer (DispatchError Refusal) → World Value → Type 0
LeavesWorldBy Ran times before answer world = LeavesValues (Ran times before answer) (world_held value_kind world)
