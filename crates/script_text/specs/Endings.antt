-- How a script's run ends: with the outcome of its dispatch, or with an error.
use Rattle.std.specs.Prelude.{ℕ, Result, Ok, Err}
use Rattle.shred_stage.specs.declared.add_error.AddError.{AddError}
use Rattle.shred_stage.specs.declared.add_error.AddError.TheVariants as builder
use Rattle.shred_stage.specs.declared.dispatch.dispatch_error.DispatchError.{DispatchError}
use Rattle.shred_stage.specs.declared.dispatch.dispatch_error.DispatchError.TheVariants.{System as at_system, ThreadLocal, StageMemory as at_stage}
use Rattle.shred_run.specs.declared.system.Fault.{Fault}
use Rattle.shred_run.specs.declared.system.Fault.TheVariants.{Refused as refuses, OutOfMemory as wants_memory}
use Rattle.script_text.specs.declared.error.AddRefusal.TheVariants.{NoSuchSystem, NameTaken, IdsExhausted, ThreadLocalInBatch, RuleTooLate}
use Rattle.script_text.specs.declared.error.LineError.{LineError}
use Rattle.script_text.specs.declared.error.LineError.TheVariants.{Fault as has_fault, Memory}
use Rattle.script_text.specs.declared.error.ScriptError.{ScriptError}
use Rattle.script_text.specs.declared.error.ScriptError.TheVariants.{TooLong, InputFailed, Line, Refused as refused_line, Unnamed, OutOfMemory, OutputFailed}
use Rattle.script_text.specs.declared.outcome.Failure.{Failure}
use Rattle.script_text.specs.declared.outcome.Failure.TheVariants.{Refused, OutOfMemory as NoMemory}
use Rattle.script_text.specs.declared.outcome.Outcome.{Outcome}
use Rattle.script_text.specs.declared.outcome.Outcome.TheVariants.{Done, System, Local, StageMemory}
use Rattle.script_text.specs.declared.outcome.Refusal.{Refusal}

-- what a system's fault is told as
abbrev pub failure_of : Fault Refusal → Failure
failure_of (refuses refusal) = Refused refusal
failure_of wants_memory = NoMemory

-- what the answer of a dispatch is told as
abbrev pub outcome_of : Result (Unit {0}) (DispatchError Refusal) → Outcome
outcome_of (Ok done) = Done
outcome_of (Err (at_system id fault)) = System id.0 (failure_of fault)
outcome_of (Err (ThreadLocal index fault)) = Local index (failure_of fault)
outcome_of (Err (at_stage stage)) = StageMemory stage

-- what is told where a line is not taken up
abbrev pub error_at : ℕ → LineError → ScriptError
error_at line (has_fault fault) = Line line fault
error_at line (Memory refused) = OutOfMemory

-- what is told where the builder does not take the system of a line
abbrev pub add_error : ℕ → AddError → ScriptError
add_error line (builder.NoSuchSystem place) = refused_line line (NoSuchSystem place)
add_error line builder.NameTaken = refused_line line NameTaken
add_error line builder.IdsExhausted = refused_line line IdsExhausted
add_error line builder.OutOfMemory = OutOfMemory
add_error line builder.ThreadLocalInBatch = refused_line line ThreadLocalInBatch
add_error line builder.RuleTooLate = refused_line line RuleTooLate

-- the status of an outcome: 0 where nothing was refused, else 2
abbrev pub outcome_status : Outcome → ℕ
outcome_status Done = 0
outcome_status (System id failure) = 2
outcome_status (Local index failure) = 2
outcome_status (StageMemory stage) = 2

-- the status of an error: 2 where a system is refused, has no name to be printed, or memory is refused, else 1
abbrev pub error_status : ScriptError → ℕ
error_status OutOfMemory = 2
error_status TooLong = 1
error_status InputFailed = 1
error_status (Line line fault) = 1
error_status (refused_line line refusal) = 2
error_status (Unnamed id) = 2
error_status OutputFailed = 1

-- the status of how a script's run ends
abbrev pub status_of : Result Outcome ScriptError → ℕ
status_of (Ok outcome) = outcome_status outcome
status_of (Err error) = error_status error
