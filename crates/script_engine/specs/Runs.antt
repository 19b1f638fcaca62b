-- Runs of scripts.
use Rattle.std.specs.Prelude.{◌≡◌, ◌⊎◌, ℕ, zero, suc, ◌≤◌, Bool, true, List, [], ◌++◌, length, map, Option, Some, Result, Ok, Err, OnOk, IfErr, MatchResult}
use Rattle.std.specs.Io.KnownBytes.{Appends, Consumes, IsAtEnd, Keeps}
use Rattle.indexmap.specs.IndexMap.{values}
use Rattle.shred_model.specs.Plan.{plan_ids}
use Rattle.shred_model.specs.Runs.{Answer}
use Rattle.shred_world.specs.Worked.{Held}
use Rattle.script_engine.specs.declared.local.ScriptLocal.{ScriptLocal}
use Rattle.shred.specs.Built.{IsPoolSet}
use Rattle.shred_stage.specs.Names.{AreNames, NamedId, first_unnamed}
use Rattle.shred.specs.FullRuns.{FullyDispatched, Whole}
use Rattle.shred_stage.specs.Sinks.{AppendsBeginning}
use Rattle.shred_run.specs.Steps.{Outcome as Ends}
use Rattle.shred_run.specs.Controls.{Control}
use Rattle.shred_run.specs.Depths.{Declared, Related, relations_of}
use Rattle.shred_run.specs.PlanSetups.{SetUp}
use Rattle.shred_run.specs.WorkSetups.{Setups, setups_by}
use Rattle.shred_stage.specs.Setups.{dispatch_fault}
use Rattle.shred_stage.specs.declared.dispatch.dispatch_error.DispatchError.{DispatchError}
use Rattle.script_text.specs.declared.error.ScriptError.{ScriptError}
use Rattle.script_text.specs.declared.error.ScriptError.TheVariants.{TooLong, InputFailed, Line, Refused, Unnamed, OutOfMemory, OutputFailed}
use Rattle.script_text.specs.declared.input.TheConstants.{MOST_BYTES}
use Rattle.script_text.specs.declared.outcome.Outcome.{Outcome}
use Rattle.script_text.specs.declared.outcome.Refusal.{Refusal}
use Rattle.script_text.specs.declared.script.PlanLine.{PlanLine}
use Rattle.script_text.specs.declared.script.Script.{Script}
use Rattle.script_engine.specs.declared.batch.ScriptBatch.{ScriptBatch}
use Rattle.script_engine.specs.declared.system.ScriptSystem.{ScriptSystem}
use Rattle.script_text.specs.declared.value.Value.{Value}
use Rattle.script_text.specs.Endings.{outcome_of, status_of}
use Rattle.script_text.specs.Input.{IsLongerThan}
use Rattle.script_text.specs.Place.{id_at}
use Rattle.script_engine.specs.Lines.{IsBuiltBy, IsNotBuilt, ScriptBuilt}
use Rattle.script_engine.specs.PlanTexts.{IsPlanPart}
use Rattle.script_text.specs.Report.{numbers_held, resource_names, report}
use Rattle.script_engine.specs.Steps.{steps_left, steps_outcome}
use Rattle.script_text.specs.Scripts.{IsScriptOf}
use Rattle.script_text.specs.Texts.{error_text, line_of}
use Rattle.script_text.specs.Value.{value_kind}

-- what a run of a script's system does: its steps, in order; the system stays as it was
abbrev pub script_step : ScriptSystem → Held Value → Ends Refusal → ScriptSystem → Held Value → Type 0
script_step before seen outcome after left = (after ≡ before) × (outcome ≡ steps_outcome before.steps.items seen) × (left ≡ steps_left before.steps.items seen)

-- what a run of a script's thread-local system does: its steps, in order, over all that the world holds; the system stays as it was
abbrev pub local_step : ScriptLocal → Held Value → Ends Refusal → ScriptLocal → Held Value → Type 0
local_step before held outcome after left = (after ≡ before) × (outcome ≡ steps_outcome before.steps.items held) × (left ≡ steps_left before.steps.items held)

-- what a script's batch begins with: so many rounds, and it stays as it was
abbrev pub batch_begins : Control Value ScriptBatch ℕ Refusal
batch_begins before seen outcome after left = (after ≡ before) × (outcome ≡ Ok before.rounds) × (left ≡ seen)

-- what a script's batch says before each round: yes, and it stays as it was
abbrev pub batch_asks : Control Value ScriptBatch Bool Refusal
batch_asks before seen outcome after left = (after ≡ before) × (outcome ≡ Ok true) × (left ≡ seen)

-- the lists that a script's systems declare; its batches' controllers declare none
abbrev pub script_lists : Declared ScriptSystem ScriptBatch
script_lists = record { reads = λ system. map id_at system.declared.read.items; writes = λ system. map id_at system.declared.written.items; control_reads = λ batch. []; control_writes = λ batch. [] }

-- the relations of a script's systems and of its batches' controllers: of a system its steps, of a batch so many rounds of its plan
abbrev pub script_related : Related Value ScriptSystem ScriptBatch Refusal
script_related = relations_of script_lists script_step batch_begins batch_asks

-- the setup of a script's system, or of its batch's controller: nothing changes
abbrev pub IsIdle : {S : Type 0} → S → Held Value → Ends Refusal → S → Held Value → Type 0
IsIdle before seen outcome after left = (after ≡ before) × (outcome ≡ Ok tt) × (left ≡ seen)

-- the relations of the setups of a script's systems, and of its batches' controllers
abbrev pub script_setups : Setups Value ScriptSystem ScriptBatch Refusal
script_setups = setups_by script_lists IsIdle IsIdle

-- a plan of a script's systems and batches, with these and its thread-local systems, and the values of a world
abbrev pub Program : Type 0
Program = Whole Value ScriptSystem ScriptBatch ScriptLocal

-- one dispatch: the plan's run, and where it is Done, that of the thread-local systems
abbrev pub IsOnce : Program → Answer (DispatchError Refusal) → Program → Type 0
IsOnce before answer after = FullyDispatched value_kind script_related local_step before answer after

-- that many dispatches, one after another, up to the first that is not Done, whose answer is the answer; it is Done where there is none
abbrev pub AreDispatched : ℕ → Program → Answer (DispatchError Refusal) → Program → Type 0
AreDispatched zero before answer after = (answer ≡ Ok tt) × (after ≡ before)
AreDispatched (suc n) before answer after = (a : Answer (DispatchError Refusal)) × (middle : Program) × IsOnce before a middle
    × MatchResult a
    (λ done. AreDispatched n middle answer after)
    (λ fault. (after ≡ middle) × (answer ≡ Err fault))

-- a program that is so has these values
abbrev pub LeavesValues : (Program → Type 0) → Held Value → Type 0
LeavesValues is held = (after : Program) × is after × (after.staged.values ≡ held)

-- What stands in the plan was set up, and all else is as before, the values too.
pub record IsSetUpFrom (before after : Program) : Type 0 where
  pub staged : SetUp script_setups dispatch_fault before.staged (Ok tt) after.staged
  pub values : after.staged.values ≡ before.staged.values
  pub locals : after.locals ≡ before.locals
  pub workers : after.workers ≡ before.workers

-- the program is set up, and then dispatched that many times
abbrev pub AreSetUpAndDispatched : ℕ → Program → Answer (DispatchError Refusal) → Program → Type 0
AreSetUpAndDispatched times before answer after = (ready : Program) × IsSetUpFrom before ready × AreDispatched times ready answer after

-- what lines make of an empty builder, which is then given this number of workers
abbrev pub IsMadeOf : List PlanLine → ℕ → ScriptBuilt → Type 0
IsMadeOf lines workers built = (all : ScriptBuilt) × IsBuiltBy lines all × IsPoolSet all built workers

-- what was built, over these values
abbrev pub program_of : ScriptBuilt → Held Value → Program
program_of built held = record { staged = record { plan = built.plan; works = built.states; values = held }; locals = built.locals; workers = built.workers }

-- What a script prints before it is run: with the number of workers that is asked for its lines make a plan, and this is its part of the text.
pub record IsPlanOf (script : Script) (text : List ℕ) : Type 0 where
  pub built : ScriptBuilt
  pub made : IsMadeOf script.plan.items script.manner.workers built
  pub names : List NamedId
  pub known : AreNames names built.known
  pub planned : IsPlanPart script.prints_plan names built.plan text

-- A script is run: its plan is set up and dispatched, from the first values of its resources on, as often as asked; the text is what is printed before it, and what this left and how it ended.
pub record IsRunOf (script : Script) (outcome : Outcome) (text : List ℕ) : Type 0 where
  pub begins : List ℕ
  pub plan : IsPlanOf script begins
  pub answer : Answer (DispatchError Refusal)
  pub after : Program
  pub ran : AreSetUpAndDispatched script.manner.times (program_of plan.built (numbers_held (values script.resources))) answer after
  pub outcome_is : outcome ≡ outcome_of answer
  pub text_is : text ≡ begins ++ report (resource_names script.resources) after.staged.values outcome

-- A script is not run, since its plan is asked for and a system has no name, of which the first in the plan's order has this id.
pub record IsUnnamed (script : Script) (id : ℕ) : Type 0 where
  pub asked : script.prints_plan ≡ true
  pub built : ScriptBuilt
  pub made : IsMadeOf script.plan.items script.manner.workers built
  pub names : List NamedId
  pub known : AreNames names built.known
  pub first : Some id ≡ first_unnamed names (plan_ids built.plan)

-- why a script that was read is not run: one of its lines is refused, a batch has no end or an end no batch, a system has no name to be printed, or memory is refused
abbrev pub IsNotRun : Script → ScriptError → Type 0
IsNotRun script (Refused number refusal) = IsNotBuilt script.plan.items (Refused number refusal)
IsNotRun script (Unnamed id) = IsUnnamed script id
IsNotRun script OutOfMemory = Unit {0}
IsNotRun script TooLong = ⊥
IsNotRun script InputFailed = ⊥
IsNotRun script (Line number fault) = IsNotBuilt script.plan.items (Line number fault)
IsNotRun script OutputFailed = ⊥

-- all that was left, where that is known, was read, and it is not too long
abbrev pub IsRead : Option (List ℕ) → Option (List ℕ) → Type 0
IsRead old new = (text : List ℕ) × (length text ≤ MOST_BYTES) × Consumes old new text × IsAtEnd new

-- the same, and what was read says this script
abbrev pub IsReadAs : Script → Option (List ℕ) → Option (List ℕ) → Type 0
IsReadAs script old new = (text : List ℕ) × (length text ≤ MOST_BYTES) × Consumes old new text × IsAtEnd new × IsScriptOf text script

-- what was read says a script that is not run, and this is why
abbrev pub IsReadInVain : ScriptError → Option (List ℕ) → Option (List ℕ) → Type 0
IsReadInVain error old new = (script : Script) × IsReadAs script old new × IsNotRun script error

-- what was read before a run ended so: the whole text, which in the case of a refused line or a missing name says a script that is not run for just that; or of one that is too long, more than may be read; or anything, where a read failed or memory was refused
abbrev pub IsReadFor : Result Outcome ScriptError → Option (List ℕ) → Option (List ℕ) → Type 0
IsReadFor (Ok outcome) old new = IsRead old new
IsReadFor (Err OutputFailed) old new = IsRead old new
IsReadFor (Err (Line number fault)) old new = IsRead old new
IsReadFor (Err (Refused number refusal)) old new = IsReadInVain (Refused number refusal) old new
IsReadFor (Err (Unnamed id)) old new = IsReadInVain (Unnamed id) old new
IsReadFor (Err TooLong) old new = IsLongerThan MOST_BYTES old
IsReadFor (Err InputFailed) old new = Unit {0}
IsReadFor (Err OutOfMemory) old new = Unit {0}

-- what standard output holds after a script's end: of an outcome the text of its run was added; where output failed, a beginning of what it prints before it is run, or of the text of some outcome's run; of any other error nothing, and this is why it is not run
abbrev pub IsPrinted : Script → Result Outcome ScriptError → Option (List ℕ) → Option (List ℕ) → Type 0
IsPrinted script (Ok outcome) old new = (text : List ℕ) × IsRunOf script outcome text × Appends old new text
IsPrinted script (Err OutputFailed) old new = (text : List ℕ) × (IsPlanOf script text ⊎ ((outcome : Outcome) × IsRunOf script outcome text)) × AppendsBeginning old new text
IsPrinted script (Err OutOfMemory) old new = IsNotRun script OutOfMemory × Keeps old new
IsPrinted script (Err TooLong) old new = IsNotRun script TooLong × Keeps old new
IsPrinted script (Err InputFailed) old new = IsNotRun script InputFailed × Keeps old new
IsPrinted script (Err (Line number fault)) old new = IsNotRun script (Line number fault) × Keeps old new
IsPrinted script (Err (Refused number refusal)) old new = IsNotRun script (Refused number refusal) × Keeps old new
IsPrinted script (Err (Unnamed id)) old new = IsNotRun script (Unnamed id) × Keeps old new

-- the text of an outcome's run was added, of the script that was read
abbrev pub IsTold : Outcome → Option (List ℕ) → Option (List ℕ) → Option (List ℕ) → Option (List ℕ) → Type 0
IsTold outcome read left old new = (script : Script) × (text : List ℕ) × IsReadAs script read left × IsRunOf script outcome text × Appends old new text

-- a beginning was added of what the script that was read prints before it is run, or of the text of some outcome's run of it
abbrev pub IsBegun : Option (List ℕ) → Option (List ℕ) → Option (List ℕ) → Option (List ℕ) → Type 0
IsBegun read left old new = (script : Script) × (text : List ℕ) × IsReadAs script read left × (IsPlanOf script text ⊎ ((outcome : Outcome) × IsRunOf script outcome text)) × AppendsBeginning old new text

-- what standard output holds after a run that ended so: of an outcome its text was added, of failed output a beginning of it or of what comes before the run, and of any other error nothing
abbrev pub IsReported : Result Outcome ScriptError → Option (List ℕ) → Option (List ℕ) → Option (List ℕ) → Option (List ℕ) → Type 0
IsReported (Ok outcome) read left old new = IsTold outcome read left old new
IsReported (Err OutputFailed) read left old new = IsBegun read left old new
IsReported (Err OutOfMemory) read left old new = Keeps old new
IsReported (Err TooLong) read left old new = Keeps old new
IsReported (Err InputFailed) read left old new = Keeps old new
IsReported (Err (Line number fault)) read left old new = Keeps old new
IsReported (Err (Refused number refusal)) read left old new = Keeps old new
IsReported (Err (Unnamed id)) read left old new = Keeps old new

-- A script's run ended somehow: the status says how, what it needs was read, standard output was told of it, and standard error nothing of an outcome and of an error its line, or a beginning of it.
pub record HasEnded (status : ℕ) (text text_left out out_after err err_after : Option (List ℕ)) : Type 0 where
  pub ending : Result Outcome ScriptError
  pub status_is : status ≡ status_of ending
  pub read : IsReadFor ending text text_left
  pub reported : IsReported ending text text_left out out_after
  pub quiet : OnOk ending (Keeps err err_after)
  pub told : IfErr ending (λ error. AppendsBeginning err err_after (line_of (error_text error)))

-- the report is made from what the reader still had, and to what the writer had
abbrev pub IsReportedTo : {R O : Type 0} → (R → Option (List ℕ)) → (O → Option (List ℕ)) → Result Outcome ScriptError → R → R → O → O → Type 0
IsReportedTo remaining contents ending reader left out after = IsReported ending (remaining reader) (remaining left) (contents out) (contents after)
