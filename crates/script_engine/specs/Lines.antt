-- What the lines of a script make of a builder.
use Rattle.std.specs.Prelude.{◌≡◌, ℕ, ◌<◌, List, [], ◌∷◌, ◌++◌, ◌⊎◌}
use Rattle.shred_model.specs.Access.{Access}
use Rattle.shred_table.specs.declared.id.ResourceId.{ResourceId}
use Rattle.script_engine.specs.declared.local.ScriptLocal.{ScriptLocal}
use Rattle.shred.specs.Batches.{IsBatchAddition}
use Rattle.shred.specs.Built.{Built, IsAddition, IsBarrierSet, IsLocalAdded, IsNewBuilt, IsRuleSet}
use Rattle.shred_run.specs.declared.work.Nested.{Nested}
use Rattle.shred_run.specs.declared.work.Work.{Work}
use Rattle.shred_run.specs.declared.work.Work.TheVariants.{System as a_system}
use Rattle.shred_run.specs.declared.system.RunningTime.TheVariants.{VeryLong}
use Rattle.shred_stage.specs.Refusals.{IsBatchRefusal, IsRefusal, MayAdd}
use Rattle.shred_stage.specs.Known.{texts_of}
use Rattle.shred_stage.specs.declared.add_error.AddError.{AddError}
use Rattle.shred_stage.specs.declared.add_error.AddError.TheVariants as builder
use Rattle.script_engine.specs.declared.batch.ScriptBatch.{ScriptBatch}
use Rattle.script_text.specs.declared.error.AddRefusal.{AddRefusal}
use Rattle.script_text.specs.declared.error.AddRefusal.TheVariants.{NoSuchSystem, NameTaken, IdsExhausted, ThreadLocalInBatch, RuleTooLate}
use Rattle.script_text.specs.declared.error.LineFault.TheVariants.{EndWithoutBatch, BatchWithoutEnd}
use Rattle.script_text.specs.declared.error.ScriptError.{ScriptError}
use Rattle.script_text.specs.declared.error.ScriptError.TheVariants.{TooLong, InputFailed, Line, Refused, Unnamed, OutOfMemory, OutputFailed}
use Rattle.script_text.specs.declared.script.BatchLine.{BatchLine}
use Rattle.script_text.specs.declared.script.PlanLine.{PlanLine}
use Rattle.script_text.specs.declared.script.PlanLine.TheVariants.{System, Local, Barrier, Rule, Batch, End}
use Rattle.script_text.specs.declared.script.RuleLine.{RuleLine}
use Rattle.script_text.specs.declared.script.SystemLine.{SystemLine}
use Rattle.script_text.specs.declared.step.Step.{Step}
use Rattle.script_engine.specs.declared.system.ScriptSystem.{ScriptSystem}
use Rattle.script_text.specs.declared.value.Value.{Value}
use Rattle.script_text.specs.Declares.{read_ids, write_ids}

-- what stands in an entry of a script's plan
abbrev pub ScriptWork : Type 0
ScriptWork = Work ScriptSystem (Nested Value ScriptSystem ScriptBatch)

-- what the builder of a script's plan, or of a batch's, has come to
abbrev pub ScriptBuilt : Type 0
ScriptBuilt = Built ScriptWork ScriptLocal

-- What takes the next line, and the batches that are open around it, each with what is to take it, the outermost first.
pub record Building (B : Type 0) : Type 0 where
  pub current : B
  pub pending : List (BatchLine × B)

-- what the builders of a script's plan and of its open batches have come to
abbrev pub Builts : Type 0
Builts = Building ScriptBuilt

-- the names that a line's system depends on
abbrev pub needed : SystemLine → List (List ℕ)
needed line = texts_of line.dependencies.items

-- The line's name is new and those that it depends on are known, and a system of its steps and time is added under that name, after them.
pub record IsLineAdded (line : SystemLine) (old new : ScriptBuilt) : Type 0 where
  pub system : ScriptSystem
  pub steps : system.steps.items ≡ line.steps.items
  pub time : system.time ≡ line.time
  pub allowed : MayAdd old.known old.next line.name.now (needed line)
  pub addition : IsAddition old new line.name.now (needed line) (read_ids line.steps.items) (write_ids line.steps.items) line.time (a_system system)

-- a thread-local system of these steps is added
abbrev pub IsLocalTaken : List Step → ScriptBuilt → ScriptBuilt → Type 0
IsLocalTaken steps old new = (system : ScriptLocal) × (system.steps.items ≡ steps) × IsLocalAdded old new system

-- an empty plan is gone on with, that of the batch
abbrev pub IsBatchOpened : BatchLine → Builts → Builts → Type 0
IsBatchOpened batch old new = IsNewBuilt new.current × (new.pending ≡ old.pending ++ (batch, old.current) ∷ [])

-- the lists of a batch's controller, which are empty
abbrev pub no_access : Access ResourceId
no_access = record { reads = []; writes = [] }

-- the names that a batch depends on
abbrev pub batch_needs : BatchLine → List (List ℕ)
batch_needs batch = texts_of batch.dependencies.items

-- Its names are as a builder asks, and a batch of what was made of the inner plan, which has no thread-local system, is added under them.
pub record IsBatchAdded (batch : BatchLine) (inner old new : ScriptBuilt) : Type 0 where
  pub controller : ScriptBatch
  pub rounds : controller.rounds ≡ batch.rounds
  pub no_local : inner.locals ≡ []
  pub allowed : MayAdd old.known old.next batch.name.now (batch_needs batch)
  pub addition : IsBatchAddition old new batch.name.now (batch_needs batch) no_access VeryLong controller inner

-- The innermost open batch is added to the plan around it, with what was made of its plan, and that is gone on with.
pub record IsBatchEnded (old new : Builts) : Type 0 where
  pub outer : List (BatchLine × ScriptBuilt)
  pub batch : BatchLine
  pub around : ScriptBuilt
  pub innermost : old.pending ≡ outer ++ (batch, around) ∷ []
  pub added : IsBatchAdded batch old.current around new.current
  pub rest : new.pending ≡ outer

-- what a line makes of the builders: its system is added, staged or thread-local, or the barrier or its rule is set, in the innermost one; or a batch begins, or ends
abbrev pub IsLineTaken : PlanLine → Builts → Builts → Type 0
IsLineTaken (System line) old new = IsLineAdded line old.current new.current × (new.pending ≡ old.pending)
IsLineTaken (Local steps) old new = IsLocalTaken steps.items old.current new.current × (new.pending ≡ old.pending)
IsLineTaken Barrier old new = IsBarrierSet old.current new.current × (new.pending ≡ old.pending)
IsLineTaken (Rule line) old new = IsRuleSet old.current new.current line.rule × (new.pending ≡ old.pending)
IsLineTaken (Batch batch) old new = IsBatchOpened batch old new
IsLineTaken (End line) old new = IsBatchEnded old new

-- what lines make of the builders, one after another
abbrev pub AreTaken : List PlanLine → Builts → Builts → Type 0
AreTaken [] old new = new ≡ old
AreTaken (line ∷ lines) old new = (next : Builts) × IsLineTaken line old next × AreTaken lines next new

-- what lines make of an empty builder, and of those that they open
abbrev pub AreBuiltBy : List PlanLine → Builts → Type 0
AreBuiltBy lines building = (empty : ScriptBuilt) × IsNewBuilt empty × AreTaken lines (record { current = empty; pending = [] }) building

-- what lines make of an empty builder, which end each batch that they begin
abbrev pub IsBuiltBy : List PlanLine → ScriptBuilt → Type 0
IsBuiltBy lines built = AreBuiltBy lines (record { current = built; pending = [] })

-- the builder's answer for each refusal that is told
abbrev pub answer_of : AddRefusal → AddError
answer_of (NoSuchSystem place) = builder.NoSuchSystem place
answer_of NameTaken = builder.NameTaken
answer_of IdsExhausted = builder.IdsExhausted
answer_of ThreadLocalInBatch = builder.ThreadLocalInBatch
answer_of RuleTooLate = builder.RuleTooLate

-- why a line's system is not added: the builder refuses it, which is told with the line's number; or memory is refused
abbrev pub IsNotAdded : SystemLine → ScriptBuilt → ScriptError → Type 0
IsNotAdded line built (Refused number refusal) = (number ≡ line.line) × IsRefusal built.known built.next line.name.now (needed line) (answer_of refusal)
IsNotAdded line built OutOfMemory = Unit {0}
IsNotAdded line built TooLong = ⊥
IsNotAdded line built InputFailed = ⊥
IsNotAdded line built (Line number fault) = ⊥
IsNotAdded line built (Unnamed id) = ⊥
IsNotAdded line built OutputFailed = ⊥

-- why a line's rule is not set: a system or a batch was added before, which is told with the line's number
abbrev pub IsRuleNotSet : RuleLine → ScriptBuilt → ScriptError → Type 0
IsRuleNotSet line built error = (0 < built.next) × (error ≡ Refused line.line RuleTooLate)

-- why the innermost open batch is not added: the builder around it refuses it, which is told with the number of the line that ends it; or memory is refused
abbrev pub IsBatchNotAdded : ℕ → BatchLine → ScriptBuilt → ScriptBuilt → ScriptError → Type 0
IsBatchNotAdded line batch around inner (Refused number refusal) = (number ≡ line) × IsBatchRefusal inner.locals around.known around.next batch.name.now (batch_needs batch) (answer_of refusal)
IsBatchNotAdded line batch around inner OutOfMemory = Unit {0}
IsBatchNotAdded line batch around inner TooLong = ⊥
IsBatchNotAdded line batch around inner InputFailed = ⊥
IsBatchNotAdded line batch around inner (Line number fault) = ⊥
IsBatchNotAdded line batch around inner (Unnamed id) = ⊥
IsBatchNotAdded line batch around inner OutputFailed = ⊥

-- why a batch is not ended: none is open, or it is not added
abbrev pub IsBatchNotEnded : ℕ → Builts → ScriptError → Type 0
IsBatchNotEnded line old error = ((old.pending ≡ []) × (error ≡ Line line EndWithoutBatch))
    ⊎ ((outer : List (BatchLine × ScriptBuilt)) × (batch : BatchLine) × (around : ScriptBuilt) × (old.pending ≡ outer ++ (batch, around) ∷ []) × IsBatchNotAdded line batch around old.current error)

-- why a line is not taken: its system is not added, a thread-local one and the beginning of a batch only for want of memory, its rule is not set, and a batch is not ended; a barrier always is set
abbrev pub IsNotTaken : PlanLine → Builts → ScriptError → Type 0
IsNotTaken (System line) old error = IsNotAdded line old.current error
IsNotTaken (Local steps) old error = error ≡ OutOfMemory
IsNotTaken Barrier old error = ⊥
IsNotTaken (Rule line) old error = IsRuleNotSet line old.current error
IsNotTaken (Batch batch) old error = error ≡ OutOfMemory
IsNotTaken (End line) old error = IsBatchNotEnded line old error

-- One of the lines is not taken after those before it.
pub record IsStopped (lines : List PlanLine) (error : ScriptError) : Type 0 where
  pub before : List PlanLine
  pub line : PlanLine
  pub after : List PlanLine
  pub at : lines ≡ before ++ line ∷ after
  pub building : Builts
  pub made : AreBuiltBy before building
  pub stops : IsNotTaken line building error

-- No line ends the innermost batch that is open after all of them.
pub record IsUnended (lines : List PlanLine) (error : ScriptError) : Type 0 where
  pub building : Builts
  pub made : AreBuiltBy lines building
  pub outer : List (BatchLine × ScriptBuilt)
  pub batch : BatchLine
  pub around : ScriptBuilt
  pub innermost : building.pending ≡ outer ++ (batch, around) ∷ []
  pub told : error ≡ Line batch.line BatchWithoutEnd

-- why lines make no plan
abbrev pub IsNotBuilt : List PlanLine → ScriptError → Type 0
IsNotBuilt lines error = IsStopped lines error ⊎ IsUnended lines error
