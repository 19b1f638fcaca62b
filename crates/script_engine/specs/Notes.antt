-- What the lines of a script make of what takes them: of its builders, and of what is noted beside them.
use Rattle.std.specs.Prelude.{◌≡◌, ℕ, List, [], ◌∷◌, ◌++◌, map}
use Rattle.shred.specs.Built.{IsRuleSet, IsSameBuilt}
use Rattle.shred_stage.specs.declared.dispatch.rule.Rule as rules
use Rattle.script_text.specs.declared.error.ScriptError.{ScriptError}
use Rattle.script_text.specs.declared.script.BatchLine.{BatchLine}
use Rattle.script_text.specs.declared.script.PlanLine.{PlanLine}
use Rattle.script_text.specs.declared.script.PlanLine.TheVariants.{System, Local, Barrier, Rule, Batch, End}
use Rattle.script_text.specs.declared.script.SystemLine.{SystemLine}
use Rattle.script_text.specs.declared.step.Step.{Step}
use Rattle.script_engine.specs.Lines.{Building, Builts, IsBatchAdded, IsBatchNotAdded, IsLineAdded, IsLineTaken, IsLocalTaken, ScriptBuilt}

-- What a builder has come to, and what is noted beside it: of a system's line, nothing, of a batch that begins, by what takes its lines, and of one that ends, with what took its lines.
pub record Noting (B : Type 0) : Type 1 where
  pub comes_to : B → ScriptBuilt
  pub system : SystemLine → B → B → Type 0
  pub same : B → B → Type 0
  pub begins : BatchLine → B → B → Type 0
  pub batch : BatchLine → B → B → B → Type 0

-- a line's system is added to what its builder has come to
abbrev pub AddsLine : {B : Type 0} → Noting B → SystemLine → B → B → Type 0
AddsLine N line old new = IsLineAdded line (N.comes_to old) (N.comes_to new)

-- a thread-local system of these steps is
abbrev pub AddsLocal : {B : Type 0} → Noting B → List Step → B → B → Type 0
AddsLocal N steps old new = IsLocalTaken steps (N.comes_to old) (N.comes_to new)

-- the rule is set there
abbrev pub SetsRule : {B : Type 0} → Noting B → rules.Rule → B → B → Type 0
SetsRule N rule old new = IsRuleSet (N.comes_to old) (N.comes_to new) rule

-- a batch is added there, of what the inner builder has come to
abbrev pub AddsBatchLine : {B : Type 0} → Noting B → BatchLine → B → B → B → Type 0
AddsBatchLine N batch inner old new = IsBatchAdded batch (N.comes_to inner) (N.comes_to old) (N.comes_to new)

-- why it is not, by the line of this number that ends it
abbrev pub RefusesBatch : {B : Type 0} → Noting B → ℕ → BatchLine → B → B → ScriptError → Type 0
RefusesBatch N end batch inner around error = IsBatchNotAdded end batch (N.comes_to around) (N.comes_to inner) error

-- what its builder has come to stays
abbrev pub KeepsBuilt : {B : Type 0} → Noting B → B → B → Type 0
KeepsBuilt N old new = IsSameBuilt (N.comes_to old) (N.comes_to new)

-- an open batch, with what the builder has come to that is to take it
abbrev pub begun : {B : Type 0} → Noting B → BatchLine × B → BatchLine × ScriptBuilt
begun N one = (one.0, N.comes_to one.1)

-- what their builders have come to
abbrev pub builts_of : {B : Type 0} → Noting B → Building B → Builts
builts_of N building = record { current = N.comes_to building.current; pending = map (begun N) building.pending }

-- The innermost open batch is noted in what is around it, with what took its lines, and that is gone on with.
pub record IsBatchNoted {B : Type 0} (N : Noting B) (old new : Building B) : Type 0 where
  pub outer : List (BatchLine × B)
  pub batch : BatchLine
  pub around : B
  pub innermost : old.pending ≡ outer ++ (batch, around) ∷ []
  pub noted : N.batch batch old.current around new.current
  pub rest : new.pending ≡ outer

-- what is noted of a line
abbrev pub IsLineNoted : {B : Type 0} → Noting B → PlanLine → Building B → Building B → Type 0
IsLineNoted N (System line) old new = N.system line old.current new.current × (new.pending ≡ old.pending)
IsLineNoted N (Local steps) old new = N.same old.current new.current × (new.pending ≡ old.pending)
IsLineNoted N Barrier old new = N.same old.current new.current × (new.pending ≡ old.pending)
IsLineNoted N (Rule line) old new = N.same old.current new.current × (new.pending ≡ old.pending)
IsLineNoted N (Batch batch) old new = N.begins batch old.current new.current × (new.pending ≡ old.pending ++ (batch, old.current) ∷ [])
IsLineNoted N (End line) old new = IsBatchNoted N old new

-- a line is taken by the builders, and noted
abbrev pub TakesLine : {B : Type 0} → Noting B → PlanLine → Building B → Building B → Type 0
TakesLine N line old new = IsLineTaken line (builts_of N old) (builts_of N new) × IsLineNoted N line old new

-- lines are, one after another
abbrev pub AreAllTaken : {B : Type 0} → Noting B → List PlanLine → Building B → Building B → Type 0
AreAllTaken N [] old new = new ≡ old
AreAllTaken {B} N (line ∷ lines) old new = (next : Building B) × TakesLine N line old next × AreAllTaken N lines next new

-- lines are, and end each batch that they begin
abbrev pub AreNotedBy : {B : Type 0} → Noting B → List PlanLine → B → B → Type 0
AreNotedBy N lines empty whole = AreAllTaken N lines (record { current = empty; pending = [] }) (record { current = whole; pending = [] })
