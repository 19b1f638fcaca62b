-- How a run ends that shows a plan.
use Rattle.std.specs.Prelude.{◌≡◌, ◌⊎◌, ℕ, IsTrue, List, Option, Result, Ok, Err, IfErr, IfOk, OnOk}
use Rattle.std.specs.Io.KnownBytes.{Appends, Keeps}
use Rattle.shred_stage.specs.Sinks.{AppendsBeginning}
use Rattle.script_engine.specs.Lines.{IsNotBuilt}
use Rattle.script_engine.specs.Runs.{IsReadAs}
use Rattle.plan_engine.specs.declared.plans.Plans.{Plans}
use Rattle.plan_engine.specs.Plans.{HaveChoice}
use Rattle.script_text.specs.declared.error.AddRefusal.{AddRefusal}
use Rattle.script_text.specs.declared.error.ScriptError.{ScriptError}
use Rattle.script_text.specs.declared.script.PlanLine.{PlanLine}
use Rattle.script_text.specs.declared.script.Script.{Script}
use Rattle.script_text.specs.declared.error.ScriptError.TheVariants.{OutputFailed, Refused}
use Rattle.script_text.specs.Endings.{error_status}
use Rattle.script_text.specs.Texts.{error_text, line_of}
use Rattle.plan_engine.specs.Attempts.{AreAttempts}
use Rattle.plan_engine.specs.Reports.{IsReportOf}
use Rattle.plan_engine.specs.declared.attempts.Attempt.{Attempt}
use Rattle.plan_engine.specs.Shown.{AreShownOf}
use Rattle.plan_engine.specs.declared.wanted.Wanted.{Wanted}
use Rattle.plan_engine.specs.declared.wanted.Wanted.TheVariants.{Choices, Dot, Report, Svg}

-- the status of plans that are shown: 4 where a choice that is there is denied, else 0
abbrev pub HasStatus : Wanted → Plans → ℕ → Type 0
HasStatus Dot plans status = status ≡ 0
HasStatus Svg plans status = status ≡ 0
HasStatus Report plans status = status ≡ 0
HasStatus (Choices denied) plans status = ((status ≡ 0) × (IsTrue denied → HaveChoice plans → ⊥)) ⊎ ((status ≡ 4) × IsTrue denied × HaveChoice plans)

-- the text that is shown of plans: of a report, what it says by these attempts
abbrev pub SaysOf : Wanted → Plans → List Attempt → List ℕ → Type 0
SaysOf Dot plans attempts text = Unit {0}
SaysOf Svg plans attempts text = Unit {0}
SaysOf (Choices denied) plans attempts text = Unit {0}
SaysOf Report plans attempts text = IsReportOf plans attempts text

-- what is tried beforehand: for a report, the lines without each declaration
abbrev pub AreTried : Wanted → Script → List Attempt → Type 0
AreTried Dot script attempts = Unit {0}
AreTried Svg script attempts = Unit {0}
AreTried (Choices denied) script attempts = Unit {0}
AreTried Report script attempts = AreAttempts script.plan.items attempts

-- the plans of this script are shown, with their status
abbrev pub IsScriptShown : Wanted → Script → Option (List ℕ) → Option (List ℕ) → ℕ → Type 0
IsScriptShown wanted script old new status = (plans : Plans) × AreShownOf script plans × HasStatus wanted plans status × ((attempts : List Attempt) × AreTried wanted script attempts × ((text : List ℕ) × SaysOf wanted plans attempts text × Appends old new text))

-- what was read says a script, whose plans are shown, with their status
abbrev pub IsShown : Wanted → Option (List ℕ) → Option (List ℕ) → Option (List ℕ) → Option (List ℕ) → ℕ → Type 0
IsShown wanted read left old new status = (script : Script) × IsReadAs script read left × IsScriptShown wanted script old new status

-- where one of these lines is told to be refused, the builders refuse it
abbrev pub IsRefusedLine : List PlanLine → ScriptError → Type 0
IsRefusedLine lines error = (line : ℕ) (refusal : AddRefusal) → error ≡ Refused line refusal → IsNotBuilt lines error

-- where a line is told to be refused, the builders refuse it
abbrev pub IsRefusedByBuilders : Script → ScriptError → Type 0
IsRefusedByBuilders script error = IsRefusedLine script.plan.items error

-- where a line is told to be refused, what was read says a script of which the builders refuse it
abbrev pub IsRefusedAsRead : Option (List ℕ) → Option (List ℕ) → ScriptError → Type 0
IsRefusedAsRead read left error = (line : ℕ) (refusal : AddRefusal) → error ≡ Refused line refusal → (script : Script) × IsReadAs script read left × IsNotBuilt script.plan.items error

-- nothing was added to standard output, unless output failed
abbrev pub IsNotShown : Option (List ℕ) → Option (List ℕ) → ScriptError → Type 0
IsNotShown old new error = (error ≡ OutputFailed) ⊎ Keeps old new

-- the status of an end
abbrev pub shown_status : Result ℕ ScriptError → ℕ
shown_status (Ok status) = status
shown_status (Err error) = error_status error

-- A run ended somehow: the status says how. Where plans are shown, a text was added to standard output, and nothing to standard
-- error; of an error its line is told there, or a beginning of it, and only where output failed may something be on standard output. A line that is told to be refused the builders refuse.
pub record HasToldPlan (wanted : Wanted) (status : ℕ) (read left out out_after err err_after : Option (List ℕ)) : Type 0 where
  pub ending : Result ℕ ScriptError
  pub status_is : status ≡ shown_status ending
  pub shown : IfOk ending (IsShown wanted read left out out_after)
  pub not_shown : IfErr ending (IsNotShown out out_after)
  pub refused : IfErr ending (IsRefusedAsRead read left)
  pub quiet : OnOk ending (Keeps err err_after)
  pub told : IfErr ending (λ error. AppendsBeginning err err_after (line_of (error_text error)))
