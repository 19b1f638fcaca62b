-- A script's run, put together from its parts.
use Rattle.std.proofs.Common.{◌≡◌, ◌++◌, Bool, true, false, List, sym, subst₂}
use Rattle.std.proofs.Math.Path.{fun_ext}
use Rattle.shred.specs.FullRuns.{whole_over}
use Rattle.shred_model.specs.Record.{Agent}
use Rattle.shred_model.specs.Runs.{Answer}
use Rattle.shred_stage.specs.Names.{AreNames, NamedId}
use Rattle.shred_stage.specs.declared.dispatch.dispatch_error.DispatchError.{DispatchError}
use Rattle.shred_world.specs.Worked.{Held}
use Rattle.script_text.specs.Endings.{outcome_of}
use Rattle.script_text.specs.Report.{report, resource_names}
use Rattle.script_text.specs.Value.{value_kind}
use Rattle.script_text.specs.declared.error.ScriptError.{ScriptError}
use Rattle.script_text.specs.declared.error.ScriptError.TheVariants.{TooLong, InputFailed, Line, Refused, Unnamed, OutOfMemory, OutputFailed}
use Rattle.script_text.specs.declared.outcome.Outcome.{Outcome}
use Rattle.script_text.specs.declared.outcome.Refusal.{Refusal}
use Rattle.script_text.specs.declared.script.Manner.{Manner}
use Rattle.script_text.specs.declared.script.Script.{Script}
use Rattle.script_text.specs.declared.value.Value.{Value}
use Rattle.script_engine.specs.Lines.{ScriptBuilt}
use Rattle.script_engine.specs.PlanTexts.{IsNotPlanned}
use Rattle.script_engine.specs.Ready.{IsReadyFor}
use Rattle.script_engine.specs.Runs.{AreSetUpAndDispatched, IsMadeOf, IsNotRun, IsRunOf, LeavesValues, Program, program_of}
use Rattle.script_engine.specs.declared.run_plan.Ready.{Ready}

-- the plan and the systems are what was built, and the values are the first ones
pub program-of : (built : ScriptBuilt) (first : Held Value) (start : Program) → start.staged.plan ≡ built.plan → ((path : Agent) → start.staged.works path ≡ built.states path) → start.staged.values ≡ first
    → start.locals ≡ built.locals → start.workers ≡ built.workers → start ≡ program_of built first
program-of built first start plan states held locals workers =
    let works = fun_ext states in
    λ i. record { staged = record { plan = plan i; works = works i; values = held i }; locals = locals i; workers = workers i }

-- what was ready to run is run
pub run-of : (script : Script) (ready : Ready) (is : IsReadyFor script ready) (answer : Answer (DispatchError Refusal)) (held : Held Value) (outcome : Outcome) → LeavesValues (AreSetUpAndDispatched ready.manner.times (whole_over value_kind ready.dispatcher ready.world) answer) held → outcome ≡ outcome_of answer
    → IsRunOf script outcome (ready.text.items ++ report (resource_names ready.resources) held outcome)
run-of script ready is answer held outcome (after, ran, same) ends = record {
  begins = ready.text.items;
  plan = is.plan;
  answer = answer;
  after = after;
  ran = subst₂ (λ (manner : Manner) (start : Program). AreSetUpAndDispatched manner.times start answer after) is.manner is.program ran;
  outcome_is = ends;
  text_is = λ i. ready.text.items ++ report (resource_names (is.resources i)) (sym same i) outcome;
}

-- the plan was not made, which is asked for where it can fail
pub not-run : (script : Script) (built : ScriptBuilt) (names : List NamedId) (asked : Bool) (error : ScriptError) → script.prints_plan ≡ asked → IsMadeOf script.plan.items script.manner.workers built → AreNames names built.known
    → IsNotPlanned asked names built.plan error → IsNotRun script error
not-run script built names true (Unnamed id) is made known why = record { asked = is; built = built; made = made; names = names; known = known; first = why }
not-run script built names true OutOfMemory is made known why = tt
not-run script built names true TooLong is made known why = absurd why
not-run script built names true InputFailed is made known why = absurd why
not-run script built names true (Line number fault) is made known why = absurd why
not-run script built names true (Refused number refusal) is made known why = absurd why
not-run script built names true OutputFailed is made known why = absurd why
not-run script built names false error is made known why = absurd why
