-- What the steps of a system do, in order, to the values that are seen.
use Rattle.std.specs.Prelude.{cond, List, [], ◌∷◌, Ok, Err, is_ok}
use Rattle.std.specs.Result.{result_and}
use Rattle.shred_world.specs.Worked.{Held}
use Rattle.shred_run.specs.declared.system.Fault.TheVariants.{Refused}
use Rattle.shred_run.specs.Steps.{Outcome}
use Rattle.script_text.specs.Change.{change_left, change_outcome, changed}
use Rattle.script_text.specs.declared.outcome.Refusal.{Refusal}
use Rattle.script_text.specs.declared.outcome.Refusal.TheVariants.{Code}
use Rattle.script_text.specs.declared.step.Step.{Step}
use Rattle.script_text.specs.declared.step.Step.TheVariants.{Change, Declare, Refuse}
use Rattle.script_text.specs.declared.value.Value.{Value}

-- how one step ends on these values
abbrev pub step_outcome : Step → Held Value → Outcome Refusal
step_outcome (Change target operation operand) seen = change_outcome (changed seen target operation operand)
step_outcome (Declare declared) seen = Ok tt
step_outcome (Refuse code) seen = Err (Refused (Code code))

-- the values that one step leaves of these
abbrev pub step_left : Step → Held Value → Held Value
step_left (Change target operation operand) seen = change_left seen target (changed seen target operation operand)
step_left (Declare declared) seen = seen
step_left (Refuse code) seen = seen

-- how the steps end, in order: as the first that is refused, or Done where none is
abbrev pub steps_outcome : List Step → Held Value → Outcome Refusal
steps_outcome [] seen = Ok tt
steps_outcome (step ∷ steps) seen = result_and (step_outcome step seen) (steps_outcome steps (step_left step seen))

-- the values that the steps leave, in order: no step after the first that is refused does anything
abbrev pub steps_left : List Step → Held Value → Held Value
steps_left [] seen = seen
steps_left (step ∷ steps) seen = cond (is_ok (step_outcome step seen)) (steps_left steps (step_left step seen)) (step_left step seen)
