-- What systems declare, each resource by itself.
use Rattle.std.specs.Prelude.{ℕ, ◌+◌, List, [], ◌∷◌, ◌++◌, map}
use Rattle.script_text.specs.Declares.{places_read, places_written}
use Rattle.script_text.specs.declared.script.PlanLine.{PlanLine}
use Rattle.script_text.specs.declared.script.PlanLine.TheVariants.{System, Local, Barrier, Rule, Batch, End}
use Rattle.script_text.specs.declared.script.SystemLine.{SystemLine}
use Rattle.script_text.specs.declared.step.Step.{Step}
use Rattle.plan_engine.specs.Together.{with_places}
use Rattle.plan_engine.specs.declared.claims.Claim.{Claim}

-- the resources that steps declare: those that they write, and then those that they only read
abbrev pub claimed_by : List Step → List ℕ
claimed_by steps = with_places (places_written [] steps) (places_read [] steps)

-- these resources, as the system of the line at this place, with this number, declares them
abbrev pub claims_on : ℕ → ℕ → List ℕ → List Claim
claims_on place line resources = map (λ resource. record { place = place; line = line; resource = resource }) resources

-- what the system of the line at this place declares
abbrev pub system_claims : ℕ → SystemLine → List Claim
system_claims place system = claims_on place system.line (claimed_by system.steps.items)

-- what the line at this place declares, which is nothing where it is not that of a staged system
abbrev pub line_claims : ℕ → PlanLine → List Claim
line_claims place (System system) = system_claims place system
line_claims place (Local steps) = []
line_claims place Barrier = []
line_claims place (Rule line) = []
line_claims place (Batch batch) = []
line_claims place (End line) = []

-- what lines declare, the first of which stands at this place
abbrev pub claims_from : ℕ → List PlanLine → List Claim
claims_from place [] = []
claims_from place (line ∷ lines) = line_claims place line ++ claims_from (place + 1) lines
