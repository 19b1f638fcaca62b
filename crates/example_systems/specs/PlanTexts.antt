-- What is printed of a plan.
use Rattle.std.specs.Prelude.{◌≡◌, ℕ, ℤ, Some, None, List, [], ◌∷◌, ◌++◌, codes, pos}
use Rattle.shred_model.specs.Plan.{Plan, plan_ids}
use Rattle.shred_table.specs.declared.id.ResourceId.{ResourceId}
use Rattle.shred_stage.specs.declared.dispatch.printing.PrintError.{PrintError}
use Rattle.shred_stage.specs.declared.dispatch.printing.PrintError.TheVariants.{Unnamed, Write}
use Rattle.shred_stage.specs.Names.{AreNames, NamedId, first_unnamed}
use Rattle.shred_stage.specs.Printed.{line_feed, plan_text}
use Rattle.shred_run.specs.declared.no_batch.NoBatch.{NoBatch}
use Rattle.shred_run.specs.declared.system.RunningTime.TheVariants.{Average}
use Rattle.shred_run.specs.declared.work.Nested.{Nested}
use Rattle.shred_run.specs.declared.work.Work.{Work}
use Rattle.shred_run.specs.declared.work.Work.TheVariants.{System}
use Rattle.shred_table.specs.declared.only.Only.{Only}
use Rattle.shred_world.specs.declared.world.view.DataError.{DataError}
use Rattle.shred_run.specs.declared.now.Now.{Now}
use Rattle.shred.specs.declared.plain.Plain.{Plain}
use Rattle.shred.specs.Built.{Built, IsAddition, IsNewBuilt}
use Rattle.example_systems.specs.declared.enum_of_systems.Job.{Job}
use Rattle.example_systems.specs.declared.enum_of_systems.Job.TheVariants as job
use Rattle.example_systems.specs.Jobs.{job_reads, job_writes}

-- each system of the plan has a name, and the text is the printed plan and a line feed
abbrev pub IsTextOf : List NamedId → Plan ResourceId → List ℕ → Type 0
IsTextOf names plan text = (None ≡ first_unnamed names (plan_ids plan)) × (text ≡ plan_text names plan ++ line_feed)

-- the refusal tells the first system of the plan that has no name, or a failed write, which comes only where each has one
abbrev pub IsRefusalOf : List NamedId → Plan ResourceId → PrintError → Type 0
IsRefusalOf names plan (Unnamed id) = Some id.0 ≡ first_unnamed names (plan_ids plan)
IsRefusalOf names plan Write = None ≡ first_unnamed names (plan_ids plan)

-- what a builder of jobs has come to
abbrev pub JobsBuilt : Type 0
JobsBuilt = Built (Work (Plain Job) (Nested (Only ℤ) (Plain Job) (NoBatch DataError))) (Now (Plain Job))

-- the job is added under this name, after those of these names
abbrev pub IsJobAdded : JobsBuilt → JobsBuilt → Job → List ℕ → List (List ℕ) → Type 0
IsJobAdded old new added name dependencies = IsAddition old new name dependencies (job_reads added) (job_writes added) Average (System (record { 0 = added }))

-- The plan has a job "first" that adds 3 at place 1, a job "second" that adds 4 at place 2, and after both a job "third" that copies the number of place 1 to place 2.
pub record HasThree (plan : JobsBuilt) : Type 0 where
  pub empty : JobsBuilt
  pub one : JobsBuilt
  pub two : JobsBuilt
  pub starts : IsNewBuilt empty
  pub first : IsJobAdded empty one (job.Add (record { to = 1; amount = pos 3 })) (codes "first") []
  pub second : IsJobAdded one two (job.Add (record { to = 2; amount = pos 4 })) (codes "second") []
  pub third : IsJobAdded two plan (job.Copy (record { from = 1; to = 2 })) (codes "third") (codes "first" ∷ codes "second" ∷ [])

-- The text is that of a plan of the three, under the names that its builder knows.
pub record IsTextOfThree (text : List ℕ) : Type 0 where
  pub plan : JobsBuilt
  pub three : HasThree plan
  pub names : List NamedId
  pub known : AreNames names plan.known
  pub is_text : IsTextOf names plan.plan text
