-- Where 3 is added to the 5 at place 1 and that is copied to place 2, 8 is left there.
use Rattle.std.proofs.Common.{◌≡◌, ℤ, pos, [], ◌∷◌, Option, Some, None, Ok, sym, ◌∙◌, ap, subst}
use Rattle.std.specs.Int.{w64, int_wrapping_add}
use Rattle.shred_model.specs.Access.{Access}
use Rattle.shred_table.specs.declared.id.ResourceId.{ResourceId}
use Rattle.shred_table.specs.declared.only.Only.{Only}
use Rattle.shred_world.specs.Worked.{Held}
use Rattle.shred_world.specs.declared.world.view.DataError.{DataError}
use Rattle.shred_run.specs.Steps.{Outcome, declared_of}
use Rattle.shred.specs.declared.plain.Plain.{Plain}
use Rattle.example_systems.specs.declared.enum_of_systems.Add.{Add}
use Rattle.example_systems.specs.declared.enum_of_systems.Copy.{Copy}
use Rattle.example_systems.specs.declared.enum_of_systems.Job.{Job}
use Rattle.example_systems.specs.declared.enum_of_systems.Job.TheVariants as job
use Rattle.example_systems.specs.Jobs.{AddStep, CopyStep, JobStep, job_reads, job_writes}
use Rattle.example_systems.specs.Numbers.{number_id, number_value}
use Rattle.example_systems.specs.TwoSystems.{AreLeftAtTwo, five_and_zero}

abbrev pub add : Add
add = record { to = 1; amount = pos 3 }

abbrev pub copy : Copy
copy = record { from = 1; to = 2 }

abbrev pub add_access : Access ResourceId
add_access = record { reads = []; writes = number_id 1 ∷ [] }

abbrev pub copy_access : Access ResourceId
copy_access = record { reads = number_id 1 ∷ []; writes = number_id 2 ∷ [] }

-- the number of a value, 0 where there is none
abbrev number_in : Option (Only ℤ) → ℤ
number_in (Some value) = value.0
number_in None = pos 0

-- 5 and 3 are 8
added : (after : Add) (middle : Held (Only ℤ)) → AddStep add (declared_of add_access five_and_zero) (Ok tt) after (declared_of add_access middle) → middle (number_id 1) ≡ Some (number_value (pos 8))
added after middle (same, (number, saw, put)) =
    let five : pos 5 ≡ number = ap number_in saw in
    let left : middle (number_id 1) ≡ Some (number_value (int_wrapping_add w64 number (pos 3))) = put in
    left ∙ ap (λ (n : ℤ). Some (number_value (int_wrapping_add w64 n (pos 3)))) (sym five)

-- what is copied is what was added
copied : (after : Add) (its_after : Copy) (middle last : Held (Only ℤ)) (number : ℤ) → AddStep add (declared_of add_access five_and_zero) (Ok tt) after (declared_of add_access middle)
    → CopyStep copy (declared_of copy_access middle) (Ok tt) its_after (declared_of copy_access last) → last (number_id 2) ≡ Some (number_value number) → number ≡ pos 8
copied after its_after middle last number adds (same, (seen, saw, put)) left =
    let got : last (number_id 2) ≡ middle (number_id 1) = put ∙ sym saw in
    ap number_in (sym left ∙ got ∙ added after middle adds)

-- so it is of jobs
by-jobs : (after its_after : Job) (middle last : Held (Only ℤ)) (number : ℤ) → JobStep (job.Add add) (declared_of add_access five_and_zero) (Ok tt) after (declared_of add_access middle)
    → JobStep (job.Copy copy) (declared_of copy_access middle) (Ok tt) its_after (declared_of copy_access last) → last (number_id 2) ≡ Some (number_value number) → number ≡ pos 8
by-jobs (job.Add after) (job.Copy its_after) middle last number adds copies left = copied after its_after middle last number adds copies left
by-jobs (job.Copy after) its_after middle last number adds copies left = absurd adds
by-jobs (job.Add after) (job.Add its_after) middle last number adds copies left = absurd copies

pub eight-by-jobs : (number : ℤ) → AreLeftAtTwo (λ (before : Plain Job) seen outcome (after : Plain Job) left. JobStep before.0 seen outcome after.0 left) (λ (plain : Plain Job). job_reads plain.0) (λ (plain : Plain Job). job_writes plain.0)
    (record { 0 = job.Add add }) (record { 0 = job.Copy copy }) number → number ≡ pos 8
eight-by-jobs number are = by-jobs are.after.0 are.its_after.0 are.middle are.last number are.ran.lies are.its_run.lies are.left

-- so it is of steps that are those of the two systems, under their lists
pub eight-by-steps : (step its_step : Held (Only ℤ) → Outcome DataError → Held (Only ℤ) → Type 0) (access its_access : Access ResourceId) (middle last : Held (Only ℤ)) (number : ℤ)
    → step ≡ (λ seen outcome left. (after : Add) × AddStep add seen outcome after left) → access ≡ add_access → its_step ≡ (λ seen outcome left. (after : Copy) × CopyStep copy seen outcome after left) → its_access ≡ copy_access
    → step (declared_of access five_and_zero) (Ok tt) (declared_of access middle) → its_step (declared_of its_access middle) (Ok tt) (declared_of its_access last) → last (number_id 2) ≡ Some (number_value number) → number ≡ pos 8
eight-by-steps step its_step access its_access middle last number steps lists its_steps its_lists ran its_run left =
    let adds : (after : Add) × AddStep add (declared_of add_access five_and_zero) (Ok tt) after (declared_of add_access middle) =
    subst (λ (s : Held (Only ℤ) → Outcome DataError → Held (Only ℤ) → Type 0). s (declared_of add_access five_and_zero) (Ok tt) (declared_of add_access middle)) steps (subst (λ (a : Access ResourceId). step (declared_of a five_and_zero) (Ok tt) (declared_of a middle)) lists ran) in
    let copies : (after : Copy) × CopyStep copy (declared_of copy_access middle) (Ok tt) after (declared_of copy_access last) =
    subst (λ (s : Held (Only ℤ) → Outcome DataError → Held (Only ℤ) → Type 0). s (declared_of copy_access middle) (Ok tt) (declared_of copy_access last)) its_steps (subst (λ (a : Access ResourceId). its_step (declared_of a middle) (Ok tt) (declared_of a last)) its_lists its_run) in
    copied adds.0 copies.0 middle last number adds.1 copies.1 left
