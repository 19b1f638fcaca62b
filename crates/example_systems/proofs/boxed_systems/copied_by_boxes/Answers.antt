use Rattle.std.proofs.Common.{◌≡◌, [], ◌∷◌, refl, ap, ◌∙◌, Box, Global}
use Rattle.std.proofs.lemmas.Option.{IfSome_then}
use Rattle.shred_model.specs.Access.{Access}
use Rattle.shred_table.specs.declared.id.ResourceId.{ResourceId}
use Rattle.example_systems.specs.declared.enum_of_systems.Add.{Add}
use Rattle.example_systems.specs.declared.enum_of_systems.Copy.{Copy}
use Rattle.example_systems.specs.Jobs.{AddStep, CopyStep}
use Rattle.example_systems.specs.Numbers.{number_id}
use Rattle.example_systems.proofs.Copied.{add, add_access, copy, copy_access, eight-by-steps}
use Rattle.example_systems.proofs.Single.{if_ok}
use Rattle.example_systems.proofs.boxed_systems.copied_by_boxes.OwnLists.{own-1, at-1-1, at-1-2}
use Rattle.example_systems.proofs.boxed_systems.copied_by_boxes.Goals as goal
use denote.Param.Object.{read_made}

pub returns : goal.returns
returns c = IfSome_then c.left_at_two.result c.left_at_two.ensures (λ number are.
    let first = c.into_dyn_box.result in
    let second = c.into_dyn_box-in_ok-ok-2.result in
    let made = c.into_dyn_box.ensures.1 in
    let its_made = c.into_dyn_box-in_ok-ok-2.ensures.1 in
    let system : c.in_ok-ok.field-0.value ≡ add = if_ok (λ (b : Box Add Global). b.value ≡ add) c.new.result c.in_ok-ok.field-0 c.in_ok-ok.ensures.value c.new.ensures.ok in
    let its_system : c.in_ok-ok-2.field-0.value ≡ copy = if_ok (λ (b : Box Copy Global). b.value ≡ copy) c.new-2.result c.in_ok-ok-2.field-0 c.in_ok-ok-2.ensures.value c.new-2.ensures.ok in
    let lists : Access ResourceId = record { reads = (own-1.entry first.vtable).1.job_reads first.value; writes = (own-1.entry first.vtable).1.job_writes first.value } in
    let its_lists : Access ResourceId = record { reads = (own-1.entry second.vtable).1.job_reads second.value; writes = (own-1.entry second.vtable).1.job_writes second.value } in
    eight-by-steps ((own-1.entry first.vtable).1.job_step first.value) ((own-1.entry second.vtable).1.job_step second.value) lists its_lists are.middle are.last number
    (read_made own-1 (own-1.entry at-1-1) at-1-1 refl _ (λ j y. j.1.job_step y) first.vtable first.value c.in_ok-ok.field-0.value made ∙ ap (λ (a : Add). λ seen outcome left. (after : Add) × AddStep a seen outcome after left) system)
    (read_made own-1 (own-1.entry at-1-1) at-1-1 refl (Access ResourceId) (λ j y. record { reads = j.1.job_reads y; writes = j.1.job_writes y }) first.vtable first.value c.in_ok-ok.field-0.value made ∙ ap (λ (a : Add). record add_access { writes = number_id a.to ∷ [] }) system)
    (read_made own-1 (own-1.entry at-1-2) at-1-2 refl _ (λ j y. j.1.job_step y) second.vtable second.value c.in_ok-ok-2.field-0.value its_made ∙ ap (λ (a : Copy). λ seen outcome left. (after : Copy) × CopyStep a seen outcome after left) its_system)
    (read_made own-1 (own-1.entry at-1-2) at-1-2 refl (Access ResourceId) (λ j y. record { reads = j.1.job_reads y; writes = j.1.job_writes y }) second.vtable second.value c.in_ok-ok-2.field-0.value its_made ∙ ap (λ (a : Copy). record copy_access { reads = number_id a.from ∷ []; writes = number_id a.to ∷ [] }) its_system)
    are.ran.lies are.its_run.lies are.left)
