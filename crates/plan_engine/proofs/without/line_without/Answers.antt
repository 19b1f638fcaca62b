use Rattle.std.proofs.Common.{◌∙◌, refl}
use Rattle.plan_engine.proofs.without.line_without.Goals as goal

pub returns-in_ok-system_without-in-System : goal.returns-in_ok-system_without-in-System
returns-in_ok-system_without-in-System c = rw c.in-System.is (c.in_ok-system_without-in-System.field-0, refl, c.in_ok-system_without-in-System.ensures)

pub returns-in_ok-from_slice-in-Local : goal.returns-in_ok-from_slice-in-Local
returns-in_ok-from_slice-in-Local c = rw c.in-Local.is (c.in_ok-from_slice-in-Local.field-0, refl, c.in_ok-from_slice-in-Local.ensures.items ∙ c.as_slice.ensures.value)

pub returns-in_ok-copy_of_batch-in-Batch : goal.returns-in_ok-copy_of_batch-in-Batch
returns-in_ok-copy_of_batch-in-Batch c = rw c.in-Batch.is (c.in_ok-copy_of_batch-in-Batch.field-0, refl, c.in_ok-copy_of_batch-in-Batch.ensures)
