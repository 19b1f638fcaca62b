use Rattle.std.proofs.Common.{◌∙◌, ap}
use Rattle.std.specs.Prelude.{not}
use Rattle.shred_model.specs.Plan.{group_ids}
use Rattle.shred_run.specs.PlanOf.{group_plan}
use Rattle.shred_run.proofs.Groups.{share_item-none, share_item-numbers_of}
use Rattle.shred_run.proofs.entry.Group.holds_any.Goals as goal

pub returns-then-not-is_empty : goal.returns-then-not-is_empty
returns-then-not-is_empty g c = c.check_intersection.ensures ∙ rw c.as_slice.ensures.value (share_item-numbers_of c.args.self.now.ids.items c.args.ids.now _ c.requires)

pub returns-else-not-is_empty : goal.returns-else-not-is_empty
returns-else-not-is_empty g c = ap not c.if-not-is_empty.false ∙ share_item-none (group_ids (group_plan c.args.self.now)) c.args.ids.now c.if-not-is_empty.ensures
