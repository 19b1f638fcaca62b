use Rattle.std.proofs.Common.{◌∙◌, sym, rules, tests}
use Rattle.std.proofs.lemmas.Iterator.{YieldsList-from_slice}
use Rattle.std.proofs.lemmas.Iterator.Search.{any_from_yields_List}
use Rattle.shred_table.specs.Id.{same_id}
use Rattle.shred_run.specs.PlanOf.{entry_access, group_plan}
use Rattle.shred_run.specs.Touching.{group_conflicts}
use Rattle.shred_run.proofs.Groups.{list_any-map}
use Rattle.shred_stage.proofs.dispatch.stage.Stage.conflicts.Goals as goal

pub returns : goal.returns
returns g c =
    any_from_yields_List (λ group. group_conflicts same_id (entry_access c.args.entry.now) (group_plan group)) _ _ _ c.any.ensures.ran (YieldsList-from_slice c.args.self.now.groups.items cc) (λ x b q k. search (rules, tests))
    ∙ sym (list_any-map group_plan (group_conflicts same_id (entry_access c.args.entry.now)) c.args.self.now.groups.items)
