use Rattle.std.proofs.Common.{◌∙◌, sym, rules, tests}
use Rattle.std.proofs.lemmas.Iterator.{YieldsList-from_slice}
use Rattle.std.proofs.lemmas.Iterator.Search.{any_from_yields_List}
use Rattle.shred_table.specs.Id.{same_id}
use Rattle.shred_run.specs.PlanOf.{entry_access, entry_plan}
use Rattle.shred_run.specs.Touching.{accesses_conflict}
use Rattle.shred_run.proofs.Groups.{list_any-map}
use Rattle.shred_run.proofs.entry.Group.conflicts.Goals as goal

pub returns : goal.returns
returns g c =
    any_from_yields_List (λ member. accesses_conflict same_id (entry_access member) (entry_access c.args.entry.now)) _ _ _ c.any.ensures.ran (YieldsList-from_slice c.args.self.now.entries.items cc) (λ x b q k. search (rules, tests))
    ∙ sym (list_any-map entry_plan (λ e. accesses_conflict same_id e.access (entry_access c.args.entry.now)) c.args.self.now.entries.items)
