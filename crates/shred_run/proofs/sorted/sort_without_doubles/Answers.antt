use Rattle.shred_table.specs.Id.{IsBefore}
use Rattle.shred_run.proofs.Groups.{AllPairs-from_sorted, Contains-by_same_id, IsBefore-from_less}
use Rattle.shred_run.proofs.sorted.sort_without_doubles.Goals as goal

pub returns-clause-in_order : goal.returns-clause-in_order
returns-clause-in_order c = AllPairs-from_sorted _ IsBefore IsBefore-from_less c.sort_items.new.items.items c.sort_items.ensures.in_order

pub returns-clause-same : goal.returns-clause-same
returns-clause-same c = λ id. (c.sort_items.ensures.none_new id, λ there. Contains-by_same_id c.sort_items.new.items.items id (c.sort_items.ensures.none_lost id there))
