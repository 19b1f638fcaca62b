use Rattle.shred_run.proofs.Circle.Tiers.{took-held}
use Rattle.shred_kept.proofs.turn.turn_kept.Goals as goal

pub returns-clause-took : goal.returns-clause-took
returns-clause-took g c = took-held _ _ _ _ c.args.table.now _ _ c.turn_groups.new.own c.turn_groups.ensures

pub returns-clause-slots : goal.returns-clause-slots
returns-clause-slots g c = c.turn_groups.ensures.slots
