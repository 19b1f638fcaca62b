use Rattle.script_command.proofs.TwoRows.{begun}
use Rattle.script_command.proofs.two_ticks.two_entities.Goals as goal

pub returns-clause-first : goal.returns-clause-first
returns-clause-first c = (begun _ _ _ _ _ _ _ _ _ _ c.in_ok-store.ensures.empty c.in_ok-first.ensures.create.number c.in_ok-first.ensures.create.created c.in_ok-set.ensures.set.set c.in_ok-set-2.ensures.set.set c.in_ok-set-3.ensures.set.set c.in_ok-second.ensures.create.number c.in_ok-second.ensures.create.created c.in_ok-set-4.ensures.set.set c.in_ok-set-5.ensures.set.set).0

pub returns-clause-second : goal.returns-clause-second
returns-clause-second c = (begun _ _ _ _ _ _ _ _ _ _ c.in_ok-store.ensures.empty c.in_ok-first.ensures.create.number c.in_ok-first.ensures.create.created c.in_ok-set.ensures.set.set c.in_ok-set-2.ensures.set.set c.in_ok-set-3.ensures.set.set c.in_ok-second.ensures.create.number c.in_ok-second.ensures.create.created c.in_ok-set-4.ensures.set.set c.in_ok-set-5.ensures.set.set).1
