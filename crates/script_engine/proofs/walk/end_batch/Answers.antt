use Rattle.script_engine.proofs.Lines.{ended-by, not-ended-by}
use Rattle.script_engine.proofs.walk.end_batch.Goals as goal

pub returns-clause-ended : goal.returns-clause-ended
returns-clause-ended g c =
    ended-by g.B.LineTaker.noting c.args.end c.in-Some.batch c.replace-inner.new.dest c.replace-inner.result c.in-Some.outer c.args.building.now.current c.add_batch.new.self c.args.building.now.pending.items c.pop.new.self.items c.add_batch.result
    c.in-Some.ensures.items c.replace-inner.ensures.after c.replace-inner.ensures.value c.add_batch.ensures.added c.add_batch.ensures.noted

pub returns-clause-not_ended : goal.returns-clause-not_ended
returns-clause-not_ended g c =
    not-ended-by g.B.LineTaker.noting c.args.end c.in-Some.batch c.replace-inner.new.dest c.replace-inner.result c.in-Some.outer c.args.building.now.current c.args.building.now.pending.items c.pop.new.self.items c.add_batch.result
    c.in-Some.ensures.items c.replace-inner.ensures.after c.replace-inner.ensures.value c.add_batch.ensures.not_added
