use Rattle.std.proofs.Common.{refl, ◌∙◌, arith}
use Rattle.shred_model.proofs.Joined.InTurn.{Turns-start, Turns-more, Turns-fault, Turns-end}
use Rattle.shred_world.specs.Worlds.{local_held}
use Rattle.shred.specs.LocalRuns.{LocalRun}
use Rattle.shred.proofs.thread_local.run_locals.Goals as goal

pub loop-index-init : goal.loop-index-init
loop-index-init g c = record { turns = Turns-start (LocalRun g.V.ResourceValue.kind_of g.L.RunNow.runs) _ _; kinds = λ id. refl }

pub loop-index-preserved : goal.loop-index-preserved
loop-index-preserved g c = record {
  turns = Turns-more (LocalRun g.V.ResourceValue.kind_of g.L.RunNow.runs) c.loop-index.invariant.turns c.index-locals-index.result c.run_one.new.local (omega arith) (local_held g.V.ResourceValue.kind_of c.run_one.new.world) c.in_default.ensures.run;
  kinds = λ id. c.in_default.ensures.kinds id ∙ c.loop-index.invariant.kinds id;
}

pub returns-in-Err-clause-run : goal.returns-in-Err-clause-run
returns-in-Err-clause-run g c = Turns-fault (LocalRun g.V.ResourceValue.kind_of g.L.RunNow.runs) c.loop-index.invariant.turns c.index-locals-index.result c.run_one.new.local (omega arith) c.in-Err.error (local_held g.V.ResourceValue.kind_of c.run_one.new.world) c.in-Err.ensures.run

pub returns-in-Err-clause-kinds : goal.returns-in-Err-clause-kinds
returns-in-Err-clause-kinds g c = λ id. c.in-Err.ensures.kinds id ∙ c.loop-index.invariant.kinds id

pub returns-clause-run : goal.returns-clause-run
returns-clause-run g c = Turns-end (LocalRun g.V.ResourceValue.kind_of g.L.RunNow.runs) c.loop-index.invariant.turns (omega arith)
