use Rattle.shred.proofs.dispatch.async_run.run_plan.Goals as goal

pub returns : goal.returns
returns g c = rw c.local.ensures.shown at c.run_beside-untold.ensures
