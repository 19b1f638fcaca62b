use Rattle.std.proofs.Common.{refl}
use Rattle.std.proofs.lemmas.Result.{err_from_is_err_and, on_ok_weaker}
use Rattle.shred_run.specs.PlanOf.{entry_plan}
use Rattle.shred.proofs.dispatch.builder.DispatcherBuilder.add.Goals as goal

pub returns-in_err-entry-clause-unchanged : goal.returns-in_err-entry-clause-unchanged
returns-in_err-entry-clause-unchanged g c = let p = err_from_is_err_and c.from_residual-in_err-entry.result c.from_residual-in_err-entry.ensures.1 in rw p.1 (record { plan = refl; states = λ agent. refl; known = λ name. refl; barrier = refl; rule = refl; next = refl; locals = refl; workers = refl })

pub returns-clause-added : goal.returns-clause-added
returns-clause-added g c =
    on_ok_weaker c.accept.result (λ is. record { entry = entry_plan c.in_ok-entry.entry; kept = c.in_ok-entry.ensures.kept; entry_added = rw (← c.in_ok-entry.ensures.same) is }) c.accept.ensures.added
