use Rattle.std.proofs.Common.{refl, ◌∙◌, ap, subst, sym}
use Rattle.std.proofs.lemmas.Result.{err_from_is_err_and, on_ok_weaker}
use Rattle.shred_run.specs.PlanOf.{entry_plan}
use Rattle.shred_model.specs.Access.{Access}
use Rattle.shred_stage.specs.Inner.{tiers_states}
use Rattle.shred_table.specs.declared.id.ResourceId.{ResourceId}
use Rattle.shred_run.specs.Batches.{IsKeptBatch, IsOneDeeper, joined_access}
use Rattle.shred_run.specs.Depths.{batch_of}
use Rattle.shred_run.specs.Works.{tiers_plan}
use Rattle.shred.proofs.dispatch.builder.DispatcherBuilder.place_batch.Goals as goal

pub returns-clause-added : goal.returns-clause-added
returns-clause-added g c =
    let controller = c.args.controller in
    let declared : Access ResourceId = record { reads = g.C.BatchController.reads controller; writes = g.C.BatchController.writes controller } in
    let entry = c.in_ok-entry.entry in
    let is = c.in_ok-entry.ensures.batch in
    on_ok_weaker c.accept.result (λ entry_added inner plan states. record {
      entry = entry_plan entry;
      kept = subst (λ plan. IsKeptBatch c.args.self.now.next (joined_access declared plan) (g.C.BatchController.time controller) (entry_plan entry)) plan c.in_ok-entry.ensures.kept;
      batch = entry.work;
      is_batch = record {
        nested = is.nested;
        is_batch = is.is_batch;
        same_controller = is.same_controller;
        same_access = is.same_access;
        same_plan = ap tiers_plan is.same_tiers ∙ plan;
        same_states = λ path. ap (λ tiers. tiers_states tiers path) is.same_tiers ∙ states path;
        depth = subst (IsOneDeeper (batch_of is.nested).depth) (sym is.same_tiers) is.depth;
      };
      entry_added = entry_added;
    }) c.accept.ensures.added

pub returns-in_err-entry-clause-unchanged : goal.returns-in_err-entry-clause-unchanged
returns-in_err-entry-clause-unchanged g c = let p = err_from_is_err_and c.from_residual.result c.from_residual.ensures.1 in rw p.1 (record { plan = refl; states = λ agent. refl; known = λ name. refl; barrier = refl; rule = refl; next = refl; locals = refl; workers = refl })
