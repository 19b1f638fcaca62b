use Rattle.std.proofs.Common.{◌∙◌, ◌+◌, Some, [], ap, refl}
use Rattle.std.specs.List.{filter_map}
use Rattle.shred.specs.Builders.{built}
use Rattle.shred_stage.specs.Known.{texts_of}
use Rattle.plan_engine.specs.Together.{reads_of_all, writes_of_all}
use Rattle.plan_engine.proofs.Noting.{ok-any}
use Rattle.plan_engine.proofs.level.LevelLineTaker.add_batch.Goals as goal

pub returns-clause-noted : goal.returns-clause-noted
returns-clause-noted c = ok-any c.add_batch.result _ (record {
  entry = _;
  declaration = _;
  noted = c.in_ok-add.ensures.noted;
  name = c.in_ok-name.ensures;
  time = c.count.ensures;
  plan_at = ap (λ places. Some (places + 1)) c.len.ensures;
  reads = c.in_ok-touched.ensures.reads ∙ ap (reads_of_all []) c.deref.ensures.value;
  writes = c.in_ok-touched.ensures.writes ∙ ap (writes_of_all []) c.deref.ensures.value;
  dependencies = c.in_ok-dependencies.ensures.ids ∙ ap (λ names. filter_map (built c.args.self.now.builder).known (texts_of names)) c.as_slice.ensures.value;
  plans = c.in_ok-plans.plans.items;
  are_plans = c.in_ok-plans.ensures;
  behind = c.in_ok-append.ensures.items;
})
