use Rattle.std.proofs.Common.{◌∙◌, [], ap, refl}
use Rattle.std.specs.List.{filter_map}
use Rattle.shred.specs.Builders.{built}
use Rattle.shred_stage.specs.Known.{texts_of}
use Rattle.script_text.specs.Declares.{places_read, places_written}
use Rattle.plan_engine.proofs.Noting.{ok-any}
use Rattle.plan_engine.proofs.level.LevelLineTaker.add_system.Goals as goal

pub returns-clause-noted : goal.returns-clause-noted
returns-clause-noted c = ok-any c.add_system.result _ (record {
  entry = _;
  declaration = _;
  noted = c.in_ok-add.ensures.noted;
  name = c.in_ok-name.ensures;
  time = c.count.ensures;
  no_plan = refl;
  reads = c.in_ok-declared.ensures.read ∙ ap (places_read []) c.as_slice.ensures.value;
  writes = c.in_ok-declared.ensures.written ∙ ap (places_written []) c.as_slice.ensures.value;
  dependencies = c.in_ok-dependencies.ensures.ids ∙ ap (λ names. filter_map (built c.args.self.now.builder).known (texts_of names)) c.as_slice-2.ensures.value;
  behind = refl;
})
