use Rattle.std.proofs.Common.{ap, map, rules}
use Rattle.shred.specs.Builders.{built}
use Rattle.shred_stage.specs.Known.{texts_of}
use Rattle.script_text.specs.Place.{id_at}
use Rattle.script_engine.proofs.Lines.{added-by}
use Rattle.script_engine.proofs.builder.ScriptBuilderLineTaker.add_system.Goals as goal

pub returns-in-Ok-clause-added : goal.returns-in-Ok-clause-added
returns-in-Ok-clause-added c =
    let system = c.in_ok-system.system in
    added-by c.args.line (built c.args.self.now) (built c.add.new.self) system _ _ _ (ap texts_of c.as_slice.ensures.value) c.in_ok-system.ensures.steps c.in_ok-system.ensures.time (ap (map id_at) system.read_by_steps) (ap (map id_at) system.written_by_steps) c.in-Ok.ensures.allowed c.in-Ok.ensures.added

pub returns-clause-not_added : goal.returns-clause-not_added
returns-clause-not_added c = search rules
