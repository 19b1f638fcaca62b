use Rattle.script_text.specs.declared.error.LineFault.TheVariants.{NoSuchResource}
use Rattle.indexmap.specs.IndexMap.{keys}
use Rattle.script_text.proofs.Parsing.Naming.{name-looked_up}
use Rattle.script_text.proofs.step.place_of.Goals as goal

pub returns : goal.returns
returns c = name-looked_up (keys c.args.resources.now) c.args.name.now c.get_index_of.result NoSuchResource c.ok_or.result c.get_index_of.ensures.index c.ok_or.ensures.value
