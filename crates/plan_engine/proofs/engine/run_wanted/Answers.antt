use Rattle.plan_engine.proofs.Reading.{read-as, refused-read, shown-read}
use Rattle.plan_engine.proofs.engine.run_wanted.Goals as goal

pub returns-clause-shown : goal.returns-clause-shown
returns-clause-shown g c =
    let script = c.in-Ok-parse.script in
    let read = g.R.Read.remaining c.args.reader.now in
    let left = g.R.Read.remaining c.read_text.new.reader in
    let says = read-as script read left c.in-Ok.text c.as_slice.result.now c.in-Ok.ensures.length c.in-Ok.ensures.text c.in-Ok.ensures.end c.as_slice.ensures.value c.in-Ok-parse.ensures.ok in
    shown-read c.args.wanted script read left (g.O.Write.contents c.args.out.now) (g.O.Write.contents c.show_script.new.out) says c.show_script.result c.show_script.ensures.shown

pub returns-clause-refused : goal.returns-clause-refused
returns-clause-refused g c =
    let script = c.in-Ok-parse.script in
    let read = g.R.Read.remaining c.args.reader.now in
    let left = g.R.Read.remaining c.read_text.new.reader in
    let says = read-as script read left c.in-Ok.text c.as_slice.result.now c.in-Ok.ensures.length c.in-Ok.ensures.text c.in-Ok.ensures.end c.as_slice.ensures.value c.in-Ok-parse.ensures.ok in
    refused-read script read left says c.show_script.result c.show_script.ensures.refused
