use Rattle.shredstore.specs.Stores.{contents_of}
use Rattle.script_command.proofs.TwoRows.{whole}
use Rattle.script_command.proofs.demonstration.write_demo.Goals as goal

pub returns : goal.returns
returns g c =
    let store = c.in_ok-store.ensures in
    let ticked = c.in_ok-tick_twice.ensures in
    whole (g.W.Write.contents c.args.out.now) (g.W.Write.contents c.write_row.new.out) (g.W.Write.contents c.write_row-2.new.out) (g.W.Write.contents c.writeln.new.self) (contents_of c.tick_twice.new.store) (ticked.first store.rules store.first) (ticked.second store.rules store.second) c.in_ok-write_row.ensures c.in_ok-write_row-2.ensures c.in_ok-writeln.ensures.bytes
