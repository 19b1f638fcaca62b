use Rattle.std.proofs.Common.{◌++◌}
use Rattle.std.proofs.KnownBytes.{Appends-trans}
use Rattle.shred_world.specs.Worlds.{world_held}
use Rattle.script_text.specs.Place.{number_at}
use Rattle.script_text.specs.Report.{resource_names, value_line, value_lines}
use Rattle.script_text.specs.Value.{value_kind}
use Rattle.script_text.proofs.Reported.{value_lines-more}
use Rattle.script_text.proofs.report.write_report.Goals as goal

pub loop-place-preserved : goal.loop-place-preserved
loop-place-preserved g c =
    let held = world_held value_kind c.args.world.now in
    let line = value_line c.in-Some.name.now.now (number_at held c.in-Some.place) in
    let turn = c.in-Some.ensures.steps in
    let so_far = c.loop-place.invariant in
    record {
      text = so_far.text ++ line;
      written = Appends-trans (g.W.Write.contents c.args.out.now) (g.W.Write.contents c.loop-place.out) (g.W.Write.contents c.write_resource.new.out) so_far.text line so_far.written c.in_ok-write_resource.ensures;
      whole = value_lines-more so_far.text (value_lines 0 (resource_names c.args.resources.now) held) c.loop-place.place-iterator.iter c.next.new.self.iter c.in-Some.name.now c.loop-place.place-iterator.count c.in-Some.place c.next.new.self.count held turn.0 turn.1 turn.2 so_far.whole;
    }
