use Rattle.std.proofs.Common.{◌≡◌, map, take}
use Rattle.script_engine.specs.Overlaid.{AreHeld, kept_place}
use Rattle.script_engine.proofs.kept_numbers.keep_each.Given as goal

abbrev pub invariant-loop-place : goal.invariant-loop-place
invariant-loop-place g l = record {
  places : map kept_place l.kept.items ≡ take l.place-index l.places;
  held : AreHeld (g.N.Numbers.seen l.numbers) l.kept.items;
}
