use Rattle.std.proofs.Common.{◌≡◌, map, take}
use Rattle.script_text.specs.Place.{id_at}
use Rattle.script_engine.proofs.declared.ids_of.Given as goal

abbrev pub invariant-loop-place : goal.invariant-loop-place
invariant-loop-place l = l.ids.items ≡ map id_at (take l.place-index l.places.items)
