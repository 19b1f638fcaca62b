use Rattle.std.proofs.Common.{◌≡◌, drop}
use Rattle.shred_world.specs.Worked.{Held}
use Rattle.script_text.specs.Place.{number_at}
use Rattle.script_text.specs.declared.value.Value.{Value}
use Rattle.script_engine.specs.Overlaid.{overlaid}
use Rattle.script_engine.proofs.kept_numbers.number_in.Given as goal

abbrev pub invariant-loop-one : goal.invariant-loop-one
invariant-loop-one l = (seen : Held Value) → number_at (overlaid l.kept seen) l.place ≡ number_at (overlaid (drop l.one-index l.kept) seen) l.place
