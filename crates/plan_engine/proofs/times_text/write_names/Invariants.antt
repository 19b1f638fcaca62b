use Rattle.std.proofs.Common.{◌≡◌, ◌++◌, drop}
use Rattle.std.specs.String.{string_bytes}
use Rattle.plan_engine.specs.TimesText.{marked_names}
use Rattle.plan_engine.proofs.times_text.write_names.Given as goal

abbrev pub invariant-loop-place : goal.invariant-loop-place
invariant-loop-place l = string_bytes l.text ++ marked_names l.plan l.place (drop l.place l.ids) ≡ string_bytes l.initial.text ++ marked_names l.plan 0 l.ids
