-- What is noted of what a system's steps declare.
use Rattle.std.specs.Prelude.{◌≡◌}
use Rattle.script_text.specs.Declares.{named_place, read_place, with_place, write_place}
use Rattle.script_text.specs.declared.step.Step.{Step}
use Rattle.script_engine.specs.declared.declared.Declared.{Declared}

-- What one more step declares is noted, each place once.
pub record DeclaresMore (step : Step) (old new : Declared) : Type 0 where
  pub read : new.read.items ≡ with_place old.read.items (read_place step)
  pub written : new.written.items ≡ with_place old.written.items (write_place step)
  pub named : new.named.items ≡ with_place old.named.items (named_place step)
