use Rattle.std.proofs.Common.{◌≡◌, map}
use Rattle.std.specs.Prelude.{option_copied}
use Rattle.std.specs.String.{string_bytes}
use Rattle.shred_stage.specs.Names.{least_name, least_of, named_ids}
use Rattle.shred_stage.proofs.dispatch.printing.least_name.Given as goal

abbrev pub invariant-loop-name : goal.invariant-loop-name
invariant-loop-name l = least_of (map (λ e. (string_bytes e.0, e.1.0)) l.name-iterator) l.id.0 (option_copied l.best) ≡ least_name (named_ids l.names) l.id.0
