use Rattle.std.proofs.Common.{◌≡◌, true, false, rules, tests}
use Rattle.std.specs.Prelude.{nat_eq}
use Rattle.std.proofs.lemmas.Iterator.{YieldsList-from_slice, IsFirst-from_position}
use Rattle.script_engine.specs.declared.kept_numbers.KeptNumber.{KeptNumber}
use Rattle.script_engine.proofs.Overlaid.{kept-first}
use Rattle.script_engine.proofs.kept_numbers.kept_at.Goals as goal

pub returns : goal.returns
returns c =
    let place = c.args.place in
    let first = IsFirst-from_position _ _ c.position.result (λ (k : KeptNumber). true ≡ nat_eq k.place place) (λ (k : KeptNumber). false ≡ nat_eq k.place place) c.position.ensures.ran (YieldsList-from_slice c.args.kept.now cc) (λ y q k. search (rules, tests)) (λ y q k. search (rules, tests)) in
    let told = kept-first c.args.kept.now place c.position.result first in
    record { kept = told.0; none = told.1 }
