use Rattle.std.proofs.Common.{◌≡◌, true, false, rules, tests}
use Rattle.std.specs.Prelude.{nat_eq}
use Rattle.std.proofs.lemmas.Iterator.{YieldsList-from_slice, IsFirst-from_position}
use Rattle.shred_run.specs.declared.entry.SystemId.{SystemId}
use Rattle.shred_run.proofs.Groups.{without-found}
use Rattle.shred_run.proofs.entry.place_of.Goals as goal

pub returns : goal.returns
returns c =
    let x = c.args.id.0 in
    let first = IsFirst-from_position _ _ c.position.result (λ (id : SystemId). true ≡ nat_eq id.0 x) (λ (id : SystemId). false ≡ nat_eq id.0 x) c.position.ensures.ran (YieldsList-from_slice c.args.ids.now cc) (λ y q k. search (rules, tests)) (λ y q k. search (rules, tests)) in
    let left = without-found x c.args.ids.now c.position.result first in
    record { within = search rules; found = left.0; absent = left.1 }
