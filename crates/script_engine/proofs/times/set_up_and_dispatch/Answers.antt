use Rattle.shred.specs.FullRuns.{whole_over}
use Rattle.script_text.specs.Value.{value_kind}
use Rattle.script_engine.proofs.SetUp.{is-set-up}
use Rattle.script_engine.proofs.times.set_up_and_dispatch.Goals as goal

pub returns-in-Ok : goal.returns-in-Ok
returns-in-Ok g c =
    let left = c.dispatch_each.ensures in
    (left.0, (whole_over value_kind c.setup.new.self c.setup.new.world, (is-set-up _ _ _ c.setup.ensures).1, left.1), left.2)

pub returns-in-Err : goal.returns-in-Err
returns-in-Err g c =
    let same = is-set-up _ _ _ c.setup.ensures in
    absurd (let done = same.0 in let refused = c.in-Err.is in cc)
