use Rattle.std.proofs.Common.{◌≡◌, ◌<◌, length, get_or, rules, arith}
use Rattle.shred_stage.proofs.Planner.Spots.{small_read, greatest_more}
use Rattle.shred_stage.proofs.dispatch.stage.Stage.greatest_time.Goals as goal

pub time-requires : goal.time-requires
time-requires g c =
    let within : c.loop-group.group-index < length c.args.self.now.groups.items = search rules in
    small_read c.args.self.now.groups.items c.loop-group.group-index c.group-item.result within (search rules) c.args.self.now.small_groups

pub loop-group-preserved : goal.loop-group-preserved
loop-group-preserved g c =
    let within : c.loop-group.group-index < length c.args.self.now.groups.items = search rules in
    let is : c.group-item.result ≡ get_or c.args.self.now.groups.items c.loop-group.group-index c.group-item.result = search rules in
    let step = greatest_more c.args.self.now.groups.items c.loop-group.group-index c.group-item.result within is in
    record { greatest_so_far = cc (c.max-greatest.ensures, c.time.ensures.value, c.loop-group.invariant.greatest_so_far, step); small = omega (arith, c.max-greatest.ensures) }
