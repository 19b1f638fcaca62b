use Rattle.std.proofs.Common.{◌≡◌, ◌+◌, set, refl, sym, ◌∙◌, ap, subst, arith}
use Rattle.shred_model.specs.Runs.{first_fault}
use Rattle.shred_model.proofs.Joined.FirstFault.{first_fault-Ok}
use Rattle.shred_model.proofs.Joined.AllWent.{WentTo, WentTo-start, WentTo-length, WentTo-at, WentTo-more, WentTo-end}
use Rattle.shred_run.specs.Calls.{Accepts, Calls}
use Rattle.shred_run.proofs.fork.run_lanes_in_order.Goals as goal
use Rattle.shred_run.proofs.fork.run_lanes_in_order.Goals.{in-Ok, in-Err}

pub loop-lane-init : goal.loop-lane-init
loop-lane-init g c = WentTo-start (Calls g.F.Fn c.args.run.now) c.args.lanes.now

pub run-requires : goal.run-requires
run-requires g c =
    let went = Calls g.F.Fn c.args.run.now in
    let i = c.loop-lane.lane-index in
    let long = WentTo-length went i c.args.lanes.now c.loop-lane.answer c.loop-lane.lanes c.loop-lane.invariant in
    subst (Accepts g.F.Fn c.args.run.now) (sym (WentTo-at went i c.args.lanes.now c.loop-lane.answer c.loop-lane.lanes c.lane-item.result (omega arith) c.loop-lane.invariant))
    (c.requires i c.lane-item.result (omega arith)) _ refl

pub loop-lane-preserved : goal.loop-lane-preserved
loop-lane-preserved g c =
    let went = Calls g.F.Fn c.args.run.now in
    let i = c.loop-lane.lane-index in
    let was = c.args.lanes.now in
    let now = c.loop-lane.lanes in
    let so_far = c.loop-lane.answer in
    let long = WentTo-length went i was so_far now c.loop-lane.invariant in
    let same = WentTo-at went i was so_far now c.lane-item.result (omega arith) c.loop-lane.invariant in
    let told : first_fault so_far c.run.result ≡ c.match-run.answer = elim c.match-run.branch [
      | in-Ok w ↦ ap (first_fault so_far) w.in-Ok.is ∙ first_fault-Ok so_far ∙ sym w.answer-is
      | in-Err w ↦ ap (first_fault so_far) w.in-Err.is ∙ sym w.first-answer.ensures ∙ sym w.answer-is
    ] in
    subst (λ a. WentTo went (i + 1) was a (set now i c.run.new.arg2)) told
    (WentTo-more went i was so_far c.run.result now c.lane-item.result c.run.new.arg2 (omega arith) c.loop-lane.invariant
    (subst (λ y. went y c.run.result c.run.new.arg2) same (record { lane = _; lane_is = refl; after_call = _; call = c.run.ensures; left = refl })))

pub returns : goal.returns
returns g c = WentTo-end (Calls g.F.Fn c.args.run.now) c.loop-lane.lane-index c.args.lanes.now c.loop-lane.answer c.loop-lane.lanes (omega arith) c.loop-lane.invariant
