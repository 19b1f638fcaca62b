use Rattle.std.proofs.Common.{[], ◌∷◌, ◌++◌, sym, subst, arith}
use Rattle.std.specs.List.{AllZip}
use Rattle.std.proofs.lemmas.List.Elements.{AllZip-push, length_all_zip}
use Rattle.shred_workers.proofs.lanes.+run_lanes.Goals as goal

pub push_reserved-requires : goal.push_reserved-requires
push_reserved-requires g t c =
    let ran = length_all_zip g.J.Job.ran c.pop.new.self.items c.run_lanes-2.new.lanes.items c.run_lanes-2.ensures.ran in
    let before = c.args.lanes.now.ok in
    let popped = c.pop.new.self.ok in
    let now = c.run_lanes-2.new.lanes.ok in
    let one = c.in-Some-pop.ensures.cases in
    let room = c.run_lanes-2.ensures.room in
    let kept = c.pop.ensures.capacity in
    omega arith

pub returns-clause-ran : goal.returns-clause-ran
returns-clause-ran g t c =
    let R = g.J.Job.ran in
    let lane = c.in-Some-pop.lane in
    let both = AllZip-push R c.pop.new.self.items c.run_lanes-2.new.lanes.items lane c.collect.result c.run_lanes-2.ensures.ran (c.collect.ensures.ran lane c.send.ensures) in
    let was = c.in-Some-pop.ensures.items in
    subst (λ xs. AllZip R xs c.push_reserved.new.self.items) (sym was) (subst (λ ys. AllZip R (c.pop.new.self.items ++ lane ∷ []) ys) (sym c.push_reserved.ensures.items) both)
