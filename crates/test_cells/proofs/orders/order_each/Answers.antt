use Rattle.std.proofs.Common.{◌≡◌, ℤ, w64, to_z, of_z, ap, sym, ◌∙◌, arith}
use Rattle.std.proofs.lemmas.Int.{ints}
use Rattle.shred_world.specs.declared.world.World.{World}
use Rattle.shred_world.specs.Worlds.{world_held}
use Rattle.shred_meta.specs.MetaTables.{kinds_of}
use Rattle.shred_meta.specs.MetaWalks.{walk_held}
use Rattle.test_cells.specs.declared.numbers.Number.{Number}
use Rattle.test_cells.specs.Numbers.{kind_of}
use Rattle.test_cells.specs.Orders.{ordered}
use Rattle.test_cells.proofs.Ordered.{IfNone-here, finished, goes}
use Rattle.test_cells.proofs.orders.order_each.Goals as goal

pub loop-number-preserved : goal.loop-number-preserved
loop-number-preserved c =
    let on = goes _ c.loop-number.walk (c.next.follows.lender c.act.new.self) c.next.result c.in-Some.number c.act.new.self c.in-Some.is c.next.ensures.shown (c.next.follows.holds c.act.new.self) c.act.ensures.acted c.act.ensures.kind in
    record { name = on.name ∙ c.loop-number.invariant.name; left = λ id. on.left id ∙ c.loop-number.invariant.left id }

pub loop-number-smaller : goal.loop-number-smaller
loop-number-smaller c =
    (goes _ c.loop-number.walk (c.next.follows.lender c.act.new.self) c.next.result c.in-Some.number c.act.new.self c.in-Some.is c.next.ensures.shown (c.next.follows.holds c.act.new.self) c.act.ensures.acted c.act.ensures.kind).fewer

pub returns : goal.returns
returns c = λ id.
    let same : to_z w64 (of_z w64 c.args.order) ≡ c.args.order = omega (arith, ints) in
    let stays = IfNone-here c.next.result c.in_default.is c.next.follows.holds-at-none in
    let last = c.world-1.given.1 (sym (stays.1 ∙ c.loop-number.invariant.name ∙ c.iter_mut-walk.ensures.name)) in
    finished (to_z w64 (of_z w64 c.args.order)) c.loop-number.walk c.next.follows.lender-at-none c.next.result c.world-1.given.0 c.in_default.is c.next.ensures.shown stays (sym last) id
    ∙ c.loop-number.invariant.left id
    ∙ ap (λ ks. ordered (to_z w64 (of_z w64 c.args.order)) ks (walk_held kind_of c.iter_mut-walk.result) id) c.iter_mut-walk.ensures.kinds
    ∙ ap (λ (w : World Number). ordered (to_z w64 (of_z w64 c.args.order)) (kinds_of c.args.table.now) (world_held kind_of w) id) c.iter_mut-walk.ensures.shown
    ∙ ap (λ (z : ℤ). ordered z (kinds_of c.args.table.now) (world_held kind_of c.args.world.now) id) same
