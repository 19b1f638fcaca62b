use Rattle.std.proofs.Common.{◌≡◌, Some, None, sym, ◌∙◌, ap, rules}
use Rattle.shred_table.specs.Slots.{with_at}
use Rattle.shred_world.specs.Worlds.{world_held, world_slot}
use Rattle.shred_table.specs.Twins.{twin_slot}
use Rattle.shred_world.proofs.Views.Filled.{filled-none, none_is}
use Rattle.shred_world.proofs.Views.Settled.{slot-written, with_at-twice}
use Rattle.shred_world.proofs.world.World.fill.Goals as goal

pub make-requires : goal.make-requires
make-requires g c = search rules

pub returns-clause-ok : goal.returns-clause-ok
returns-clause-ok g c =
    let kind = g.V.ResourceValue.kind_of in
    let id = c.args.id in
    let before = world_held kind c.args.self.now in
    let none : before id ≡ None = none_is (before id) (sym c.has_value_raw.ensures ∙ c.if-has_value_raw.false) in
    let wrapped : c.wrap.result ≡ g.R.Resource.wrapped c.make.result = c.wrap.ensures in
    let ends = with_at-twice (world_slot c.args.self.now) (twin_slot c.open.new.self) (twin_slot c.put.new.self) id _ (Some (record { value = Some c.wrap.result })) c.in_ok-open.ensures.ok c.in_ok-put.ensures.ok in
    let law = ap kind wrapped ∙ g.met.R.Resource.wrapped_kind c.make.result ∙ c.requires.kind in
    filled-none g.R.Resource.wrapped _ id before _ none c.make.result c.make.ensures (λ q. slot-written kind (world_slot c.args.self.now) (twin_slot c.put.new.self) id c.wrap.result law ends q ∙ ap (λ v. with_at before id (Some v) q) wrapped)
