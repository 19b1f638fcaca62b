use Rattle.std.proofs.Common.{refl, ◌∙◌}
use borrow.Rule.Reborrow.{re_v}
use Rattle.shred_table.specs.Parting.{filled}
use Rattle.shred_table.specs.Slots.{slot_at}
use Rattle.shred_world.specs.Views.{is_own, noted}
use Rattle.shred_table.specs.Slots.{is_vacant}
use Rattle.shred_world.proofs.Bundles.Grants.{slots_with, others_with, filled-some, same_loan, grant_with_back, out-own}
use Rattle.shred_world.proofs.world.view.View.put_back.Goals as goal

pub returns-clause-after : goal.returns-clause-after
returns-clause-after g c =
    let s = c.args.self.now in
    let v = c.wrap.result in
    let is = c.fill.ensures.slots in
    let out = out-own (is_own s c.args.id) (noted s c.args.id) (is_vacant (slot_at s.own.now c.args.id)) c.requires.out in
    grant_with_back g.V.ResourceValue.kind_of s (record s { own = re_v c.fill.new.table s.own }) refl refl refl refl refl refl refl
    (slots_with (slot_at s.own.now) (slot_at c.fill.new.table) c.args.id (filled v (slot_at s.own.now c.args.id)) (filled-some v (slot_at s.own.now c.args.id)) is)
    c.args.id (g.R.Resource.wrapped c.args.resource) out.0 v c.wrap.ensures (g.met.R.Resource.wrapped_kind c.args.resource ∙ c.requires.kind) out.1 c.fill.ensures.noted is

pub returns-clause-loan : goal.returns-clause-loan
returns-clause-loan g c =
    let s = c.args.self.now in
    let v = c.wrap.result in
    let is = c.fill.ensures.slots in
    let out = out-own (is_own s c.args.id) (noted s c.args.id) (is_vacant (slot_at s.own.now c.args.id)) c.requires.out in
    let same = filled-some v (slot_at s.own.now c.args.id) in
    same_loan g.V.ResourceValue.kind_of s (record s { own = re_v c.fill.new.table s.own }) refl refl refl refl refl refl refl
    (slots_with (slot_at s.own.now) (slot_at c.fill.new.table) c.args.id (filled v (slot_at s.own.now c.args.id)) same is)
    (others_with (slot_at s.own.now) (slot_at c.fill.new.table) c.args.id (filled v (slot_at s.own.now c.args.id)) same is (is_own s) out.0)
