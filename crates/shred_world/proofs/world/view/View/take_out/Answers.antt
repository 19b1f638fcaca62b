use Rattle.std.proofs.Common.{◌≡◌, ◌||◌, true, not, sym, ap, ◌∙◌}
use Rattle.std.specs.Prelude.{is_some}
use Rattle.shred_world.specs.Handing.{moved_value}
use Rattle.shred_table.specs.Id.{same_id}
use Rattle.shred_table.specs.Parting.{emptied}
use Rattle.shred_table.specs.Slots.{slot_at, with_at}
use Rattle.shred_world.specs.Views.{is_own, noted}
use Rattle.shred_world.proofs.Bundles.Grants.{slots_with, others_with, emptied-some, some-found, same_loan, grant_after}
use Rattle.shred_world.proofs.Views.Refusals.{own_held}
use Rattle.shred_world.proofs.world.view.View.take_out.Goals as goal

pub returns-in-Ok-clause-after : goal.returns-in-Ok-clause-after
returns-in-Ok-clause-after g c =
    let kind = g.V.ResourceValue.kind_of in
    let s = c.args.self.now in
    let n = c.take_noted.new.self in
    let id = c.args.id in
    let slots = c.note.ensures.slots in
    let two = c.take_noted.ensures.lists in
    let is : (q : _) → slot_at n.own.now q ≡ with_at (slot_at s.own.now) id (emptied (slot_at s.own.now id)) q =
    λ q. c.take_noted.ensures.own q ∙ (λ i. with_at (λ x. slots x i) id (emptied (slots id i)) q) in
    let own : is_own s id ≡ true = sym c.is_own.ensures ∙ c.if-not-is_own.false in
    let notes : (q : _) → noted n q ≡ (same_id id q || noted s q) =
    λ q. c.take_noted.ensures.noted q ∙ c.in-Ok.ensures.ok q in
    grant_after kind s n two.reads two.writes two.owned two.whole two.shelf two.base c.take_noted.ensures.name
    (slots_with (slot_at s.own.now) _ id _ (emptied-some (slot_at s.own.now id)) is)
    id (moved_value kind s id) own (sym (own_held kind s id own)) (ap is_some (own_held kind s id own) ∙ some-found c.get.result _ c.get.ensures (c.is_none.ensures ∙ ap not c.if-is_none.false)) notes is

pub returns-in-Ok-clause-loan : goal.returns-in-Ok-clause-loan
returns-in-Ok-clause-loan g c =
    let s = c.args.self.now in
    let n = c.take_noted.new.self in
    let id = c.args.id in
    let slots = c.note.ensures.slots in
    let two = c.take_noted.ensures.lists in
    let is : (q : _) → slot_at n.own.now q ≡ with_at (slot_at s.own.now) id (emptied (slot_at s.own.now id)) q =
    λ q. c.take_noted.ensures.own q ∙ (λ i. with_at (λ x. slots x i) id (emptied (slots id i)) q) in
    let own : is_own s id ≡ true = sym c.is_own.ensures ∙ c.if-not-is_own.false in
    let same = emptied-some (slot_at s.own.now id) in
    same_loan g.V.ResourceValue.kind_of s n two.reads two.writes two.owned two.whole two.shelf two.base c.take_noted.ensures.name
    (slots_with (slot_at s.own.now) _ id _ same is)
    (others_with (slot_at s.own.now) _ id _ same is (is_own s) own)
