use Rattle.std.proofs.Common.{◌≡◌, ◌&&◌, ◌||◌, Bool, cond, refl, sym, ◌∙◌, ap}
use Rattle.std.specs.Prelude.{is_some}
use Rattle.shred_table.specs.declared.id.ResourceId.{ResourceId}
use Rattle.shred_table.specs.Listed.{listed_at}
use Rattle.shred_table.specs.Parting.{given, slot_value}
use Rattle.shred_table.specs.Slots.{among, slot_at, slot_held}
use Rattle.shred_world.specs.Lending.{left_behind, moved_in}
use Rattle.shred_world.specs.Lent.{lent_base, loose}
use Rattle.shred_world.specs.Views.{behind_slot, is_own, lent_to, may_read, may_write, none_behind, view_slot}
use Rattle.shred_world.proofs.Views.Lent.{and_same, collapse, lent-hand, lent-held, lent-slot}
use Rattle.shred_world.proofs.world.local.LocalWorld.lend.Goals as goal

pub returns : goal.returns
returns g c =
    let kind = g.V.ResourceValue.kind_of in
    let v = c.of_twin.result in
    let made = c.of_twin.ensures in
    let all = c.opened-twin.ensures in
    let table = slot_at c.opened-twin.result.now.table in
    let hand = slot_at c.opened-twin.result.now.hand in
    let written : ResourceId → Bool = λ q. among c.args.writes.now q in
    let own : (q : ResourceId) → is_own v q ≡ written q = λ q i. none_behind (made.base i) (made.shelf i) || among (made.owned i) q in
    let first : (q : ResourceId) → slot_at v.own.now q ≡ cond (written q) (given (slot_value (table q)) (hand q)) (hand q) = λ q. (λ i. listed_at (made.slots i) q) ∙ c.move_each.ensures.to q in
    let behind : (q : ResourceId) → lent_to v q ≡ slot_at c.move_each.new.from q = λ q i. behind_slot (made.base i) (made.shelf i) q in
    let slot : (q : ResourceId) → view_slot v q ≡ cond (written q) (given (slot_value (table q)) (hand q)) (table q) =
    λ q. (λ i. cond (own q i) (first q i) ((behind q ∙ c.move_each.ensures.from q) i)) ∙ collapse (written q) _ _ _ _ in
    let writes : (q : ResourceId) → may_write v q ≡ written q = λ q. (λ i. made.not_whole i || (among (made.writes i) q && among (made.owned i) q)) ∙ and_same (written q) in
    let reads : (q : ResourceId) → may_read v q ≡ (among c.args.reads.now q || written q) = λ q i. among (made.reads i) q || writes q i in (
      (refl, (λ w i. loose (record { table = lent_base c.args.self.now.twin.table (sym made.base i); hand = w }))),
      record {
        shown = λ q. ap (slot_held kind q) (slot q) ∙ lent-held kind q (written q) (table q) (hand q) (all.settled.0 q) (all.settled.1 q) ∙ ap (slot_held kind q) (all.table q);
        lent = record { may_read = reads; may_write = writes; nothing_out = made.nothing_out; own = λ q may there. own q };
        over = record {
          slots = λ q some. slot q ∙ lent-slot (written q) (table q) (hand q) (all.settled.0 q) (all.settled.1 q) (ap is_some (all.table q) ∙ some) ∙ all.table q;
          owned = made.owned;
          shelf = made.shelf;
          behind = λ i. none_behind (made.base i) (made.shelf i);
          hand = λ q some. first q ∙ lent-hand (written q) (table q) (hand q) (all.settled.0 q) (all.settled.1 q) (ap is_some (all.table q) ∙ some) ∙ ap (moved_in c.args.writes.now q) (all.table q);
          table = λ q. (λ i. slot_at (lent_base c.args.self.now.twin.table (made.base i)) q) ∙ c.move_each.ensures.from q ∙ ap (left_behind c.args.writes.now q) (all.table q);
        };
        back = tt;
      },
    )
