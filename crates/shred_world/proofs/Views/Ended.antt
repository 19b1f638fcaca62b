-- What a world holds once a view that it lent has ended.
use Rattle.std.proofs.Common.{◌≡◌, ◌&&◌, ◌||◌, Bool, true, false, IsTrue, List, Option, Some, None, cond, refl, sym, ◌∙◌, ap}
use Rattle.std.specs.Prelude.{is_some}
use Rattle.std.proofs.lemmas.Bool.{false≢true}
use Rattle.shred_table.specs.declared.id.Kind.{Kind}
use Rattle.shred_table.specs.declared.id.ResourceId.{ResourceId}
use Rattle.shred_table.specs.declared.table.Slot.{Slot}
use Rattle.shred_table.specs.AsOne.{as_one, or_value}
use Rattle.shred_table.specs.Parting.{emptied}
use Rattle.shred_table.specs.Slots.{among, slot_at, slot_held}
use Rattle.shred_world.specs.declared.world.local.LocalWorld.{LocalWorld}
use Rattle.shred_world.specs.declared.world.view.View.{View}
use Rattle.shred_world.specs.Lending.{IsOverLocal}
use Rattle.shred_world.specs.Lent.{lent_base, loose}
use Rattle.shred_world.specs.Views.{bases_of, is_own, lent_to, table_in, view_held, IsSameView}
use Rattle.shred_world.specs.Worlds.{local_held, local_slot}

module _ {V : Type 0} (kind : V → Kind) (id : ResourceId) where
  or_none : (o : Option V) → or_value o None ≡ o
  or_none (Some v) = refl
  or_none None = refl

  -- the two slots of an id as one, once the view has ended, by whether the id is written
  as_one-ended : (b : Bool) (w base hand left : Option (Slot V)) → base ≡ cond b (emptied w) w → (IsTrue (is_some w) → hand ≡ cond b w (emptied w)) → is_some left ≡ is_some hand → (b ≡ false → left ≡ hand) → slot_held kind id (as_one base left) ≡ cond (b && is_some w) (slot_held kind id left) (slot_held kind id w)
  as_one-ended true (Some s) base hand (Some x) base_is hand_is stays others = ap (λ o. slot_held kind id (as_one o (Some x))) base_is
  as_one-ended true (Some s) base hand None base_is hand_is stays others = absurd (false≢true (stays ∙ ap is_some (hand_is refl)))
  as_one-ended true None base hand left base_is hand_is stays others = ap (λ o. slot_held kind id (as_one o left)) base_is
  as_one-ended false (Some s) base hand left base_is hand_is stays others = (λ i. slot_held kind id (as_one (base_is i) ((others refl ∙ hand_is refl) i))) ∙ ap (λ o. slot_held kind id (Some (record { value = o }))) (or_none s.value)
  as_one-ended false None base hand left base_is hand_is stays others = ap (λ o. slot_held kind id (as_one o left)) base_is

  -- the world ends with what the view shows of the written ids that it has room for, and with all else as it was
  pub ended : (local : LocalWorld V) (writes : List ResourceId) (view left : View V) → IsOverLocal local writes view → IsSameView view left → local_held kind (loose (record { table = lent_base local.twin.table (bases_of view); hand = table_in left })) id ≡ cond (among writes id && is_some (local_slot local id)) (view_held kind left id) (local_held kind local id)
  ended local writes view left over same =
      let own : is_own view id ≡ among writes id = λ i. over.behind i || among (over.owned i) id in
      as_one-ended (among writes id) (local_slot local id) (slot_at (lent_base local.twin.table (bases_of view)) id) (slot_at (table_in view) id) (slot_at (table_in left) id) (over.table id) (over.hand id) (same.slots id) (λ not. same.others id (own ∙ not))
      ∙ shown (among writes id) (is_some (local_slot local id)) (slot_at (table_in left) id) (lent_to left id) (is_own left id) (same.own id ∙ own) where
        shown : (b there : Bool) (own behind : Option (Slot V)) (o : Bool) → o ≡ b → cond (b && there) (slot_held kind id own) (local_held kind local id) ≡ cond (b && there) (slot_held kind id (cond o own behind)) (local_held kind local id)
        shown true there own behind o is = λ i. cond there (slot_held kind id (cond (sym is i) own behind)) (local_held kind local id)
        shown false there own behind o is = refl
