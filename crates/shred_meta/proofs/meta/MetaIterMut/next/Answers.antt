use Rattle.std.proofs.Common.{◌≡◌, Some, refl, ap, sym, ◌∙◌}
use Rattle.std.specs.Prelude.{ℕ, is_some}
use Rattle.std.specs.Option.{option_copied_mut}
use Rattle.shred_world.specs.declared.world.World.{World}
use Rattle.shred_table.specs.declared.id.ResourceId.{ResourceId}
use Rattle.shred_table.specs.Id.{id_of, id_kind}
use Rattle.shred_table.specs.Slots.{of_kind, with_at}
use Rattle.shred_world.specs.Worlds.{world_held}
use Rattle.shred_meta.specs.Walks.{first_held_kind}
use Rattle.shred_meta.proofs.Firsts.{first-shown, first-is_held, IfNone-not, OnSome-map, IfSome-at}
use Rattle.shred_meta.proofs.meta.MetaIterMut.next.Goals as goal

pub returns : goal.returns
returns g c =
    let kind = g.V.ResourceValue.kind_of in
    let s = c.args.self.now in
    let id = c.in_ok-id.id in
    let told = c.in_ok-id.ensures in
    let held = world_held kind s.world.now in
    let k = id_kind id in
    let at_id : id ≡ id_of k 0 = ap (λ (n : ℕ). id_of k n) told.number in
    let same_world = ap (λ (w : World g.row.V.Denot). world_held kind w) told.world.0 in
    let shown : option_copied_mut c.value_of_mut.result ≡ held (id_of k 0) =
    c.value_of_mut.ensures.shown ∙ ap (λ h. h id) same_world ∙ ap (λ (i : ResourceId). held i) at_id in (
      (
        refl,
        (λ w.
            OnSome-map c.value_of_mut.result
            (λ f. (
              told.left,
              told.world.1,
              IfSome-at _ (first_held_kind held s.kinds.now) k told.first
                  (λ q. f q ∙ ap (λ h. with_at h id (of_kind kind id (Some w)) q) same_world ∙ ap (λ (i : ResourceId). with_at held i (of_kind kind i (Some w)) q) at_id),
            ))
            (c.value_of_mut.follows.holds w)),
        IfNone-not _ c.value_of_mut.result (ap is_some shown ∙ first-is_held held s.kinds.now k told.first),
      ),
      record { shown = shown ∙ sym (first-shown held s.kinds.now k told.first); written = tt },
    )
