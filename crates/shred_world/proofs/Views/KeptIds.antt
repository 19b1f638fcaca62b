-- What is held under the ids of a view, once it was written or was not.
use Rattle.std.proofs.Common.{◌≡◌, ◌&&◌, ◌||◌, Bool, true, false, Option, Some, None, cond, refl, sym, ◌∙◌, ap}
use Rattle.std.specs.Prelude.{is_some}
use Rattle.shred_table.specs.declared.id.ResourceId.{ResourceId}
use Rattle.shred_table.specs.Id.{same_id}
use Rattle.shred_table.specs.declared.id.Kind.{Kind}
use Rattle.shred_table.specs.Slots.{among, with_at}
use Rattle.shred_world.specs.declared.world.view.View.{View}
use Rattle.shred_world.specs.Views.{declared_held, view_held, IsSameView}
use Rattle.shred_table.proofs.Tables.Slots.{same_id-true}

-- where a value was written under an id that held one, values are held under the same ids
pub ids-kept : {V : Type 0} (old new : ResourceId → Option V) (id : ResourceId) (v : V) → is_some (old id) ≡ true → ((q : ResourceId) → new q ≡ with_at old id (Some v) q) → (q : ResourceId) → is_some (new q) ≡ is_some (old q)
ids-kept {V} old new id v there is q = ap is_some (is q) ∙ at (same_id id q) refl where
  at : (b : Bool) → same_id id q ≡ b → is_some (cond b (Some v) (old q)) ≡ is_some (old q)
  at true e = sym there ∙ (λ i. is_some (old (same_id-true id q e i)))
  at false e = refl

-- where the view and what it shows stay, so does what it shows of the declared ids
pub declared-same : {V : Type 0} (kind : V → Kind) (view n : View V) → IsSameView view n → ((q : ResourceId) → view_held kind n q ≡ view_held kind view q) → declared_held kind n ≡ declared_held kind view
declared-same kind view n same held = λ i q. cond (among (same.reads i) q || (same.whole i || (among (same.writes i) q && among (same.owned i) q))) (held q i) None
