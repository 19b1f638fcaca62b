-- Values that are given back in the place of those that were taken.
use Rattle.std.proofs.Common.{◌≡◌, Bool, true, false, Option, Some, None, cond, refl, ap}
use Rattle.shred_table.specs.declared.id.ResourceId.{ResourceId}
use Rattle.shred_world.specs.Bundles.{Part, after_moved, after_part}
use Rattle.shred_world.specs.Grants.{map_grant}
use Rattle.shred_table.specs.Id.{same_id}
use Rattle.shred_table.specs.Slots.{with_at}

-- one value that is given back after one part was taken stands in the place of what was held
pub held-given : {V : Type 0} (m : ResourceId → Option V) (p : Part) (v : V) (q : ResourceId) → with_at (after_part (map_grant m) p).held p.id (Some v) q ≡ with_at m p.id (Some v) q
held-given {V} m p v q = at (m p.id) (same_id p.id q) refl where
  at : (o : Option V) (b : Bool) → same_id p.id q ≡ b → cond b (Some v) ((after_moved (map_grant m) p.id o).held q) ≡ cond b (Some v) (m q)
  at o true e = refl
  at None false e = refl
  at (Some u) false e = ap (λ c. cond c None (m q)) e
