-- Held values have the kind of their id.
use Rattle.std.proofs.Common.{◌≡◌, Bool, true, false, cond, Option, Some, None, nat_eq, refl, sym, ◌∙◌, ap, arith}
use Rattle.std.specs.Prelude.{is_some}
use Rattle.std.specs.Option.{option_map}
use Rattle.std.proofs.lemmas.Bool.Decides.{nat_tests}
use Rattle.shred_table.specs.declared.id.Kind.{Kind}
use Rattle.shred_table.specs.declared.id.ResourceId.{ResourceId}
use Rattle.shred_table.specs.declared.table.Slot.{Slot}
use Rattle.shred_table.specs.Slots.{slot_held, of_kind}

-- the kind of what a slot holds is the id's
pub slot_held-kind : {V : Type 0} (kind : V → Kind) (id : ResourceId) (s : Option (Slot V)) → option_map kind (slot_held kind id s) ≡ cond (is_some (slot_held kind id s)) (Some id.kind) None
slot_held-kind kind id None = refl
slot_held-kind {V} kind id (Some s) = at s.value where
  at : (o : Option V) → option_map kind (of_kind kind id o) ≡ cond (is_some (of_kind kind id o)) (Some id.kind) None
  at None = refl
  at (Some v) = told (nat_eq (kind v).0 id.kind.0) refl where
    told : (b : Bool) → nat_eq (kind v).0 id.kind.0 ≡ b → option_map kind (cond b (Some v) None) ≡ cond (is_some (cond b (Some v) None)) (Some id.kind) None
    told true e = let k : (kind v).0 ≡ id.kind.0 = grind (arith, nat_tests) in λ i. Some (record { 0 = k i })
    told false e = refl

-- where as much is held, values of the same kinds are held
pub slot_held-same_kind : {V : Type 0} (kind : V → Kind) (id : ResourceId) (s t : Option (Slot V)) → is_some (slot_held kind id s) ≡ is_some (slot_held kind id t) → option_map kind (slot_held kind id s) ≡ option_map kind (slot_held kind id t)
slot_held-same_kind kind id s t e = slot_held-kind kind id s ∙ ap (λ (b : Bool). cond b (Some id.kind) None) e ∙ sym (slot_held-kind kind id t)
