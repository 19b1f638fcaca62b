-- The order of ids is total.
use Rattle.std.proofs.Common.{◌≡◌, ℕ, Bool, true, false, Ordering, refl, sym, ◌∙◌, ap, arith}
use Rattle.std.specs.Cmp.{IsTotalOrder}
use Rattle.std.specs.Ordering.{nat_cmp, ordering_then, ordering_reverse}
use Rattle.std.specs.declared.cmp.Ordering.TheVariants.{Less, Equal, Greater}
use Rattle.std.proofs.lemmas.Bool.Decides.{nat_tests}
use Rattle.std.proofs.lemmas.Cmp.{nat_cmp_total, on_total, then_total, tied_itself}
use Rattle.shred_table.specs.declared.id.ResourceId.{ResourceId}
use Rattle.shred_table.specs.Id.{same_id}
use Rattle.shred_table.specs.InOrder.{id_order}
use Rattle.shred_table.proofs.Tables.Slots.{same_id-true}

pub same_id-sym : (a b : ResourceId) → same_id a b ≡ same_id b a
same_id-sym a b = grind (arith, nat_tests)

pub id_order-total : IsTotalOrder id_order
id_order-total = then_total (on_total (λ (a : ResourceId). a.kind.0) nat_cmp_total) (on_total (λ (a : ResourceId). a.dynamic_id) nat_cmp_total)

-- an id that comes before another is not the same
pub same_id-before : (a b : ResourceId) → id_order a b ≡ Less → same_id a b ≡ false
same_id-before a b less = told (same_id a b) refl where
  told : (t : Bool) → same_id a b ≡ t → same_id a b ≡ false
  told true e = absurd (let no : Less ≡ Equal = sym less ∙ sym (ap (id_order a) (same_id-true a b e)) ∙ tied_itself id_order-total a in cc)
  told false e = e

equal_is_same : (x y : ℕ) → nat_cmp x y ≡ Equal → x ≡ y
equal_is_same x y e = grind (arith, nat_tests)

same_by : (a b : ResourceId) (kinds : Ordering) → nat_cmp a.kind.0 b.kind.0 ≡ kinds → ordering_then kinds (nat_cmp a.dynamic_id b.dynamic_id) ≡ Equal → a ≡ b
same_by a b Less k e = absurd (cc)
same_by a b Equal k e = λ i. record { kind = record { 0 = equal_is_same a.kind.0 b.kind.0 k i }; dynamic_id = equal_is_same a.dynamic_id b.dynamic_id e i }
same_by a b Greater k e = absurd (cc)

-- ids that stand alike are equal
pub id_order-Equal : (a b : ResourceId) → id_order a b ≡ Equal → a ≡ b
id_order-Equal a b e = same_by a b (nat_cmp a.kind.0 b.kind.0) refl e

-- an id comes after those that come before it
pub id_order-turned : (a b : ResourceId) → id_order a b ≡ Greater → id_order b a ≡ Less
id_order-turned a b e = id_order-total.antisymm b a ∙ ap ordering_reverse e
