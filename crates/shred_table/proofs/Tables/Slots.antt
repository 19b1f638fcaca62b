-- Slots, written and looked up.
use Rattle.std.proofs.Common.{◌≡◌, Bool, true, false, Option, Some, None, cond, nat_eq, refl, sym, ◌∙◌, ap, arith}
use Rattle.std.proofs.lemmas.Bool.Decides.{nat_tests}
use Rattle.std.specs.Prelude.{OnSome, IfSome, IfNone, MatchOption, ◌≢◌}
use Rattle.shred_table.specs.declared.id.Kind.{Kind}
use Rattle.shred_table.specs.declared.id.ResourceId.{ResourceId}
use Rattle.shred_table.specs.Id.{same_id}
use Rattle.shred_table.specs.Slots.{with_at, of_kind}

-- ids that are told the same are equal
pub same_id-true : (a b : ResourceId) → same_id a b ≡ true → a ≡ b
same_id-true a b h =
    let k : a.kind.0 ≡ b.kind.0 = grind (arith, nat_tests) in
    let n : a.dynamic_id ≡ b.dynamic_id = grind (arith, nat_tests) in
    λ i. record { kind = record { 0 = k i }; dynamic_id = n i }

pub same_id-refl : (a : ResourceId) → same_id a a ≡ true
same_id-refl a = grind (arith, nat_tests)

-- writing what is there changes nothing
pub with_at-same : {X : Type 0} (m : ResourceId → Option X) (id : ResourceId) (w : Option X) → m id ≡ w → (q : ResourceId) → with_at m id w q ≡ m q
with_at-same m id w e q = told (same_id id q) refl where
  told : (b : Bool) → same_id id q ≡ b → cond b w (m q) ≡ m q
  told true h = sym e ∙ ap m (same_id-true id q h)
  told false h = refl

-- what holds, holds where there is a value
pub OnSome-always : {X P : Type 0} (o : Option X) → P → OnSome o P
OnSome-always (Some x) h = h
OnSome-always None h = tt

-- what holds where there is a value, holds for a value
pub OnSome-here : {X P : Type 0} (o : Option X) (x : X) → o ≡ Some x → OnSome o P → P
OnSome-here (Some y) x e h = h
OnSome-here None x e h = absurd (cc)

-- what follows from a fact on the value, where there is one
pub MatchOption-some : {X : Type 0} (N : Type 0) (P : X → Type 0) {Q : X → Type 0} (o : Option X) → ((x : X) → P x → Q x) → MatchOption o N P → IfSome o Q
MatchOption-some N P (Some x) f h = f x h
MatchOption-some N P None f h = tt

-- what follows where there is no value
pub MatchOption-none : {X : Type 0} (N : Type 0) (P : X → Type 0) {M : Type 0} (o : Option X) → (N → M) → MatchOption o N P → IfNone o M
MatchOption-none N P (Some x) f h = tt
MatchOption-none N P None f h = f h

-- a value of another kind is not held
pub of_kind-none : {V : Type 0} (kind : V → Kind) (id : ResourceId) (o : Option V) → IfSome o (λ v. kind v ≢ id.kind) → of_kind kind id o ≡ None
of_kind-none kind id (Some v) ne = told (nat_eq (kind v).0 id.kind.0) refl where
  told : (b : Bool) → nat_eq (kind v).0 id.kind.0 ≡ b → cond b (Some v) None ≡ None
  told true e = absurd (let k : (kind v).0 ≡ id.kind.0 = grind (arith, nat_tests) in ne (λ i. record { 0 = k i }))
  told false e = refl
of_kind-none kind id None ne = refl
