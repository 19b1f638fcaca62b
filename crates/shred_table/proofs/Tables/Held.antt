-- What a table holds after a slot of it was written or taken away.
use Rattle.std.proofs.Common.{◌≡◌, Bool, true, false, Option, Some, None, cond, nat_eq, refl, sym}
use Rattle.std.specs.Borrow.{Bor, MutBor}
use Rattle.std.specs.Prelude.{is_none, is_some, MatchOption, OnSome, IfSome, IfNone}
use Rattle.std.specs.Option.{option_copied, option_copied_mut, option_map}
use Rattle.shred_table.specs.declared.id.Kind.{Kind}
use Rattle.shred_table.specs.declared.id.ResourceId.{ResourceId}
use Rattle.shred_table.specs.Slots.{of_kind}

-- what follows from a fact, where there is a value
pub OnSome-map : {X P Q : Type 0} (o : Option X) → (P → Q) → OnSome o P → OnSome o Q
OnSome-map (Some x) f h = f h
OnSome-map None f h = tt

-- what follows from a fact on the value, where there is one
pub IfSome-map : {X : Type 0} {P Q : X → Type 0} (o : Option X) → ((x : X) → P x → Q x) → IfSome o P → IfSome o Q
IfSome-map (Some x) f h = f x h
IfSome-map None f h = tt

-- what is shown of each value, and of none
pub option_map-shown : {X V : Type 0} (f : X → V) (o : Option X) (h : Option V) → IfSome o (λ x. h ≡ Some (f x)) → IfNone o (h ≡ None) → option_map f o ≡ h
option_map-shown f (Some x) h some none = sym some
option_map-shown f None h some none = sym none

-- what is found is there
pub copied-some : {X : Type 0} (r : Option (Bor X)) → is_none r ≡ false → is_some (option_copied r) ≡ true
copied-some (Some r) there = refl
copied-some None there = absurd (cc)

-- what is found is there, and what is not found is not
pub copied-is_some : {X : Type 0} (r : Option (Bor X)) → is_some (option_copied r) ≡ is_some r
copied-is_some (Some r) = refl
copied-is_some None = refl

-- what is lent of a value is the value
pub copied-value : {X : Type 0} (r : Option (MutBor X)) (o : Option X) → MatchOption r (o ≡ None) (λ x. o ≡ Some x.now) → option_copied_mut r ≡ o
copied-value (Some r) o is = sym is
copied-value None o is = sym is

-- a value that is of the kind is held
pub of_kind-all : {V : Type 0} (kind : V → Kind) (id : ResourceId) (o : Option V) → is_some (of_kind kind id o) ≡ true → of_kind kind id o ≡ o
of_kind-all {V} kind id (Some v) there = told (nat_eq (kind v).0 id.kind.0) there where
  told : (b : Bool) → is_some (let h : Option V = cond b (Some v) None in h) ≡ true → cond b (Some v) None ≡ Some v
  told true some = refl
  told false some = absurd (cc)
of_kind-all kind id None there = refl
