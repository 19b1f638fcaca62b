-- The ids that have a slot.
use Rattle.std.proofs.Common.{◌≡◌, ℕ, zero, suc, ◌<◌, length, get_or, set, arith, ◌||◌, Bool, true, false, List, [], ◌∷◌, Some, map, cond, refl, sym, ◌∙◌, ap}
use Rattle.std.specs.Prelude.{is_some, Result, Ok, Err, IfOk}
use Rattle.std.specs.Map.{lookup}
use Rattle.shred_table.specs.declared.id.ResourceId.{ResourceId}
use Rattle.shred_table.specs.Id.{same_id}
use Rattle.shred_table.specs.Slots.{among}
use Rattle.shred_table.proofs.Tables.Slots.{same_id-true}

-- an id is as the other as the other is as it
same_id-back : (a b : ResourceId) → same_id a b ≡ same_id b a
same_id-back a b = told (same_id a b) (same_id b a) refl refl where
  told : (s t : Bool) → same_id a b ≡ s → same_id b a ≡ t → same_id a b ≡ same_id b a
  told true t e f = ap (λ (x : ResourceId). same_id x b) (same_id-true a b e) ∙ ap (λ (x : ResourceId). same_id b x) (sym (same_id-true a b e))
  told false true e f = ap (λ (x : ResourceId). same_id x b) (sym (same_id-true b a f)) ∙ ap (λ (x : ResourceId). same_id b x) (same_id-true b a f)
  told false false e f = e ∙ sym f

-- an id is among those of a list of pairs where something is found for it
pub among-keys : {X : Type 0} (pairs : List (ResourceId × X)) (q : ResourceId) → among (map (λ pair. pair.0) pairs) q ≡ is_some (lookup (same_id q) pairs)
among-keys [] q = refl
among-keys (pair ∷ pairs) q = ap (λ (b : Bool). b || among (map (λ p. p.0) pairs) q) (same_id-back pair.0 q) ∙ told (same_id q pair.0) (among-keys pairs q) where
  told : (t : Bool) → among (map (λ p. p.0) pairs) q ≡ is_some (lookup (same_id q) pairs) → t || among (map (λ p. p.0) pairs) q ≡ is_some (cond t (Some pair.1) (lookup (same_id q) pairs))
  told true rest = refl
  told false rest = rest

-- writing a slot keeps the ids
pub keys-written : {X : Type 0} (pairs : List (ResourceId × X)) (i : ℕ) (x d : ResourceId × X) → i < length pairs → x.0 ≡ (get_or pairs i d).0 → map (λ pair. pair.0) (set pairs i x) ≡ map (λ pair. pair.0) pairs
keys-written [] i x d below same = absurd (omega arith)
keys-written (pair ∷ pairs) zero x d below same = ap (λ (a : ResourceId). a ∷ map (λ p. p.0) pairs) same
keys-written (pair ∷ pairs) (suc i) x d below same = ap (λ (l : List ResourceId). pair.0 ∷ l) (keys-written pairs i x d (omega arith) same)

-- what follows at `Ok`
pub IfOk-follows : {A E : Type 0} {P Q : A → Type 0} (r : Result A E) → ((x : A) → P x → Q x) → IfOk r P → IfOk r Q
IfOk-follows (Ok x) f p = f x p
IfOk-follows (Err e) f p = tt
