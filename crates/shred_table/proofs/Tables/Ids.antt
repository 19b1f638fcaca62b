-- Ids told apart, and looked for in lists.
use Rattle.std.proofs.Common.{◌≡◌, ◌≢◌, zero, suc, Bool, true, false, ◌||◌, List, [], ◌∷◌, ◌⊎◌, Contains, inl, inr, refl, sym, ◌∙◌, arith}
use Rattle.shred_model.proofs.Records.Telling.{Tells}
use Rattle.shred_model.proofs.Records.Membership.{Contains-later}
use Rattle.shred_table.specs.declared.id.ResourceId.{ResourceId}
use Rattle.shred_table.specs.Id.{same_id}
use Rattle.shred_table.specs.Slots.{among}
use Rattle.shred_table.proofs.Tables.Slots.{same_id-true, same_id-refl}

-- ids can be told apart
pub tell_ids : Tells ResourceId
tell_ids a b = told (same_id a b) refl where
  told : (t : Bool) → same_id a b ≡ t → (a ≡ b) ⊎ (a ≢ b)
  told true e = inl (same_id-true a b e)
  told false e = inr (λ same. absurd (let f : true ≡ false = sym (same_id-refl a) ∙ (λ i. same_id a (same i)) ∙ e in cc))

found : (x id : ResourceId) (ids : List ResourceId) (t : Bool) → same_id x id ≡ t → (t || among ids id) ≡ true → (among ids id ≡ true → Contains ids id) → Contains (x ∷ ids) id
found x id ids true e h later = (zero, omega arith, same_id-true x id e)
found x id ids false e h later = Contains-later id x ids (later h)

-- an id that is found in a list is in it
pub among-true : (ids : List ResourceId) (id : ResourceId) → among ids id ≡ true → Contains ids id
among-true [] id h = absurd (cc)
among-true (x ∷ ids) id h = found x id ids (same_id x id) refl h (among-true ids id)

-- an id that is in a list is found
pub among-contains : (ids : List ResourceId) (id : ResourceId) → Contains ids id → among ids id ≡ true
among-contains [] id (k, below, is) = absurd (omega arith)
among-contains (x ∷ ids) id (zero, below, is) = rw is (rw (same_id-refl id) refl)
among-contains (x ∷ ids) id (suc k, below, is) = rw (among-contains ids id (k, omega arith, is)) (or_true (same_id x id)) where
  or_true : (t : Bool) → (t || true) ≡ true
  or_true true = refl
  or_true false = refl

pub among-false : (ids : List ResourceId) (id : ResourceId) → (Contains ids id → ⊥) → among ids id ≡ false
among-false ids id out = told (among ids id) refl where
  told : (t : Bool) → among ids id ≡ t → among ids id ≡ false
  told true e = absurd (out (among-true ids id e))
  told false e = e
