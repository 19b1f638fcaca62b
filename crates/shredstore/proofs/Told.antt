-- What can be told: whether two ids or two agents are the same, and whether an access declares an id.
use Rattle.std.proofs.Common.{◌≡◌, ◌≢◌, Bool, true, false, ◌⊎◌, List, Contains, inl, inr, refl, sym, ◌∙◌, ap, true≢false, arith}
use Rattle.std.specs.Bool.{Decides}
use Rattle.std.proofs.lemmas.Bool.Decides.{Decides-eqb, nat_tests}
use Rattle.std.proofs.lemmas.Map.Made.{is_member-Decides}
use Rattle.std.proofs.lemmas.Slice.Eq.{slice_eq-Decides}
use Rattle.shred_model.specs.Access.{Access, Declares}
use Rattle.shred_model.specs.Record.{Agent}
use Rattle.shred_table.specs.declared.id.ResourceId.{ResourceId}
use Rattle.shred_table.specs.Id.{same_id}

-- an id is told to be the same as itself
pub same_id-refl : (a : ResourceId) → same_id a a ≡ true
same_id-refl a = grind (arith, nat_tests)

-- ids that are told the same are equal
pub same_id-true : (a b : ResourceId) → same_id a b ≡ true → a ≡ b
same_id-true a b h =
    let kind : a.kind.0 ≡ b.kind.0 = grind (arith, nat_tests) in
    let number : a.dynamic_id ≡ b.dynamic_id = grind (arith, nat_tests) in
    λ i. record { kind = record { 0 = kind i }; dynamic_id = number i }

-- what a test decides is so or is not
told : {P : Type 0} (test : Bool) → Decides test P → P ⊎ (P → ⊥)
told true decides = inl (decides.0 refl)
told false decides = inr (λ p. true≢false (sym (decides.1 p)))

pub same_agent : (a b : Agent) → (a ≡ b) ⊎ (a ≢ b)
same_agent a b = told _ (slice_eq-Decides Decides-eqb a b _ refl)

is_contained : (ids : List ResourceId) (id : ResourceId) → Contains ids id ⊎ (Contains ids id → ⊥)
is_contained ids id = told _ (is_member-Decides (λ a b. (same_id-true a b, λ e. ap (same_id a) (sym e) ∙ same_id-refl a)) ids id)

pub is_declared : (access : Access ResourceId) (id : ResourceId) → Declares access id ⊎ (Declares access id → ⊥)
is_declared access id =
    elim (is_contained access.reads id) [
      | inl read ↦ inl (inl read)
      | inr unread ↦ elim (is_contained access.writes id) [
        | inl written ↦ inl (inr written)
        | inr unwritten ↦ inr (λ declared. elim declared [ inl read ↦ unread read | inr written ↦ unwritten written ])
      ]
    ]
