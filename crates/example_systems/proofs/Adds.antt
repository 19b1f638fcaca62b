-- A system that adds allows one end that is Done.
use Rattle.std.proofs.Common.{◌≡◌, ◌≢◌, ℕ, ℤ, pos, true, List, [], ◌∷◌, Option, Some, None, Ok, Err, Contains, inl, inr, sym, ◌∙◌, ap, refl, subst, arith}
use Rattle.std.proofs.Math.Path.{fun_ext}
use Rattle.std.specs.Prelude.{MatchResult, slice_index_or}
use Rattle.std.specs.Result.{is_ok}
use Rattle.std.specs.Int.{w64, int_wrapping_add}
use Rattle.shred_model.specs.Runs.{Answer}
use Rattle.shred_table.specs.declared.id.ResourceId.{ResourceId}
use Rattle.shred_table.specs.declared.only.Only.{Only}
use Rattle.shred_table.proofs.Tables.Ids.{tell_ids}
use Rattle.shred_world.specs.declared.world.view.DataError.{DataError}
use Rattle.shred_world.specs.Worked.{Held}
use Rattle.shred_run.specs.Alone.{StepsAlone}
use Rattle.shred_run.specs.declared.system.Fault.TheVariants.{OutOfMemory}
use Rattle.shred_run.specs.Steps.{Outcome}
use Rattle.shred_run.specs.declared.now.Now.{Now}
use Rattle.shred.specs.declared.plain.Plain.{Plain}
use Rattle.shred_orders.specs.OneEnd.{AllowOneEnd, IsDeterministic, IsDeterministicLocal, IsDone, own_access}
use Rattle.shred_orders.proofs.Made.{keeping-deterministic, now-deterministic, plain-deterministic}
use Rattle.example_systems.specs.declared.enum_of_systems.Add.{Add}
use Rattle.example_systems.specs.Adders.{PlainAddStep}
use Rattle.example_systems.specs.Jobs.{AddStep}
use Rattle.example_systems.specs.Numbers.{kind_of, number_id, number_value}
use Rattle.example_systems.specs.Refusals.{IsMissing}
use Rattle.example_systems.specs.WithoutBatches.{systems_lists, without_batches}

-- the number of the place has grown by the amount
abbrev IsAdded : Add → Held (Only ℤ) → Held (Only ℤ) → Type 0
IsAdded add seen left = (number : ℤ) × (seen (number_id add.to) ≡ Some (number_value number)) × (left (number_id add.to) ≡ Some (number_value (int_wrapping_add w64 number add.amount)))

-- the number of a value, 0 where there is none
number_in : Option (Only ℤ) → ℤ
number_in (Some value) = value.0
number_in None = pos 0

-- two that saw the same left the same number
same-number : (add : Add) (seen left gone : Held (Only ℤ)) → IsAdded add seen left → IsAdded add seen gone → gone (number_id add.to) ≡ left (number_id add.to)
unfolding number_in
same-number add seen left gone (n, saw, added) (m, saw_too, added_too) =
    let same : n ≡ m = ap number_in (sym saw ∙ saw_too) in
    added_too ∙ (λ i. Some (number_value (int_wrapping_add w64 (sym same i) add.amount))) ∙ sym added

-- of a list of one place, no other id is in it
not-written : (place id : ResourceId) → place ≢ id → Contains (place ∷ []) id → ⊥
not-written place id ne (k, below, is) = ne (let e : k ≡ 0 = omega (arith, below) in subst (λ (j : ℕ). slice_index_or (place ∷ []) j id ≡ id) e is)

-- a step that adds and is Done has one end
add-deterministic : IsDeterministic kind_of AddStep (λ add. []) (λ add. number_id add.to ∷ []) IsDone
add-deterministic r q of_r of_q before seen sound done_r done_q =
    let add = r.before in
    let added : IsAdded add r.seen r.left = subst (λ (o : Outcome DataError). MatchResult o (λ done. IsAdded add r.seen r.left) (λ fault. IsMissing (number_id add.to) r.seen fault r.left)) done_r.1 of_r.lies.1 in
    let its : IsAdded q.before q.seen q.left = subst (λ (o : Outcome DataError). MatchResult o (λ done. IsAdded q.before q.seen q.left) (λ fault. IsMissing (number_id q.before.to) q.seen fault q.left)) done_q.1 of_q.lies.1 in
    let added_too : IsAdded add r.seen q.left = subst (λ (h : Held (Only ℤ)). IsAdded add h q.left) seen (subst (λ (a : Add). IsAdded a q.seen q.left) before its) in
    let declared : q.access ≡ r.access = of_q.declared ∙ (λ i. own_access (λ (a : Add). []) (λ (a : Add). number_id a.to ∷ []) (before i)) ∙ sym of_r.declared in
    record {
      outcome = done_q.1 ∙ sym done_r.1;
      after = of_q.lies.0 ∙ before ∙ sym of_r.lies.0;
      left = fun_ext (λ id. elim (tell_ids (number_id add.to) id) [
        | inl e ↦ subst (λ (i : ResourceId). q.left i ≡ r.left i) e (same-number add r.seen r.left q.left added added_too)
        | inr ne ↦ (let out : Contains r.access.writes id → ⊥ = (λ w. not-written (number_id add.to) id ne (subst (λ a. Contains a.writes id) of_r.declared w)) in
            of_q.frame id (λ w. out (subst (λ a. Contains a.writes id) declared w)) ∙ (λ i. seen i id) ∙ sym (of_r.frame id out))
      ]);
    }

-- so it is of the staged system of it
pub plain-adds : IsDeterministic kind_of PlainAddStep (λ (plain : Plain Add). []) (λ (plain : Plain Add). number_id plain.0.to ∷ []) IsDone
plain-adds = plain-deterministic kind_of AddStep (λ add. []) (λ add. number_id add.to ∷ []) IsDone add-deterministic

-- want of memory is no such end
never-wanting : {A E : Type 0} → IsDone {A = A} {E = E} (Err OutOfMemory) → ⊥
never-wanting (x, e) = absurd (cc)

-- and of the thread-local one
pub now-adds : (now : Now (Plain Add)) → IsDeterministicLocal kind_of (λ (before : Now (Plain Add)) held outcome (after : Now (Plain Add)) left.
    StepsAlone kind_of (λ (before : Plain Add) seen outcome (after : Plain Add) left. AddStep before.0 seen outcome after.0 left) (λ (plain : Plain Add). []) (λ (plain : Plain Add). number_id plain.0.to ∷ []) before.0 held outcome after.0 left) IsDone now
now-adds now = now-deterministic kind_of PlainAddStep (λ (plain : Plain Add). []) (λ (plain : Plain Add). number_id plain.0.to ∷ []) IsDone never-wanting plain-adds now

-- the lists of the staged systems
abbrev reads : Plain Add → List ResourceId
reads plain = []

abbrev writes : Plain Add → List ResourceId
writes plain = number_id plain.0.to ∷ []

-- the relations of such a plan allow one end that is Done
pub allow-one-end : AllowOneEnd kind_of (without_batches reads writes PlainAddStep) (systems_lists reads writes) (λ A. IsDone {A = A})
allow-one-end = record {
  steps = keeping-deterministic kind_of PlainAddStep reads writes IsDone plain-adds;
  begins = λ r q of_r of_q before seen sound done_r done_q. absurd (never-wanting (done_r.0, sym of_r.lies.0.refused ∙ done_r.1));
  asks = λ r q of_r of_q before seen sound done_r done_q. absurd (never-wanting (done_r.0, sym of_r.lies.0.refused ∙ done_r.1));
}

-- an answer that is Ok is Done
pub done-answer : {F : Type 0} (a : Answer F) → is_ok a ≡ true → a ≡ Ok tt
done-answer (Ok done) e = refl
done-answer (Err fault) e = absurd (cc)
