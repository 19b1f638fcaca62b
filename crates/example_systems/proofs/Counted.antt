-- A call with a bundle of a count and a limit: what it leaves of a map.
use Rattle.std.proofs.Common.{◌≡◌, ℤ, inl, inr, Bool, true, false, cond, List, [], ◌∷◌, Option, Some, None, Result, Ok, Err, IfOk, refl, sym, ◌∙◌, ap, subst}
use Rattle.std.specs.Prelude.{IfErr, is_some}
use Rattle.std.specs.Borrow.{MutBor}
use Rattle.std.specs.Fn.{FnOnceReturnsAtMut, Once}
use Rattle.shred_table.specs.declared.id.ResourceId.{ResourceId}
use Rattle.shred_world.specs.declared.world.view.DataError.{DataError}
use Rattle.shred_world.specs.declared.world.view.DataError.TheVariants.{Missing, OutOfMemory}
use Rattle.shred_world.specs.BundleParts.{written_value, read_value, moved_to_read}
use Rattle.shred_world.specs.Bundles.{Part, after_moved, after_part, after_parts, bundle_refusal, moved_at, moved_for, or_refusal}
use Rattle.shred_world.specs.Executed.{IsExecuted, IsTaken, as_data_error}
use Rattle.shred_world.specs.Views.{refusal}
use Rattle.shred_world.specs.Grants.{Grant, Moved, given_back, map_grant}
use Rattle.shred_table.specs.Id.{id_of, same_id}
use Rattle.shred_table.specs.Slots.{with_at}
use Rattle.shred_table.proofs.Tables.Slots.{same_id-true}
use Rattle.example_systems.specs.declared.counting.Counting.{Counting}
use Rattle.example_systems.specs.declared.limits.Count.{Count}
use Rattle.example_systems.specs.declared.limits.Limit.{Limit}
use Rattle.example_systems.specs.declared.limits.Value.{Value}
use Rattle.example_systems.specs.declared.limits.Value.TheVariants.{Counted, Limited}
use Rattle.example_systems.specs.Limits.{IsCountedIn, IsCountingRefused, StartsAtZero, counted_up, count_kind, limit_kind}

abbrev count_at : ResourceId
count_at = id_of count_kind 0

abbrev limit_at : ResourceId
limit_at = id_of limit_kind 0

abbrev count_part : Part
count_part = record { kind = count_kind; id = count_at; is_written = true; may_be_absent = false }

abbrev limit_part : Part
limit_part = record { kind = limit_kind; id = limit_at; is_written = false; may_be_absent = false }

abbrev parts : List Part
parts = count_part ∷ limit_part ∷ []

abbrev shows : Counting → List (Option Value)
shows bundle = Some (Counted (written_value bundle.count)) ∷ Some (Limited (read_value bundle.limit)) ∷ []

abbrev moved : Counting → Moved Value
moved bundle = (count_at, Counted (written_value bundle.count)) ∷ moved_to_read (λ limit. Limited limit) limit_at bundle.limit

-- what a bundle that was taken shows and has moved out, where a count is held
module _ (m : ResourceId → Option Value) (count : Count) (held : m count_at ≡ Some (Counted count)) (first : Counting) (taken : IsTaken shows moved (map_grant m) parts first) where
  shown : shows first ≡ Some (Counted count) ∷ m limit_at ∷ []
  shown = taken.1 ∙ ap (λ o. o ∷ (after_moved (map_grant m) count_at o).held limit_at ∷ []) held

  of-count : written_value first.count ≡ count
  of-count = let e = shown in cc

  of-limit : m limit_at ≡ Some (Limited (read_value first.limit))
  of-limit = let e = shown in cc

  moved-out : moved_to_read (λ limit. Limited limit) limit_at first.limit ≡ (limit_at, Limited (read_value first.limit)) ∷ []
  moved-out =
      let e : moved first ≡ (count_at, Counted count) ∷ moved_at limit_at (m limit_at) [] =
      taken.2 ∙ ap (λ o. moved_at count_at o (moved_at limit_at (moved_for (after_moved (map_grant m) count_at o) limit_part) [])) held in
      let tail : moved_to_read (λ limit. Limited limit) limit_at first.limit ≡ moved_at limit_at (m limit_at) [] = cc in
      tail ∙ ap (λ o. moved_at limit_at o []) of-limit

-- what was moved out goes back with another count
module _ (m : ResourceId → Option Value) (count new : Count) (limit : Limit) (counted : m count_at ≡ Some (Counted count)) (limited : m limit_at ≡ Some (Limited limit)) where
  at-each : (q : ResourceId) (b c : Bool) → same_id count_at q ≡ b → same_id limit_at q ≡ c
      → cond b (Some (Counted new)) (cond c (Some (Limited limit)) (cond c None (cond b None (m q)))) ≡ cond b (Some (Counted new)) (m q)
  at-each q true c e d = refl
  at-each q false true e d = sym limited ∙ ap m (same_id-true limit_at q d)
  at-each q false false e d = refl

  back : (q : ResourceId) → (given_back (after_parts (map_grant m) parts) ((count_at, Counted new) ∷ (limit_at, Limited limit) ∷ [])).held q ≡ with_at m count_at (Some (Counted new)) q
  back q =
      ap (λ o. (given_back (after_part (after_moved (map_grant m) count_at o) limit_part) ((count_at, Counted new) ∷ (limit_at, Limited limit) ∷ [])).held q) counted
      ∙ ap (λ o. (given_back (after_moved (after_moved (map_grant m) count_at (Some (Counted count))) limit_at o) ((count_at, Counted new) ∷ (limit_at, Limited limit) ∷ [])).held q) limited
      ∙ at-each q (same_id count_at q) (same_id limit_at q) refl refl

-- what is put at an id hides what was put there before
put-over : (m n : ResourceId → Option Value) (id : ResourceId) (v w : Option Value) (q : ResourceId) → m q ≡ with_at n id v q → with_at m id w q ≡ with_at n id w q
put-over m n id v w q e = told (same_id id q) refl where
  told : (b : Bool) → same_id id q ≡ b → cond b w (m q) ≡ cond b w (n q)
  told true is = refl
  told false is = e ∙ ap (λ b. cond b v (n q)) is

module _ {F : Type 0} (once : Once F (MutBor Counting × Unit {0}) (ℤ × (MutBor Counting × Unit {0}))) (run : F)
    (calls : (first last : Counting) (answer : ℤ) → FnOnceReturnsAtMut once run first answer last → (written_value last.count ≡ counted_up (written_value first.count) (read_value first.limit)) × (last.limit ≡ first.limit) × (answer ≡ (written_value last.count).0)) where
  pub counted-in : (before after : ResourceId → Option Value) (result : Result ℤ DataError) → IsExecuted StartsAtZero once run shows moved parts before result after → IfOk result (IsCountedIn before after)
  counted-in before after (Err error) done = tt
  counted-in before after (Ok answer) (inl (error, set, e)) = absurd (cc)
  counted-in before after (Ok answer) (inr (middle, (count, was, is), (g, (first, last, taken, ran, ids, given), left))) =
      let called = calls first last answer ran in
      let old = of-count middle count (is count_at) first taken in
      let limit = read_value first.limit in
      let limited = of-limit middle count (is count_at) first taken in
      let new : written_value last.count ≡ counted_up count limit = called.0 ∙ ap (λ c. counted_up c limit) old in
      let out : moved last ≡ (count_at, Counted (counted_up count limit)) ∷ (limit_at, Limited limit) ∷ [] =
      ap (λ c. (count_at, Counted c) ∷ moved_to_read (λ l. Limited l) limit_at last.limit) new
      ∙ ap (λ l. (count_at, Counted (counted_up count limit)) ∷ moved_to_read (λ l. Limited l) limit_at l) called.1
      ∙ ap (λ t. (count_at, Counted (counted_up count limit)) ∷ t) (moved-out middle count (is count_at) first taken) in
      record {
        count = count;
        was = was;
        limit = limit;
        limit_is = sym (is limit_at) ∙ limited;
        left = λ q. ap (λ f. f q) left ∙ ap (λ h. h.held q) given ∙ ap (λ ms. (given_back (after_parts (map_grant middle) parts) ms).held q) out
            ∙ back middle count (counted_up count limit) limit (is count_at) limited q ∙ put-over middle before count_at _ (Some (Counted (counted_up count limit))) q (is q);
        gives = called.2 ∙ ap (λ c. c.0) new;
      }

-- of the two values that the bundle needs, only the limit may be missing
module _ (m : ResourceId → Option Value) (count : Count) (held : m count_at ≡ Some (Counted count)) where
  first : bundle_refusal (map_grant m) parts ≡ or_refusal (refusal limit_kind limit_at true false (is_some (m limit_at))) None
  first = ap (λ o. or_refusal (refusal count_kind count_at true false (is_some o)) (bundle_refusal (after_moved (map_grant m) count_at o) (limit_part ∷ []))) held

  limit-missing : (limit : Option Value) → m limit_at ≡ limit → (error : DataError) → bundle_refusal (map_grant m) parts ≡ Some error → (Missing limit_at ≡ error) × (limit ≡ None)
  limit-missing None is error told =
      let e : Some (Missing limit_at) ≡ Some error = sym (first ∙ ap (λ o. or_refusal (refusal limit_kind limit_at true false (is_some o)) None) is) ∙ told in (cc, refl)
  limit-missing (Some limit) is error told =
      let e : None ≡ Some error = sym (first ∙ ap (λ o. or_refusal (refusal limit_kind limit_at true false (is_some o)) None) is) ∙ told in absurd (cc)

module _ {F : Type 0} (once : Once F (MutBor Counting × Unit {0}) (ℤ × (MutBor Counting × Unit {0}))) (run : F) where
  pub refused-in : (before after : ResourceId → Option Value) (result : Result ℤ DataError) → IsExecuted StartsAtZero once run shows moved parts before result after → IfErr result (λ error. IsCountingRefused before error after)
  refused-in before after (Ok answer) done = tt
  refused-in before after (Err error) (inl (its, set, e)) =
      let same : Err error ≡ Err OutOfMemory = e ∙ ap (λ w. Err (as_data_error w)) set.0 in
      let wanting : OutOfMemory ≡ error = cc in
      subst (λ (d : DataError). IsCountingRefused before d after) wanting (inl (refl, set.1))
  refused-in before after (Err error) (inr (middle, (count, was, is), (g, (refused, same), left))) =
      let set : StartsAtZero before (Ok tt) after = subst (λ (h : ResourceId → Option Value). StartsAtZero before (Ok tt) h) (sym (left ∙ ap (λ (h : Grant Value). h.held) same)) (count, was, is) in
      elim refused [
        | inl told ↦ (let missing = limit-missing middle count (is count_at) (middle limit_at) refl error told in
            subst (λ (d : DataError). IsCountingRefused before d after) missing.0 (refl, sym (is limit_at) ∙ missing.1, set))
        | inr wanting ↦ subst (λ (d : DataError). IsCountingRefused before d after) (sym wanting.0) (inr set)
      ]
