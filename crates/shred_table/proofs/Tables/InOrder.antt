-- What is found in a list in the order of ids, after it was changed at a place.
use Rattle.std.proofs.Common.{◌≡◌, ℕ, zero, suc, if◌then◌else◌, ◌+◌, ◌<◌, ◌≤◌, Result, Ok, Err, ⊎_elim, Bool, true, false, cond, List, [], ◌∷◌, Option, Some, None, length, get_or, set, refl, sym, ◌∙◌, ap, arith}
use Rattle.std.specs.List.{All, AllPairs, insert, remove}
use Rattle.std.specs.Result.{is_ok}
use Rattle.std.specs.Map.{lookup}
use Rattle.std.specs.declared.cmp.Ordering.TheVariants.{Less, Equal, Greater}
use Rattle.std.proofs.lemmas.List.{get_or_default}
use Rattle.std.proofs.lemmas.List.Kept.{AllPairs-cons}
use Rattle.std.proofs.lemmas.List.Elements.{All-cons}
use Rattle.std.proofs.lemmas.List.Sorted.{All-permutation, IsPermutation-insert}
use Rattle.std.proofs.lemmas.List.{length-set}
use Rattle.std.proofs.lemmas.Bool.{cases_lt}
use Rattle.shred_table.specs.declared.id.ResourceId.{ResourceId}
use Rattle.shred_table.specs.Id.{same_id}
use Rattle.shred_table.specs.InOrder.{id_order, ComesBefore}
use Rattle.shred_table.specs.Listed.{IsPlaceOf, IsGapFor}
use Rattle.shred_table.proofs.Tables.Slots.{same_id-true, same_id-refl}
use Rattle.shred_table.proofs.Tables.IdOrder.{same_id-sym, same_id-before, id_order-total, id_order-Equal, id_order-turned}

abbrev Slots : Type 0 → Type 0
Slots X = List (ResourceId × X)

module _ {X : Type 0} where
  -- what follows the first is in order too
  pub tail : (e : ResourceId × X) (es : Slots X) → AllPairs ComesBefore (e ∷ es) → AllPairs ComesBefore es
  tail e es sorted = λ i j d lt within. sorted (suc i) (suc j) d (omega arith) (omega arith)

  -- no slot is of the id
  pub lookup-absent : (es : Slots X) (q : ResourceId) → ((i : ℕ) (d : ResourceId × X) → i < length es → same_id q (get_or es i d).0 ≡ false) → lookup (same_id q) es ≡ None
  lookup-absent [] q none = refl
  lookup-absent (e ∷ es) q none = rw (none 0 e (omega arith)) (lookup-absent es q (λ i d lt. none (suc i) d (omega arith)))

  -- the slot at the place of the id is found
  pub lookup-place : (es : Slots X) (i : ℕ) (id : ResourceId) (d : ResourceId × X) → AllPairs ComesBefore es → i < length es → (get_or es i d).0 ≡ id → lookup (same_id id) es ≡ Some (get_or es i d).1
  lookup-place [] i id d sorted lt is = absurd (omega arith)
  lookup-place (e ∷ es) zero id d sorted lt is = rw (← is) (rw (same_id-refl e.0) refl)
  lookup-place (e ∷ es) (suc i) id d sorted lt is =
      let other : same_id id e.0 ≡ false = same_id-sym id e.0 ∙ same_id-before e.0 id (rw is at (sorted 0 (suc i) d (omega arith) lt)) in
      rw other (lookup-place es i id d (tail e es sorted) (omega arith) is)

  -- a change behind a slot of another id
  later : (id a q : ResourceId) (x : X) (w o p : Option X) → id_order a id ≡ Less → p ≡ cond (same_id id q) w o → cond (same_id q a) (Some x) p ≡ cond (same_id id q) w (cond (same_id q a) (Some x) o)
  later id a q x w o p less is = told (same_id q a) (same_id id q) refl refl where
    told : (b c : Bool) → same_id q a ≡ b → same_id id q ≡ c → cond b (Some x) p ≡ cond c w (cond b (Some x) o)
    told true true at here = absurd (let no : true ≡ false = sym (same_id-refl a) ∙ (λ i. same_id a ((sym (same_id-true q a at) ∙ sym (same_id-true id q here)) i)) ∙ same_id-before a id less in cc)
    told true false at here = refl
    told false c at here = is ∙ (λ i. cond (here i) w o)

  -- the slot at the place of the id was written
  pub lookup-written : (es : Slots X) (i : ℕ) (id q : ResourceId) (x d : ResourceId × X) → AllPairs ComesBefore es → i < length es → (get_or es i d).0 ≡ id → x.0 ≡ id
      → lookup (same_id q) (set es i x) ≡ cond (same_id id q) (Some x.1) (lookup (same_id q) es)
  lookup-written [] i id q x d sorted lt is same = absurd (omega arith)
  lookup-written (e ∷ es) zero id q x d sorted lt is same = rw (is, same, same_id-sym q id) (told (same_id id q)) where
    told : (b : Bool) → cond b (Some x.1) (lookup (same_id q) es) ≡ cond b (Some x.1) (cond b (Some e.1) (lookup (same_id q) es))
    told true = refl
    told false = refl
  lookup-written (e ∷ es) (suc i) id q x d sorted lt is same =
      later id e.0 q e.1 (Some x.1) (lookup (same_id q) es) _ (rw is at (sorted 0 (suc i) d (omega arith) lt)) (lookup-written es i id q x d (tail e es sorted) (omega arith) is same)

  -- a slot of the id was put in where it would go
  pub lookup-inserted : (es : Slots X) (i : ℕ) (id : ResourceId) (w : X) (q : ResourceId) → ((j : ℕ) (d : ResourceId × X) → j < i → id_order (get_or es j d).0 id ≡ Less) → i ≤ length es
      → lookup (same_id q) (insert es i (id, w)) ≡ cond (same_id id q) (Some w) (lookup (same_id q) es)
  lookup-inserted es zero id w q before within = λ i. cond (same_id-sym q id i) (Some w) (lookup (same_id q) es)
  lookup-inserted [] (suc i) id w q before within = absurd (omega arith)
  lookup-inserted (e ∷ es) (suc i) id w q before within =
      later id e.0 q e.1 (Some w) (lookup (same_id q) es) _ (before 0 e (omega arith)) (lookup-inserted es i id w q (λ j d lt. before (suc j) d (omega arith)) (omega arith))

  -- the slot at the place of the id was taken away
  pub lookup-removed : (es : Slots X) (i : ℕ) (id q : ResourceId) (d : ResourceId × X) → AllPairs ComesBefore es → i < length es → (get_or es i d).0 ≡ id
      → lookup (same_id q) (remove es i) ≡ cond (same_id id q) None (lookup (same_id q) es)
  lookup-removed [] i id q d sorted lt is = absurd (omega arith)
  lookup-removed (e ∷ es) zero id q d sorted lt is = told (same_id id q) refl where
    told : (b : Bool) → same_id id q ≡ b → lookup (same_id q) es ≡ cond b None (cond (same_id q e.0) (Some e.1) (lookup (same_id q) es))
    told true at = lookup-absent es q (λ j f within. let same : e.0 ≡ q = is ∙ same_id-true id q at in rw same at (same_id-before e.0 (get_or es j f).0 (sorted 0 (suc j) f (omega arith) (omega arith))))
    told false at = rw (is, same_id-sym q id, at) refl
  lookup-removed (e ∷ es) (suc i) id q d sorted lt is =
      later id e.0 q e.1 None (lookup (same_id q) es) _ (rw is at (sorted 0 (suc i) d (omega arith) lt)) (lookup-removed es i id q d (tail e es sorted) (omega arith) is)

  -- writing keeps the ids
  kept : (es : Slots X) (i : ℕ) (x : ResourceId × X) (j : ℕ) (d : ResourceId × X) → i < length es → x.0 ≡ (get_or es i d).0 → (get_or (set es i x) j d).0 ≡ (get_or es j d).0
  kept [] i x j d lt same = absurd (omega arith)
  kept (e ∷ es) zero x zero d lt same = same
  kept (e ∷ es) zero x (suc j) d lt same = refl
  kept (e ∷ es) (suc i) x zero d lt same = refl
  kept (e ∷ es) (suc i) x (suc j) d lt same = kept es i x j d (omega arith) same

  -- so it keeps the order
  pub sorted-written : (es : Slots X) (i : ℕ) (id : ResourceId) (x : ResourceId × X) → AllPairs ComesBefore es → i < length es → ((d : ResourceId × X) → (get_or es i d).0 ≡ id) → x.0 ≡ id → AllPairs ComesBefore (set es i x)
  sorted-written es i id x sorted lt is same j k d less within =
      let long = length-set es i x in
      (λ t. id_order (kept es i x j d lt (same ∙ sym (is d)) t) (kept es i x k d lt (same ∙ sym (is d)) t)) ∙ sorted j k d less (omega arith)

  -- put in where it goes, it keeps the order
  pub sorted-inserted : (es : Slots X) (i : ℕ) (id : ResourceId) (w : X) → AllPairs ComesBefore es → i ≤ length es → ((j : ℕ) (d : ResourceId × X) → j < i → id_order (get_or es j d).0 id ≡ Less)
      → ((j : ℕ) (d : ResourceId × X) → i ≤ j → j < length es → id_order id (get_or es j d).0 ≡ Less) → AllPairs ComesBefore (insert es i (id, w))
  sorted-inserted es zero id w sorted within before after = AllPairs-cons ComesBefore (id, w) es (λ j d lt. after j d (omega arith) lt) sorted
  sorted-inserted [] (suc i) id w sorted within before after = absurd (omega arith)
  sorted-inserted (e ∷ es) (suc i) id w sorted within before after =
      let behind : All (ComesBefore e) (insert es i (id, w)) =
      All-permutation (ComesBefore e) ((id, w) ∷ es) (insert es i (id, w)) (IsPermutation-insert es i (id, w)) (All-cons (ComesBefore e) (id, w) es (before 0 e (omega arith)) (λ j d lt. sorted 0 (suc j) d (omega arith) (omega arith))) in
      AllPairs-cons ComesBefore e (insert es i (id, w)) behind
      (sorted-inserted es i id w (tail e es sorted) (omega arith) (λ j d lt. before (suc j) d (omega arith)) (λ j d le lt. after (suc j) d (omega arith) (omega arith)))

  -- no slot is of an id that has a gap
  pub lookup-gap : (es : Slots X) (i : ℕ) (id : ResourceId) → IsGapFor id es i → lookup (same_id id) es ≡ None
  lookup-gap es i id gap = lookup-absent es id (λ j d within. ⊎_elim
      (λ below. same_id-sym id (get_or es j d).0 ∙ same_id-before (get_or es j d).0 id (gap.before j d below))
      (λ above. same_id-before id (get_or es j d).0 (gap.after j d above within))
      (cases_lt j i))

  -- put in where it goes, or kept as it was, it is in order
  pub sorted-put_in : (es : Slots X) (i : ℕ) (id : ResourceId) (w : X) {A E : Type 0} (r : Result A E) (now : Slots X) → AllPairs ComesBefore es → IsGapFor id es i → now ≡ (if is_ok r then insert es i (id, w) else es) → AllPairs ComesBefore now
  sorted-put_in es i id w (Ok a) now sorted gap is = rw is (sorted-inserted es i id w sorted gap.in_range gap.before gap.after)
  sorted-put_in es i id w (Err e) now sorted gap is = rw is sorted

module _ {X : Type 0} (es : Slots X) (sorted : AllPairs ComesBefore es) (id : ResourceId) (m : ℕ) (d : ResourceId × X) (within : m < length es) where
  -- where the slot at a place comes before the id, so do those before it
  pub all_before : id_order (get_or es m d).0 id ≡ Less → (i : ℕ) (e : ResourceId × X) → i < m + 1 → id_order (get_or es i e).0 id ≡ Less
  all_before here i e lt =
      let there : id_order (get_or es m e).0 id ≡ Less = ap (λ (s : ResourceId × X). id_order s.0 id) (get_or_default es m e d within) ∙ here in
      ⊎_elim (λ below. id_order-total.trans (get_or es i e).0 (get_or es m e).0 id (sorted i m e below within) there)
      (λ not_below. let same : i ≡ m = omega (arith, lt, not_below) in rw same there) (cases_lt i m)

  -- where it comes after the id, so do those behind it
  pub all_after : id_order (get_or es m d).0 id ≡ Greater → (i : ℕ) (e : ResourceId × X) → m ≤ i → i < length es → id_order id (get_or es i e).0 ≡ Less
  all_after here i e le lt =
      let there : id_order id (get_or es m e).0 ≡ Less = id_order-turned (get_or es m e).0 id (ap (λ (s : ResourceId × X). id_order s.0 id) (get_or_default es m e d within) ∙ here) in
      ⊎_elim (λ below. id_order-total.trans id (get_or es m e).0 (get_or es i e).0 there (sorted m i e below lt))
      (λ not_below. let same : i ≡ m = omega (arith, le, not_below) in rw same there) (cases_lt m i)

  -- where it stands alike, it is the id's
  pub is_place : id_order (get_or es m d).0 id ≡ Equal → IsPlaceOf id es m
  is_place here = record { in_range = within; has_id = λ e. ap (λ (s : ResourceId × X). s.0) (get_or_default es m e d within) ∙ id_order-Equal (get_or es m d).0 id here }
