-- The slots that hold values, and how many there are.
use Rattle.std.proofs.Common.{◌≡◌, ℕ, zero, suc, ◌+◌, ◌<◌, ◌≤◌, Bool, true, false, ◌||◌, cond, List, [], ◌∷◌, length, get_or, drop, map, Option, Some, None, refl, sym, ◌∙◌, ap, ⊎_elim, arith, add-one, drop-cons}
use Rattle.std.specs.Prelude.{is_some, ◌&&◌, IfSome, IfNone}
use Rattle.std.specs.List.{AllPairs, AllByRecursion, filter}
use Rattle.std.specs.Map.{lookup}
use Rattle.std.specs.Ordering.{is_lt, ordering_reverse}
use Rattle.std.specs.declared.cmp.Ordering.TheVariants.{Less}
use Rattle.std.proofs.lemmas.Bool.{cases_lt}
use Rattle.std.proofs.lemmas.Cmp.{tied_itself}
use Rattle.std.proofs.lemmas.List.Kept.{AllPairs-cons, AllPairs-filter}
use Rattle.std.proofs.lemmas.List.Elements.{recursion_from_All, All-from_recursion}
use Rattle.shred_table.specs.declared.id.Kind.{Kind}
use Rattle.shred_table.specs.declared.id.ResourceId.{ResourceId}
use Rattle.shred_table.specs.declared.table.Slot.{Slot}
use Rattle.shred_table.specs.Counts.{IsCountOf}
use Rattle.shred_table.specs.declared.table.Table.{Table}
use Rattle.shred_table.specs.Held.{beside, holds, held_slots}
use Rattle.shred_table.specs.Id.{same_id}
use Rattle.shred_table.specs.InOrder.{id_order, comes_first, ComesBefore}
use Rattle.shred_table.specs.Listed.{IsPlaceOf}
use Rattle.shred_table.specs.Slots.{among, slot_held}
use Rattle.shred_table.proofs.Tables.IdOrder.{id_order-total, same_id-before}
use Rattle.shred_table.proofs.Tables.InOrder.{lookup-absent, lookup-place, tail}
use Rattle.shred_table.proofs.Tables.Members.{among-keys}
use Rattle.shred_table.proofs.Tables.Slots.{same_id-true}

abbrev Slots : Type 0 → Type 0
Slots X = List (ResourceId × X)

abbrev keys : {X : Type 0} → Slots X → List ResourceId
keys es = map (λ e. e.0) es

-- where two tests tell the same, they tell it of as many ids
pub counted-alike : (test other : ResourceId → Bool) (count : ℕ) → ((q : ResourceId) → test q ≡ other q) → IsCountOf test count → IsCountOf other count
counted-alike test other count same (ids, are, long) = (ids, record { in_order = are.in_order; are = λ q. are.are q ∙ same q }, long)

-- those of a list of which the test tells true
pub among-filter : (test : ResourceId → Bool) (ids : List ResourceId) (q : ResourceId) → among (filter test ids) q ≡ among ids q && test q
among-filter test [] q = refl
among-filter test (id ∷ ids) q = told (test id) (same_id id q) refl refl (among-filter test ids q) where
  told : (t s : Bool) → test id ≡ t → same_id id q ≡ s → among (filter test ids) q ≡ among ids q && test q → among (cond t (id ∷ filter test ids) (filter test ids)) q ≡ (s || among ids q) && test q
  told true true is here later = rw here (sym (sym (ap test (same_id-true id q here)) ∙ is))
  told true false is here later = rw here later
  told false true is here later = later ∙ rw (sym (ap test (same_id-true id q here)) ∙ is) (and_false (among ids q)) where
    and_false : (b : Bool) → b && false ≡ false
    and_false true = refl
    and_false false = refl
  told false false is here later = later

module _ {X : Type 0} where
  all_keys : (P : ResourceId → Type 0) (es : Slots X) → AllByRecursion (λ e. P e.0) es → AllByRecursion P (keys es)
  all_keys P [] h = tt
  all_keys P (e ∷ es) h = (h.0, all_keys P es h.1)

  -- the ids of a list in order are in order
  sorted_keys : (es : Slots X) → AllPairs ComesBefore es → AllPairs (λ a b. id_order a b ≡ Less) (keys es)
  sorted_keys [] sorted = λ i j d lt below. absurd (omega (arith, below))
  sorted_keys (e ∷ es) sorted = AllPairs-cons (λ a b. id_order a b ≡ Less) e.0 (keys es)
      (All-from_recursion (λ b. id_order e.0 b ≡ Less) (keys es) (all_keys (λ b. id_order e.0 b ≡ Less) es (recursion_from_All (ComesBefore e) es (λ k d below. sorted 0 (suc k) d (omega arith) (omega (arith, below))))))
      (sorted_keys es (tail e es sorted))

  -- a list has as many ids as it is long
  pub counted-all : (es : Slots X) → AllPairs ComesBefore es → IsCountOf (λ q. is_some (lookup (same_id q) es)) (length es)
  counted-all es sorted = (keys es, record { in_order = sorted_keys es sorted; are = among-keys es }, long es) where
    long : (es : Slots X) → length (keys es) ≡ length es
    long [] = refl
    long (e ∷ es) = ap suc (long es)

  -- of the first ones the test tells true, and of no other
  first_ones : (test : ResourceId → Bool) (es : Slots X) (place : ℕ) → place ≤ length es → ((i : ℕ) (d : ResourceId × X) → i < place → test (get_or es i d).0 ≡ true)
      → ((i : ℕ) (d : ResourceId × X) → place ≤ i → i < length es → test (get_or es i d).0 ≡ false) → length (filter test (keys es)) ≡ place
  first_ones test [] zero within before after = refl
  first_ones test [] (suc place) within before after = absurd (omega (arith, within))
  first_ones test (e ∷ es) zero within before after = rw (after 0 e (omega arith) (omega arith)) (first_ones test es zero (omega arith) (λ i d lt. absurd (omega (arith, lt))) (λ i d le lt. after (suc i) d (omega arith) (omega (arith, lt))))
  first_ones test (e ∷ es) (suc place) within before after = rw (before 0 e (omega arith)) (ap suc (first_ones test es place (omega (arith, within)) (λ i d lt. before (suc i) d (omega (arith, lt))) (λ i d le lt. after (suc i) d (omega (arith, le)) (omega (arith, lt)))))

  -- the place of an id is the number of ids before it
  pub counted-before : (es : Slots X) (id : ResourceId) (place : ℕ) → AllPairs ComesBefore es → IsPlaceOf id es place → IsCountOf (λ q. is_some (lookup (same_id q) es) && comes_first q id) place
  counted-before es id place sorted at = (
    filter (λ q. comes_first q id) (keys es),
    record { in_order = AllPairs-filter (λ a b. id_order a b ≡ Less) (λ q. comes_first q id) (keys es) (sorted_keys es sorted); are = λ q. among-filter (λ a. comes_first a id) (keys es) q ∙ ap (λ (b : Bool). b && comes_first q id) (among-keys es q) },
    first_ones (λ q. comes_first q id) es place (omega (arith, at.in_range)) before after,
  ) where
    before : (i : ℕ) (d : ResourceId × X) → i < place → comes_first (get_or es i d).0 id ≡ true
    before i d lt = ap is_lt (ap (id_order (get_or es i d).0) (sym (at.has_id d)) ∙ sorted i place d lt at.in_range)

    after : (i : ℕ) (d : ResourceId × X) → place ≤ i → i < length es → comes_first (get_or es i d).0 id ≡ false
    after i d le lt = ⊎_elim
        (λ more. ap is_lt (id_order-total.antisymm (get_or es i d).0 id ∙ ap ordering_reverse (ap (λ (a : ResourceId). id_order a (get_or es i d).0) (sym (at.has_id d)) ∙ sorted place i d more lt)))
        (λ same. let here : i ≡ place = omega (arith, le, same) in rw (here, at.has_id d) (ap is_lt (tied_itself id_order-total id)))
        (cases_lt place i)

module _ {V : Type 0} (kind : V → Kind) (hand : List (Table V)) where
  -- no slot, with that of a hand
  none_beside : (h : List (Table V)) (q : ResourceId) → beside h q None ≡ None
  none_beside (t ∷ ts) q = refl
  none_beside [] q = refl

  -- an id holds a value where its slot is among those that hold one
  pub held-lookup : (es : Slots (Slot V)) → AllPairs ComesBefore es → (q : ResourceId) → is_some (lookup (same_id q) (held_slots kind hand es)) ≡ is_some (slot_held kind q (beside hand q (lookup (same_id q) es)))
  held-lookup [] sorted q = sym (ap (λ (o : Option (Slot V)). is_some (slot_held kind q o)) (none_beside hand q))
  held-lookup (e ∷ es) sorted q = told (holds kind hand e) (same_id q e.0) refl refl (held-lookup es (tail e es sorted) q) where
    told : (h s : Bool) → holds kind hand e ≡ h → same_id q e.0 ≡ s → is_some (lookup (same_id q) (held_slots kind hand es)) ≡ is_some (slot_held kind q (beside hand q (lookup (same_id q) es)))
        → is_some (lookup (same_id q) (cond h (e ∷ held_slots kind hand es) (held_slots kind hand es))) ≡ is_some (slot_held kind q (beside hand q (cond s (Some e.1) (lookup (same_id q) es))))
    told true true is here later = rw here (sym (ap (λ (a : ResourceId). is_some (slot_held kind a (beside hand a (Some e.1)))) (same_id-true q e.0 here) ∙ is))
    told false true is here later =
        let same : e.0 ≡ q = sym (same_id-true q e.0 here) in
        let none : lookup (same_id q) es ≡ None = lookup-absent es q (λ j f within. rw same at (same_id-before e.0 (get_or es j f).0 (sorted 0 (suc j) f (omega arith) (omega (arith, within))))) in
        later ∙ ap (λ (o : Option (Slot V)). is_some (slot_held kind q (beside hand q o))) none ∙ ap (λ (o : Option (Slot V)). is_some (slot_held kind q o)) (none_beside hand q) ∙ sym (ap (λ (a : ResourceId). is_some (slot_held kind a (beside hand a (Some e.1)))) (same_id-true q e.0 here) ∙ is)
    told true false is here later = rw here later
    told false false is here later = later

  -- the place that was found among those that hold a value is the number of held ids before
  pub numbered : (es : Slots (Slot V)) → AllPairs ComesBefore es → (id : ResourceId) (r : Option ℕ) → IfSome r (IsPlaceOf id (held_slots kind hand es)) → IfNone r (lookup (same_id id) (held_slots kind hand es) ≡ None)
      → record { held : is_some r ≡ is_some (slot_held kind id (beside hand id (lookup (same_id id) es))); slot : IfSome r (IsCountOf (λ q. is_some (slot_held kind q (beside hand q (lookup (same_id q) es))) && comes_first q id)) }
  numbered es sorted id (Some place) at none =
      let held = held_slots kind hand es in
      let in_order : AllPairs ComesBefore held = AllPairs-filter ComesBefore (holds kind hand) es sorted in
      let d : ResourceId × Slot V = (id, record { value = None }) in
      record {
        held = sym (ap is_some (lookup-place held place id d in_order at.in_range (at.has_id d))) ∙ held-lookup es sorted id;
        slot = counted-alike (λ q. is_some (lookup (same_id q) held) && comes_first q id) _ place (λ q. ap (λ (b : Bool). b && comes_first q id) (held-lookup es sorted q)) (counted-before held id place in_order at);
      }
  numbered es sorted id None at none = record { held = sym (ap is_some none) ∙ held-lookup es sorted id; slot = tt }

  -- there are as many held ids as slots that hold a value
  pub counted-held : (es : Slots (Slot V)) → AllPairs ComesBefore es → IsCountOf (λ q. is_some (slot_held kind q (beside hand q (lookup (same_id q) es)))) (length (held_slots kind hand es))
  counted-held es sorted = counted-alike (λ q. is_some (lookup (same_id q) (held_slots kind hand es))) _ _ (held-lookup es sorted) (counted-all (held_slots kind hand es) (AllPairs-filter ComesBefore (holds kind hand) es sorted))

-- where as many as all pass the test, all do
filter_fewer : {X : Type 0} (test : X → Bool) (xs : List X) → length (filter test xs) ≤ length xs
filter_fewer test [] = omega arith
filter_fewer test (x ∷ xs) = told (test x) (filter_fewer test xs) where
  told : (b : Bool) → length (filter test xs) ≤ length xs → length (cond b (x ∷ filter test xs) (filter test xs)) ≤ suc (length xs)
  told true h = omega (arith, h)
  told false h = omega (arith, h)

pub filter-all : {X : Type 0} (test : X → Bool) (xs : List X) → length (filter test xs) ≡ length xs → filter test xs ≡ xs
filter-all test [] h = refl
filter-all test (x ∷ xs) h = told (test x) h (filter-all test xs) where
  told : (b : Bool) → length (cond b (x ∷ filter test xs) (filter test xs)) ≡ suc (length xs) → (length (filter test xs) ≡ length xs → filter test xs ≡ xs) → cond b (x ∷ filter test xs) (filter test xs) ≡ x ∷ xs
  told true long rest = ap (λ l. x ∷ l) (rest (omega (arith, long)))
  told false long rest = absurd (let few = filter_fewer test xs in omega (arith, long, few))

-- one element more of those that are left
pub filter-next : {X : Type 0} (test : X → Bool) (xs : List X) (i : ℕ) (d : X) → i < length xs → filter test (drop i xs) ≡ cond (test (get_or xs i d)) (get_or xs i d ∷ filter test (drop (i + 1) xs)) (filter test (drop (i + 1) xs))
filter-next test xs i d h = ap (filter test) (drop-cons xs i d h) ∙ rw add-one refl

-- after an element was passed over, and counted where it passes the test
pub passed : {X : Type 0} (all now rest : List X) (x : X) (b : Bool) (left next number : ℕ) → now ≡ cond b (x ∷ rest) rest → left ≡ cond b (suc next) next → left < length now → ((d : X) → get_or now left d ≡ get_or all number d)
    → record { some : next < length rest; same : (d : X) → get_or rest next d ≡ get_or all number d }
passed all now rest x true left next number is less below same = record { some = let b = rw (is, less) at below in omega (arith, b); same = λ d. rw (is, less) at (same d) }
passed all now rest x false left next number is less below same = record { some = rw (is, less) at below; same = λ d. rw (is, less) at (same d) }
