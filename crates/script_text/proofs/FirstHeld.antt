-- The first values, put in one after another.
use Rattle.std.proofs.Common.{◌≡◌, ℕ, zero, suc, ℤ, ◌+◌, ◌==◌, Bool, true, false, cond, ◌&&◌, Option, Some, None, List, [], ◌∷◌, take, drop, refl, sym, ◌∙◌, ap, arith}
use Rattle.std.proofs.lemmas.Bool.Decides.{nat_tests}
use Rattle.std.specs.List.{slice_get}
use Rattle.std.specs.Option.{option_map}
use Rattle.shred_table.specs.declared.id.ResourceId.{ResourceId}
use Rattle.shred_table.specs.Id.{same_id}
use Rattle.shred_table.specs.Slots.{with_at}
use Rattle.script_text.specs.Place.{id_at}
use Rattle.shred_world.specs.Worked.{Held}
use Rattle.script_text.specs.declared.value.Value.{Value}
use Rattle.script_text.specs.Report.{numbers_held}

get-last : {X : Type 0} (xs rest : List X) (k : ℕ) (x : X) → drop k xs ≡ x ∷ rest → slice_get (take (suc k) xs) k ≡ Some x
get-last [] rest zero x e = absurd (cc)
get-last [] rest (suc k) x e = absurd (cc)
get-last (y ∷ ys) rest zero x e = cc
get-last (y ∷ ys) rest (suc k) x e = get-last ys rest k x e

get-other : {X : Type 0} (xs rest : List X) (k i : ℕ) (x : X) → drop k xs ≡ x ∷ rest → (k ≡ i → ⊥) → slice_get (take (suc k) xs) i ≡ slice_get (take k xs) i
get-other [] rest zero i x e other = absurd (cc)
get-other [] rest (suc k) i x e other = absurd (cc)
get-other (y ∷ ys) rest zero zero x e other = absurd (other refl)
get-other (y ∷ ys) rest zero (suc i) x e other = refl
get-other (y ∷ ys) rest (suc k) zero x e other = refl
get-other (y ∷ ys) rest (suc k) (suc i) x e other = get-other ys rest k i x e (λ same. other (ap (λ n. suc n) same))

-- what is read of a beginning of a list that has one more item
get-more : {X : Type 0} (xs rest : List X) (k i : ℕ) (x : X) → drop k xs ≡ x ∷ rest → slice_get (take (k + 1) xs) i ≡ cond (k == i) (Some x) (slice_get (take k xs) i)
get-more xs rest k i x e = (let next : k + 1 ≡ suc k = omega arith in ap (λ n. slice_get (take n xs) i) next) ∙ told (k == i) refl where
  told : (t : Bool) → (k == i) ≡ t → slice_get (take (suc k) xs) i ≡ cond t (Some x) (slice_get (take k xs) i)
  told true same = let here : k ≡ i = grind (arith, nat_tests) in ap (λ n. slice_get (take (suc k) xs) n) (sym here) ∙ get-last xs rest k x e
  told false other = get-other xs rest k i x e (λ same. absurd (grind (arith, nat_tests)))

abbrev value_of : ℤ → Value
value_of number = record { 0 = number }

among-more : (t : Bool) (number : ℤ) (o : Option ℤ) → cond t (Some (value_of number)) (option_map value_of o) ≡ option_map value_of (cond t (Some number) o)
among-more true number o = refl
among-more false number o = refl

-- with the number of the next place put in, the first values are those of one more place
first_held-with : (numbers rest : List ℤ) (place : ℕ) (number : ℤ) → drop place numbers ≡ number ∷ rest → (id : ResourceId)
    → with_at (numbers_held (take place numbers)) (id_at place) (Some (value_of number)) id ≡ numbers_held (take (place + 1) numbers) id
first_held-with numbers rest place number next id = told (0 == id.kind.0) where
  told : (t : Bool) → cond (t && (place == id.dynamic_id)) (Some (value_of number)) (cond t (option_map value_of (slice_get (take place numbers) id.dynamic_id)) None)
      ≡ cond t (option_map value_of (slice_get (take (place + 1) numbers) id.dynamic_id)) None
  told true = among-more (place == id.dynamic_id) number (slice_get (take place numbers) id.dynamic_id)
      ∙ ap (option_map value_of) (sym (get-more numbers rest place id.dynamic_id number next))
  told false = refl

-- the same, of the world that is filled and of the numbers that are left
pub first_held-put : (numbers before after : List ℤ) (count place more : ℕ) (at : ResourceId) (number put : ℤ) (held new : Held Value) → before ≡ drop count numbers → before ≡ number ∷ after → place ≡ count → more ≡ count + 1 → at ≡ id_at place → put ≡ number
    → ((id : ResourceId) → held id ≡ numbers_held (take count numbers) id) → ((id : ResourceId) → new id ≡ with_at held at (Some (record { 0 = put })) id)
    → (id : ResourceId) → new id ≡ numbers_held (take more numbers) id
first_held-put numbers before after count place more at number put held new rest first here next there same so_far is id =
    is id ∙ ap (λ o. cond (same_id at id) (Some (value_of put)) o) (so_far id)
    ∙ (λ i. with_at (numbers_held (take count numbers)) ((there ∙ ap id_at here) i) (Some (value_of (same i))) id)
    ∙ first_held-with numbers after count number (sym rest ∙ first) id ∙ ap (λ n. numbers_held (take n numbers) id) (sym next)

drop-after : {X : Type 0} (xs rest : List X) (k : ℕ) (x : X) → drop k xs ≡ x ∷ rest → rest ≡ drop (suc k) xs
drop-after [] rest zero x e = absurd (cc)
drop-after [] rest (suc k) x e = absurd (cc)
drop-after (y ∷ ys) rest zero x e = cc
drop-after (y ∷ ys) rest (suc k) x e = drop-after ys rest k x e

pub rest-after : (numbers before after : List ℤ) (count more : ℕ) (number : ℤ) → before ≡ drop count numbers → before ≡ number ∷ after → more ≡ count + 1 → after ≡ drop more numbers
rest-after numbers before after count more number rest first next = drop-after numbers after count number (sym rest ∙ first) ∙ (let same : suc count ≡ more = omega arith in ap (λ n. drop n numbers) same)
