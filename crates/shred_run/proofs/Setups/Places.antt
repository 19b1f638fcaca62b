-- What is so at the place of each entry in order is so at each place where an entry stands.
use Rattle.std.proofs.Common.{◌≡◌, ℕ, zero, suc, ◌+◌, List, [], ◌∷◌, ◌++◌, map, Option, Some, None, Ok, Err, refl, subst, arith}
use Rattle.std.specs.Prelude.{option_and_then}
use Rattle.std.specs.List.{AllByRecursion}
use Rattle.shred_model.specs.Record.{Agent}
use Rattle.shred_model.specs.Runs.{Answer}
use Rattle.shred_model.specs.States.{listed_states}
use Rattle.shred_run.specs.AdditionOrder.{PlacedEntry, entries_in_each, placed_in}
use Rattle.shred_run.specs.EntrySetups.{SetUpInOrder}
use Rattle.shred_run.specs.Occupants.{inside_at, inside_each}

module _ {Y X A B : Type 0} (states : Y → Agent → Option A) (plan : Y → X) (at : X → Agent → Option B) (none : (y : Y) (path : Agent) → at (plan y) path ≡ None → states y path ≡ None) where
  -- where nothing is planned, nothing stands
  pub listed-none : (ys : List Y) (path : Agent) → listed_states at (map plan ys) path ≡ None → listed_states states ys path ≡ None
  listed-none [] [] e = refl
  listed-none [] (n ∷ path) e = refl
  listed-none (y ∷ ys) [] e = refl
  listed-none (y ∷ ys) (zero ∷ path) e = none y path e
  listed-none (y ∷ ys) (suc n ∷ path) e = listed-none ys (n ∷ path) e

-- what is so of the first entries and the others
first-all : {X : Type 0} (P : X → Type 0) (xs ys : List X) → AllByRecursion P (xs ++ ys) → AllByRecursion P xs
first-all P [] ys h = tt
first-all P (x ∷ xs) ys h = (h.0, first-all P xs ys h.1)

others-all : {X : Type 0} (P : X → Type 0) (xs ys : List X) → AllByRecursion P (xs ++ ys) → AllByRecursion P ys
others-all P [] ys h = h
others-all P (x ∷ xs) ys h = others-all P xs ys h.1

unplaced : {I : Type 0} (P : Agent → Type 0) (n : ℕ) (ss : List (PlacedEntry I)) → AllByRecursion (λ s. P s.place) (map (placed_in n) ss) → AllByRecursion (λ s. P (n ∷ s.place)) ss
unplaced P n [] h = tt
unplaced P n (s ∷ ss) h = (h.0, unplaced P n ss h.1)

module _ {X I B : Type 0} (within : X → List (PlacedEntry I)) (at : X → Agent → Option B)
    (here : (x : X) (P : Agent → Type 0) → AllByRecursion (λ s. P s.place) (within x) → (path : Agent) (e : B) → at x path ≡ Some e → P path) where
  from : (P : Agent → Type 0) (n : ℕ) (xs : List X) → AllByRecursion (λ s. P s.place) (entries_in_each within n xs) → (k : ℕ) (path : Agent) (e : B) → listed_states at xs (k ∷ path) ≡ Some e → P ((k + n) ∷ path)
  from P n [] all k path e is = absurd (cc)
  from P n (x ∷ xs) all zero path e is =
      let first : n ≡ 0 + n = omega arith in
      subst (λ (j : ℕ). P (j ∷ path)) first (here x (λ q. P (n ∷ q)) (unplaced P n (within x) (first-all (λ s. P s.place) (map (placed_in n) (within x)) (entries_in_each within (suc n) xs) all)) path e is)
  from P n (x ∷ xs) all (suc k) path e is =
      let next : k + suc n ≡ suc k + n = omega arith in
      subst (λ (j : ℕ). P (j ∷ path)) next (from P (suc n) xs (others-all (λ s. P s.place) (map (placed_in n) (within x)) (entries_in_each within (suc n) xs) all) k path e is)

  pub everywhere : (xs : List X) (P : Agent → Type 0) → AllByRecursion (λ s. P s.place) (entries_in_each within 0 xs) → (path : Agent) (e : B) → listed_states at xs path ≡ Some e → P path
  everywhere xs P all [] e is = absurd (cc)
  everywhere xs P all (k ∷ path) e is = let same : k + 0 ≡ k = omega arith in subst (λ (j : ℕ). P (j ∷ path)) same (from P 0 xs all k path e is)

-- what is so of what each setup leaves, and of what stays, is so at the place of each entry
pub set_up-each : {I W H G F : Type 0} (told : ℕ → G → F) (Own : W → H → Answer G → W → H → Type 0) (old new : Agent → Option W) (P : Agent → Type 0)
    → ((place : Agent) (was is : W) (h k : H) (o : Answer G) → old place ≡ Some was → new place ≡ Some is → Own was h o is k → P place) → ((place : Agent) → new place ≡ old place → P place)
    → (entries : List (PlacedEntry I)) (h k : H) (a : Answer F) → SetUpInOrder told Own old new entries h a k → AllByRecursion (λ s. P s.place) entries
set_up-each told Own old new P set stay [] h k a walk = tt
set_up-each told Own old new P set stay (s ∷ ss) h k a (was, is, Ok done, m, here, there, own, more) = (set s.place was is h m (Ok done) here there own, set_up-each told Own old new P set stay ss m k a more)
set_up-each {I = I} told Own old new P set stay (s ∷ ss) h k a (was, is, Err fault, m, here, there, own, (answers, same, rest)) = (set s.place was is h m (Err fault) here there own, staying ss rest) where
  staying : (qs : List (PlacedEntry I)) → AllByRecursion (λ next. new next.place ≡ old next.place) qs → AllByRecursion (λ q. P q.place) qs
  staying [] h = tt
  staying (q ∷ qs) h = (stay q.place h.0, staying qs h.1)

-- where the same is inside each element, the same is at each path
pub inside_each-kept : {W T : Type 0} (within : W → Agent → Option T) (n : ℕ) (old new : Agent → Option W) → ((place path : Agent) → option_and_then (λ w. within w path) (new place) ≡ option_and_then (λ w. within w path) (old place))
    → (path : Agent) → inside_each n within new path ≡ inside_each n within old path
inside_each-kept within zero old new same path = same [] path
inside_each-kept within (suc n) old new same [] = refl
inside_each-kept within (suc n) old new same (k ∷ path) = inside_each-kept within n (inside_at old k) (inside_at new k) (λ place. same (k ∷ place)) path
