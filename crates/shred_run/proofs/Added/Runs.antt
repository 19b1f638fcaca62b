-- A run of a list of elements in which none ended with a fault is the runs of the entries in them, one after the other.
use Rattle.std.proofs.Common.{◌≡◌, ℕ, suc, List, [], ◌∷◌, ◌++◌, map, Ok, Err, refl, sym, ◌∙◌, ap, subst, append_assoc, append-nil}
use Rattle.std.specs.Prelude.{Option}
use Rattle.std.proofs.lemmas.List.{map-append}
use Rattle.shred_model.specs.Access.{Access}
use Rattle.shred_model.specs.Plan.{PlanEntry}
use Rattle.shred_model.specs.Record.{Record, Agent, under}
use Rattle.shred_model.specs.Runs.{Answer, RunsUpToFault, RunsEach}
use Rattle.shred_run.proofs.Paths.Opened.{map-under_place}
use Rattle.shred_run.specs.Occupants.{inside_at}
use Rattle.shred_run.specs.AdditionOrder.{PlacedEntry, EntriesRun, entry_alone, entries_in_each, placed_in, under_place}

map-under_none : {I V S O : Type 0} (xs : List (Record Agent I V S O)) → map (under_place []) xs ≡ xs
map-under_none [] = refl
map-under_none (r ∷ xs) = ap (λ (l : List _). r ∷ l) (map-under_none xs)

module _ {I V S O T : Type 0} (Own : (Agent → Option T) → Access I → List (Record Agent I V S O) → Type 0) where
  -- a run of what stands alone
  pub run-alone : (all : Agent → Option T) (entry : PlanEntry I) (list : List (Record Agent I V S O)) → Own all entry.access list → EntriesRun Own all (entry_alone entry) list
  run-alone all entry list one = (list, [], one, sym (append-nil (map (under_place []) list) ∙ map-under_none list), refl)

  run-in : (all : Agent → Option T) (n : ℕ) (entries : List (PlacedEntry I)) (list : List (Record Agent I V S O)) → EntriesRun Own (inside_at all n) entries list → EntriesRun Own all (map (placed_in n) entries) (map (under n) list)
  run-in all n [] list is = ap (map (under n)) is
  run-in all n (s ∷ rest) list (own, others, one, is, more) = (
    own,
    map (under n) others,
    one,
    ap (map (under n)) is ∙ map-append (under n) (map (under_place s.place) own) others ∙ ap (λ (l : List (Record Agent I V S O)). l ++ map (under n) others) (map-under_place n s.place own),
    run-in all n rest others more,
  )

  run-append : (all : Agent → Option T) (entries more : List (PlacedEntry I)) (list others : List (Record Agent I V S O)) → EntriesRun Own all entries list → EntriesRun Own all more others → EntriesRun Own all (entries ++ more) (list ++ others)
  run-append all [] more list others is run = subst (λ (l : List (Record Agent I V S O)). EntriesRun Own all more (l ++ others)) (sym is) run
  run-append all (s ∷ entries) more list others (own, rest, one, is, then) run =
      (own, rest ++ others, one, ap (λ (l : List (Record Agent I V S O)). l ++ others) is ∙ append_assoc (map (under_place s.place) own) rest others, run-append all entries more rest others then run)

  joined : (all : Agent → Option T) (n : ℕ) (entries more : List (PlacedEntry I)) (list first others : List (Record Agent I V S O)) → list ≡ map (under n) first ++ others → EntriesRun Own (inside_at all n) entries first → EntriesRun Own all more others
      → EntriesRun Own all (map (placed_in n) entries ++ more) list
  joined all n entries more list first others is one rest = subst (λ (l : List (Record Agent I V S O)). EntriesRun Own all (map (placed_in n) entries ++ more) l) (sym is) (run-append all (map (placed_in n) entries) more (map (under n) first) others (run-in all n entries first one) rest)

  module _ {X F : Type 0} (within : X → List (PlacedEntry I)) (Run : ℕ → X → List (Record Agent I V S O) → Answer F → Type 0) (all : Agent → Option T)
      (one : (n : ℕ) (x : X) (list : List (Record Agent I V S O)) → Run n x list (Ok tt) → EntriesRun Own (inside_at all n) (within x) list) where
    pub UpToFault-entries : (n : ℕ) (xs : List X) (list : List (Record Agent I V S O)) → RunsUpToFault Run n xs list (Ok tt) → EntriesRun Own all (entries_in_each within n xs) list
    UpToFault-entries n [] list run = run.0
    UpToFault-entries n (x ∷ xs) list (first, Ok done, run, (others, is, more)) = joined all n (within x) (entries_in_each within (suc n) xs) list first others is (one n x first run) (UpToFault-entries (suc n) xs others more)
    UpToFault-entries n (x ∷ xs) list (first, Err fault, run, (is, end)) = absurd (let e : Ok tt ≡ Err fault = end in cc)

    pub Each-entries : (n : ℕ) (xs : List X) (list : List (Record Agent I V S O)) (a : Answer F) → a ≡ Ok tt → RunsEach Run n xs list a → EntriesRun Own all (entries_in_each within n xs) list
    Each-entries n [] list a done run = run.0
    Each-entries n (x ∷ xs) list a done (first, others, Ok b, c, run, more, is, end) = joined all n (within x) (entries_in_each within (suc n) xs) list first others is (one n x first run) (Each-entries (suc n) xs others c (sym end ∙ done) more)
    Each-entries n (x ∷ xs) list a done (first, others, Err fault, c, run, more, is, end) = absurd (let e : Err fault ≡ Ok tt = sym end ∙ done in cc)
