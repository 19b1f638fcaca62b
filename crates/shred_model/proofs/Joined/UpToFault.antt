-- A loop that runs the elements of a list up to the first that is not Done.
use Rattle.std.proofs.Common.{◌≡◌, ℕ, ◌<◌, ◌≤◌, ◌+◌, List, [], ◌++◌, length, get_or, set, drop, map, Option, Ok, Err, refl, sym, subst, append_assoc, append-nil, add-one}
use Rattle.shred_model.specs.Record.{Record, Agent, under}
use Rattle.shred_model.specs.Replay.{Configuration, Replays}
use Rattle.shred_model.specs.Runs.{Answer, RunsUpToFault, Ran}
use Rattle.shred_model.specs.States.{listed_states, configuration_of}
use Rattle.shred_model.proofs.Orders.ReplaySteps.{AreAlike-refl, Replays-append}
use Rattle.shred_model.proofs.Records.Places.{drop-map_cons, drop-map_past}
use Rattle.shred_model.proofs.Records.Element.{Replays-element}

-- The elements before place n ran and were Done, which led from x to y: whatever runs from there on completes a run of all.
pub record SoFar {X I V S O F : Type 0} (Run : ℕ → X → List (Record Agent I V S O) → Answer F → Type 0) (n : ℕ) (xs : List X) (x y : Configuration Agent I V S) : Type 0 where
  pub list : List (Record Agent I V S O)
  pub completes : (others : List (Record Agent I V S O)) (answer : Answer F) → RunsUpToFault Run n (drop n xs) others answer → RunsUpToFault Run 0 xs (list ++ others) answer
  pub replays : Replays x list y

module _ {X I V S O F : Type 0} (Run : ℕ → X → List (Record Agent I V S O) → Answer F → Type 0) where
  pub SoFar-start : (xs : List X) (x : Configuration Agent I V S) → SoFar Run 0 xs x x
  SoFar-start xs x = record { list = []; completes = λ others answer h. h; replays = AreAlike-refl x }

  module _ {Y : Type 0} (view : Y → X) (states : Y → Agent → Option S) {n : ℕ} {xs : List X} {x : Configuration Agent I V S} (ys : List Y) (v : I → Option V)
      (same : map view ys ≡ xs) (sofar : SoFar Run n xs x (configuration_of (listed_states states ys) v)) where
    -- past the end, all elements ran and were Done
    pub SoFar-end : length ys ≤ n → Ran (RunsUpToFault Run 0 xs) x (Ok tt) (configuration_of (listed_states states ys) v)
    SoFar-end past = record {
      list = sofar.list;
      run = subst (λ (w : List (Record Agent I V S O)). RunsUpToFault Run 0 xs w (Ok tt)) (append-nil sofar.list)
          (sofar.completes [] (Ok tt) (subst (λ (l : List X). RunsUpToFault Run n l [] (Ok tt)) (sym (drop-map_past view ys xs n same past)) (refl, refl)));
      replays = sofar.replays;
    }

    module _ (d z : Y) (w : I → Option V) (below : n < length ys) where
      joined : (list : List (Record Agent I V S O)) → Replays (configuration_of (states (get_or ys n d)) v) list (configuration_of (states z) w) → Replays x (sofar.list ++ map (under n) list) (configuration_of (listed_states states (set ys n z)) w)
      joined list replays = Replays-append x sofar.list (configuration_of (listed_states states ys) v) (map (under n) list) (configuration_of (listed_states states (set ys n z)) w) sofar.replays
          (Replays-element states list ys n d z v w below replays)

      -- the element at place n ran and was Done
      pub SoFar-more : Ran (Run n (view (get_or ys n d))) (configuration_of (states (get_or ys n d)) v) (Ok tt) (configuration_of (states z) w)
          → SoFar Run (n + 1) xs x (configuration_of (listed_states states (set ys n z)) w)
      SoFar-more ran = record {
        list = sofar.list ++ map (under n) ran.list;
        completes = λ others answer h. rw append_assoc
            (sofar.completes (map (under n) ran.list ++ others) answer
            (subst (λ (l : List X). RunsUpToFault Run n l (map (under n) ran.list ++ others) answer) (sym (drop-map_cons view ys xs n d same below)) (ran.list, Ok tt, ran.run, (others, refl, rw add-one at h))));
        replays = joined ran.list ran.replays;
      }

      -- the element at place n ended with a fault, and with it the run of all
      pub SoFar-fault : (fault : F) → Ran (Run n (view (get_or ys n d))) (configuration_of (states (get_or ys n d)) v) (Err fault) (configuration_of (states z) w)
          → Ran (RunsUpToFault Run 0 xs) x (Err fault) (configuration_of (listed_states states (set ys n z)) w)
      SoFar-fault fault ran = record {
        list = sofar.list ++ map (under n) ran.list;
        run = sofar.completes (map (under n) ran.list) (Err fault)
            (subst (λ (l : List X). RunsUpToFault Run n l (map (under n) ran.list) (Err fault)) (sym (drop-map_cons view ys xs n d same below)) (ran.list, Err fault, ran.run, (refl, refl)));
        replays = joined ran.list ran.replays;
      }
