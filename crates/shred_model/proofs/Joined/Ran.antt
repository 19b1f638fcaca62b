-- Runs of nothing and of one step, and runs read in another way.
use Rattle.std.proofs.Common.{◌≡◌, ◌≢◌, List, [], ◌∷◌, Option, refl, sym, ap}
use Rattle.shred_model.specs.Access.{Declares}
use Rattle.shred_model.specs.Record.{Record, Agent}
use Rattle.shred_model.specs.Replay.{Configuration, AreAlike, Goes}
use Rattle.shred_model.specs.Runs.{Answer, Ran}
use Rattle.shred_model.specs.States.{own_state, configuration_of}
use Rattle.shred_model.specs.Serializable.{IsSerializable}
use Rattle.shred_model.proofs.Orders.ReplaySteps.{Replays-one, Replays-from_alike, Replays-to_alike}

module _ {A I V S O F : Type 0} (Run : List (Record A I V S O) → Answer F → Type 0) (x : Configuration A I V S) (a : Answer F) (y : Configuration A I V S) where
  -- one record
  pub Ran-one : (r : Record A I V S O) → Run (r ∷ []) a → Goes r x y → Ran Run x a y
  Ran-one r run goes = record { list = r ∷ []; run = run; replays = Replays-one r x y goes }

  -- the same records are a run of another kind, with another answer
  pub Ran-as : {G : Type 0} (Run' : List (Record A I V S O) → Answer G → Type 0) (b : Answer G) → ((list : List (Record A I V S O)) → Run list a → Run' list b) → Ran Run x a y → Ran Run' x b y
  Ran-as Run' b reads ran = record { list = ran.list; run = reads ran.list ran.run; replays = ran.replays }

  pub Ran-from_alike : (w : Configuration A I V S) → AreAlike w x → Ran Run x a y → Ran Run w a y
  Ran-from_alike w like ran = record { list = ran.list; run = ran.run; replays = Replays-from_alike w x ran.list y like ran.replays }

  pub Ran-to_alike : (z : Configuration A I V S) → AreAlike y z → Ran Run x a y → Ran Run x a z
  Ran-to_alike z like ran = record { list = ran.list; run = ran.run; replays = Replays-to_alike x ran.list y z ran.replays like }

  pub Ran-of_one_thread : IsSerializable (λ list. Run list a) x y → Ran Run x a y
  Ran-of_one_thread leaves = record { list = leaves.list; run = leaves.run; replays = leaves.replays }

-- one step of an agent alone
pub Goes-alone : {I V S O : Type 0} (r : Record Agent I V S O) (v w : I → Option V) → r.agent ≡ []
    → ((i : I) → Declares r.access i → v i ≡ r.seen i) → ((i : I) → Declares r.access i → w i ≡ r.left i) → ((i : I) → (Declares r.access i → ⊥) → w i ≡ v i)
    → Goes r (configuration_of (own_state r.before) v) (configuration_of (own_state r.after) w)
Goes-alone {I} {V} {S} {O} r v w at finds puts out = record {
  finds_state = ap (own_state r.before) at;
  finds = finds;
  puts_state = ap (own_state r.after) at;
  puts = puts;
  other_values = out;
  other_states = other;
} where
  other : (a : Agent) → a ≢ r.agent → own_state r.after a ≡ own_state r.before a
  other [] ne = absurd (ne (sym at))
  other (n ∷ a) ne = refl
