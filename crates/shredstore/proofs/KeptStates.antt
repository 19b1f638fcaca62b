-- Where each record keeps its state and which entities have values, a replay keeps all states and which entities have values.
use Rattle.std.proofs.Common.{◌≡◌, ℕ, List, [], ◌∷◌, Some, None, inl, inr, sym, ◌∙◌, ap}
use Rattle.std.specs.List.{AllByRecursion}
use Rattle.std.specs.Prelude.{IsSome, is_some}
use Rattle.shred_model.specs.Access.{Declares}
use Rattle.shred_model.specs.Record.{Agent, Record}
use Rattle.shred_model.specs.Replay.{Configuration, Goes, Replays}
use Rattle.shred_table.specs.declared.id.ResourceId.{ResourceId}
use Rattle.shred_table.specs.declared.only.Only.{Only}
use Rattle.shred_world.specs.Worked.{Held}
use Rattle.shredstore.specs.Rows.{Pairs}
use Rattle.shredstore.specs.Tables.{table_id, value_in, values_in}
use Rattle.shredstore.proofs.Lists.{AllByRecursion-weaker}
use Rattle.shredstore.proofs.Told.{is_declared, same_agent}

-- the same entities have values in the same tables
abbrev pub KeepsRows : Held (Only Pairs) → Held (Only Pairs) → Type 0
KeepsRows before after = (entity table : ℕ) → is_some (values_in after entity table) ≡ is_some (values_in before entity table)

-- The record leaves its state, and the entities that have values, as it found them.
pub record Keeps {S O : Type 0} (r : Record Agent ResourceId (Only Pairs) S O) : Type 0 where
  pub state : r.after ≡ r.before
  pub rows : KeepsRows r.seen r.left
  pub sees_only : (id : ResourceId) → (Declares r.access id → ⊥) → r.seen id ≡ None

-- The record found the state that its agent has here, and saw values only of entities that have values here.
pub record Found {S O : Type 0} (x : Configuration Agent ResourceId (Only Pairs) S) (r : Record Agent ResourceId (Only Pairs) S O) : Type 0 where
  pub state : x.states r.agent ≡ Some r.before
  pub rows : (entity table : ℕ) → IsSome (values_in r.seen entity table) → IsSome (values_in x.values entity table)

module _ {S O : Type 0} where
  -- one record
  goes-keeps : (r : Record Agent ResourceId (Only Pairs) S O) (x y : Configuration Agent ResourceId (Only Pairs) S) → Keeps r → Goes r x y → ((path : Agent) → y.states path ≡ x.states path) × KeepsRows x.values y.values
  goes-keeps r x y keeps goes = (states, rows) where
    states : (path : Agent) → y.states path ≡ x.states path
    states path = elim (same_agent path r.agent) [
      | inl e ↦ ap y.states e ∙ goes.puts_state ∙ ap (λ s. Some s) keeps.state ∙ sym goes.finds_state ∙ sym (ap x.states e)
      | inr ne ↦ goes.other_states path ne
    ]

    rows : KeepsRows x.values y.values
    rows entity table = elim (is_declared r.access (table_id table)) [
      | inl d ↦ ap (λ o. is_some (value_in o entity)) (goes.puts (table_id table) d) ∙ keeps.rows entity table ∙ sym (ap (λ o. is_some (value_in o entity)) (goes.finds (table_id table) d))
      | inr n ↦ ap (λ o. is_some (value_in o entity)) (goes.other_values (table_id table) n)
    ]

  -- a list of them
  pub replay-keeps : (list : List (Record Agent ResourceId (Only Pairs) S O)) (x y : Configuration Agent ResourceId (Only Pairs) S) → AllByRecursion Keeps list → Replays x list y → ((path : Agent) → y.states path ≡ x.states path) × KeepsRows x.values y.values
  replay-keeps [] x y keeps runs = (runs.states, λ entity table. ap (λ o. is_some (value_in o entity)) (runs.values (table_id table)))
  replay-keeps (r ∷ list) x y keeps (mid, goes, rest) =
      let first = goes-keeps r x mid keeps.0 goes in
      let others = replay-keeps list mid y keeps.1 rest in
      (λ path. others.0 path ∙ first.0 path, λ entity table. others.1 entity table ∙ first.1 entity table)

  goes-found : (r : Record Agent ResourceId (Only Pairs) S O) (x y : Configuration Agent ResourceId (Only Pairs) S) → Keeps r → Goes r x y → Found x r
  goes-found r x y keeps goes = record { state = goes.finds_state; rows = rows } where
    rows : (entity table : ℕ) → IsSome (values_in r.seen entity table) → IsSome (values_in x.values entity table)
    rows entity table some = elim (is_declared r.access (table_id table)) [
      | inl d ↦ ap (λ o. is_some (value_in o entity)) (goes.finds (table_id table) d) ∙ some
      | inr n ↦ absurd (let none = sym (ap (λ o. is_some (value_in o entity)) (keeps.sees_only (table_id table) n)) ∙ some in cc)
    ]

  -- each of them finds what was there at first
  pub replay-found : (list : List (Record Agent ResourceId (Only Pairs) S O)) (x y : Configuration Agent ResourceId (Only Pairs) S) → AllByRecursion Keeps list → Replays x list y → AllByRecursion (Found x) list
  replay-found [] x y keeps runs = tt
  replay-found (r ∷ list) x y keeps (mid, goes, rest) =
      let first = goes-keeps r x mid keeps.0 goes in
      let from_first : (q : Record Agent ResourceId (Only Pairs) S O) → Found mid q → Found x q = λ q found. record { state = sym (first.0 q.agent) ∙ found.state; rows = λ entity table some. sym (first.1 entity table) ∙ found.rows entity table some } in
      (goes-found r x mid keeps.0 goes, AllByRecursion-weaker (Found mid) (Found x) from_first list (replay-found list mid y keeps.1 rest))
