-- Where a job is, and what each step of an end tells it.
use Rattle.std.specs.Prelude.{◌≡◌, ◌≢◌, ⊤, ℕ, List, [], ◌∷◌, Option, Some, None}
use mathlib.Core.Option.{some, none}
use mathlib.Core.Option as maybe
use Rattle.atomic_table.specs.Table.{State, Me}
use Rattle.shred_hatch.specs.declared.view.View.{View}
use Rattle.shred_hatch.specs.declared.view.View.TheVariants.{Fresh, Paired, Holding, Sent, Ended, Idle, Working}

-- the phases of a hatch: it has one end; it has two; no job is out; a job is sent; a worker has taken it; it is done; the worker is to end
pub data Phase (J : Type 0) : Type 0 where
  alone : Phase J
  paired : Phase J
  free : Phase J
  sent : J → Phase J
  taken : J → Phase J
  done : J → J → Phase J
  ended : Phase J

module _ {J : Type 0} where
  -- the word: 0 while the caller has the turn, 1 while the worker has it, 2 where the worker is to end
  abbrev pub word_at : Phase J → ℕ
  word_at alone = 0
  word_at paired = 0
  word_at free = 0
  word_at (sent x) = 1
  word_at (taken x) = 1
  word_at (done x y) = 0
  word_at ended = 2

  -- what lies in the slot while no end has it
  abbrev pub home_at : Phase J → maybe.Option (Option J)
  home_at alone = some None
  home_at paired = some None
  home_at free = none
  home_at (sent x) = some (Some x)
  home_at (taken x) = none
  home_at (done x y) = some (Some y)
  home_at ended = none

  -- what the ends know, the caller's first
  abbrev pub views_at : Phase J → List (View J)
  views_at alone = Fresh ∷ []
  views_at paired = Paired ∷ Idle ∷ []
  views_at free = Holding ∷ Idle ∷ []
  views_at (sent x) = Sent x ∷ Idle ∷ []
  views_at (taken x) = Sent x ∷ Working x ∷ []
  views_at (done x y) = Sent x ∷ Idle ∷ []
  views_at ended = Ended ∷ Idle ∷ []

  -- the table in this phase
  abbrev pub standing : Phase J → State (Option J) (View J)
  standing p = record { words = word_at p ∷ []; homes = home_at p ∷ []; views = views_at p }

  -- the caller's end, with the slot, in which this lies
  abbrev pub holding : Option J → Me (Option J) (View J)
  holding z = (Holding, (0, z) ∷ [])

  -- the caller's end, while a job is out
  abbrev pub sending : J → Me (Option J) (View J)
  sending x = (Sent x, [])

  -- the worker's end, with the job that was sent, as it is by now
  abbrev pub working : J → J → Me (Option J) (View J)
  working x y = (Working x, (0, Some y) ∷ [])

  -- the job that lay in the slot is out
  abbrev pub handed_over : Me (Option J) (View J) → Me (Option J) (View J) → Type 0
  handed_over m n = (x : J) → m ≡ holding (Some x) → n ≡ sending x

  -- the worker's end, without a job
  abbrev pub finished : Me (Option J) (View J) → Type 0
  finished n = n ≡ (Idle, [])

module _ {J : Type 0} (ready : J → Type 0) (ran : J → J → Type 0) where
  -- what is known of the job in a phase: one that is sent is ready, and one that is done is a run of what was sent
  abbrev pub Fact : Phase J → Type 0
  Fact alone = ⊤
  Fact paired = ⊤
  Fact free = ⊤
  Fact (sent x) = ready x
  Fact (taken x) = ⊤
  Fact (done x y) = ran x y
  Fact ended = ⊤

  -- the rule of a hatch: it is in one of the phases, and the phase's fact holds
  abbrev pub Stands : State (Option J) (View J) → Type 0
  Stands s = (p : Phase J) × (s ≡ standing p) × Fact p

module _ {J : Type 0} (ran : J → J → Type 0) where
  -- at 0 the job that was sent is back, as its run left it; else it is still out
  abbrev pub collected : Me (Option J) (View J) → ℕ → Me (Option J) (View J) → Type 0
  collected m r n = (x : J) → m ≡ sending x
      → (r ≡ 0 → (y : J) × (n ≡ holding (Some y)) × ran x y) × (r ≢ 0 → n ≡ sending x)

module _ {J : Type 0} (ready : J → Type 0) where
  -- at 1 a job is there, ready to be run; else none is
  abbrev pub looked : Me (Option J) (View J) → ℕ → Me (Option J) (View J) → Type 0
  looked m r n = (r ≡ 1 → (x : J) × (n ≡ working x x) × ready x) × (r ≢ 1 → n ≡ (Idle, []))
