-- Records that are opened into those of the agents inside.
use Rattle.std.proofs.Common.{◌≡◌, ◌≢◌, ℕ, zero, suc, [], ◌∷◌, ◌++◌, length, Option, Some, inl, inr, refl, sym, ◌∙◌, ap, subst, List, map, append_assoc, Ok, Err, append-nil, All, None}
use Rattle.std.specs.Prelude.{option_and_then}
use Rattle.shred_model.specs.Record.{Agent, Record, under}
use Rattle.shred_model.proofs.Records.Telling.{tell_numbers, Tells}
use Rattle.shred_run.specs.AdditionOrder.{under_place}
use Rattle.shred_run.specs.Occupants.{inside_at, inside_each, Occupant, Occupants, a_system, a_batch}
use Rattle.std.specs.List.{AllByRecursion}
use Rattle.std.proofs.lemmas.List.{map-append}
use Rattle.std.proofs.lemmas.Simd.{map-map}
use Rattle.shred_model.specs.Access.{Declares, Access}
use Rattle.shred_model.specs.Replay.{Configuration, Replays}
use Rattle.shred_model.specs.States.{configuration_of}
use Rattle.shred_model.proofs.Orders.ReplaySteps.{Replays-append}
use Rattle.shred_model.proofs.Records.Framed.{AllByRecursion-weaker, EachPasses, RunsUpToFault-all, RunsEach-all}
use Rattle.shred_model.proofs.Records.Lift.{Replays-lifted}
use Rattle.shred_model.proofs.Records.Membership.{is_declared}
use Rattle.shred_model.proofs.Records.Within.{IsWithin}
use Rattle.std.proofs.Math.Path.{fun_ext}
use Rattle.shred_model.specs.Runs.{Answer, RunsUpToFault, RunsEach}
use Rattle.shred_model.specs.Beside.{AreApart}
use Rattle.shred_model.specs.Plan as model
use Rattle.shred_table.specs.declared.id.ResourceId.{ResourceId}
use Rattle.shred_run.specs.Sides.{plan_reads, plan_writes}
use Rattle.shred_run.specs.WithinEntries.{IsNoMore}

-- What is at each path, by the place of an element.

module _ {X T : Type 0} (within : X → Agent → Option T) where
  -- inside the element at a place
  pub inside_each-at : (n : ℕ) (elements : Agent → Option X) (place : Agent) (x : X) (path : Agent) → length place ≡ n → elements place ≡ Some x → inside_each n within elements (place ++ path) ≡ within x path
  inside_each-at zero elements [] x path size is = ap (option_and_then (λ (w : X). within w path)) is
  inside_each-at zero elements (k ∷ place) x path size is = absurd (cc)
  inside_each-at (suc n) elements [] x path size is = absurd (cc)
  inside_each-at (suc n) elements (k ∷ place) x path size is = inside_each-at n (inside_at elements k) place x path (cc) is

  pub inside_each-alike : (n : ℕ) (a b : Agent → Option X) → ((place : Agent) → b place ≡ a place) → (path : Agent) → inside_each n within b path ≡ inside_each n within a path
  inside_each-alike zero a b same path = ap (option_and_then (λ (w : X). within w path)) (same [])
  inside_each-alike (suc n) a b same [] = refl
  inside_each-alike (suc n) a b same (k ∷ path) = inside_each-alike n (inside_at a k) (inside_at b k) (λ place. same (k ∷ place)) path

  -- where the element at one place is another, which has the same inside, all is as it was
  pub inside_each-same : (n : ℕ) (a b : Agent → Option X) (place : Agent) (x y : X) → length place ≡ n → a place ≡ Some x → b place ≡ Some y → ((q : Agent) → q ≢ place → b q ≡ a q) → within y ≡ within x
      → (path : Agent) → inside_each n within b path ≡ inside_each n within a path
  inside_each-same zero a b [] x y size was is others same path = ap (option_and_then (λ (w : X). within w path)) is ∙ ap (λ f. f path) same ∙ sym (ap (option_and_then (λ (w : X). within w path)) was)
  inside_each-same zero a b (k ∷ place) x y size was is others same path = absurd (cc)
  inside_each-same (suc n) a b [] x y size was is others same path = absurd (cc)
  inside_each-same (suc n) a b (k ∷ place) x y size was is others same [] = refl
  inside_each-same (suc n) a b (k ∷ place) x y size was is others same (j ∷ path) = elim (tell_numbers j k) [
    | inl e ↦ subst (λ (i : ℕ). inside_each n within (inside_at b i) path ≡ inside_each n within (inside_at a i) path) (sym e)
        (inside_each-same n (inside_at a k) (inside_at b k) place x y (cc) was is (λ q ne. others (k ∷ q) (λ f. ne cc)) same path)
    | inr ne ↦ inside_each-alike n (inside_at a j) (inside_at b j) (λ q. others (j ∷ q) (λ f. ne cc)) path
  ]

-- Lists of records, each of which is opened into a list of records of agents inside its own.
module _ {I V S P : Type 0} where
  pub map-under_place : (n : ℕ) (place : Agent) (xs : List (Record Agent I V S P)) → map (under n) (map (under_place place) xs) ≡ map (under_place (n ∷ place)) xs
  map-under_place n place xs = map-map (under n) (under_place place) xs

module _ {I V X O S P : Type 0} (states : X → Agent → Option S) where
  -- The list joins lists of records, one for each record of the first list, of agents inside its agent: what such a list leads from and to are the states inside that agent, and the values that the record saw and left, and it keeps within the record's access.
  abbrev pub AreOpened : List (Record Agent I V X O) → List (Record Agent I V S P) → Type 0
  AreOpened [] opened = opened ≡ []
  AreOpened (r ∷ list) opened = (own : List (Record Agent I V S P)) × (others : List (Record Agent I V S P)) × (opened ≡ map (under_place r.agent) own ++ others)
      × Replays (configuration_of (states r.before) r.seen) own (configuration_of (states r.after) r.left) × AllByRecursion (IsWithin r.access) own × AreOpened list others

  pub AreOpened-none : (list : List (Record Agent I V X O)) (os : List (Record Agent I V S P)) → list ≡ [] → os ≡ [] → AreOpened list os
  AreOpened-none [] os is none = none
  AreOpened-none (r ∷ list) os is none = absurd (cc)

  pub AreOpened-append : (xs ys : List (Record Agent I V X O)) (os ps : List (Record Agent I V S P)) → AreOpened xs os → AreOpened ys ps → AreOpened (xs ++ ys) (os ++ ps)
  AreOpened-append [] ys os ps is also = subst (λ (l : List (Record Agent I V S P)). AreOpened ys (l ++ ps)) (sym is) also
  AreOpened-append (r ∷ xs) ys os ps (own, others, is, replays, within, more) also =
      (own, others ++ ps, ap (λ (l : List (Record Agent I V S P)). l ++ ps) is ∙ append_assoc (map (under_place r.agent) own) others ps, replays, within, AreOpened-append xs ys others ps more also)

  pub AreOpened-under : (n : ℕ) (xs : List (Record Agent I V X O)) (os : List (Record Agent I V S P)) → AreOpened xs os → AreOpened (map (under n) xs) (map (under n) os)
  AreOpened-under n [] os is = ap (map (under n)) is
  AreOpened-under n (r ∷ xs) os (own, others, is, replays, within, more) = (
    own,
    map (under n) others,
    ap (map (under n)) is ∙ map-append (under n) (map (under_place r.agent) own) others ∙ ap (λ (l : List (Record Agent I V S P)). l ++ map (under n) others) (map-under_place n r.agent own),
    replays,
    within,
    AreOpened-under n xs others more,
  )

  module _ (tell_ids : Tells I) where
    -- one record
    goes-opened : (n : ℕ) (r : Record Agent I V X O) (own : List (Record Agent I V S P)) (place : Agent) (a b : Agent → Option X) (v w : I → Option V)
        → length place ≡ suc n → a place ≡ Some r.before → b place ≡ Some r.after → ((q : Agent) → q ≢ place → b q ≡ a q)
        → ((i : I) → Declares r.access i → v i ≡ r.seen i) → ((i : I) → Declares r.access i → w i ≡ r.left i) → ((i : I) → (Declares r.access i → ⊥) → w i ≡ v i)
        → Replays (configuration_of (states r.before) r.seen) own (configuration_of (states r.after) r.left) → AllByRecursion (IsWithin r.access) own
        → Replays (configuration_of (inside_each (suc n) states a) v) (map (under_place place) own) (configuration_of (inside_each (suc n) states b) w)
    goes-opened n r own [] a b v w size was is others finds puts out replays within = absurd (cc)
    goes-opened zero r own (k ∷ []) a b v w size was is others finds puts out replays within =
        Replays-lifted (Declares r.access) (is_declared tell_ids r.access) k own (configuration_of (states r.before) r.seen) (configuration_of (states r.after) r.left)
        (configuration_of (inside_each 1 states a) v) (configuration_of (inside_each 1 states b) w)
        (AllByRecursion-weaker (IsWithin r.access) (λ q. (i : I) → Declares q.access i → Declares r.access i) (λ q h. h.declared) own within) replays
        (record { values = finds; states = λ path. ap (option_and_then (λ (x : X). states x path)) was })
        (record { values = puts; states = λ path. ap (option_and_then (λ (x : X). states x path)) is })
        (record { values = out; states = other }) where
          other : (path : Agent) → ((q : Agent) → path ≢ k ∷ q) → inside_each 1 states b path ≡ inside_each 1 states a path
          other [] ne = refl
          other (j ∷ path) ne = ap (option_and_then (λ (x : X). states x path)) (others (j ∷ []) (λ e. ne path cc))
    goes-opened zero r own (k ∷ (j ∷ place)) a b v w size was is others finds puts out replays within = absurd (cc)
    goes-opened (suc n) r own (k ∷ []) a b v w size was is others finds puts out replays within = absurd (cc)
    goes-opened (suc n) r own (k ∷ (j ∷ place)) a b v w size was is others finds puts out replays within =
        subst (λ (l : List (Record Agent I V S P)). Replays (configuration_of (inside_each (suc (suc n)) states a) v) l (configuration_of (inside_each (suc (suc n)) states b) w)) (map-under_place k (j ∷ place) own)
        (Replays-lifted (λ i. Unit {0}) (λ i. inl tt) k (map (under_place (j ∷ place)) own) (configuration_of (inside_each (suc n) states (inside_at a k)) v) (configuration_of (inside_each (suc n) states (inside_at b k)) w)
        (configuration_of (inside_each (suc (suc n)) states a) v) (configuration_of (inside_each (suc (suc n)) states b) w) (anywhere (map (under_place (j ∷ place)) own))
        (goes-opened n r own (j ∷ place) (inside_at a k) (inside_at b k) v w (cc) was is (λ q ne. others (k ∷ q) (λ e. ne cc)) finds puts out replays within)
        (record { values = λ i u. refl; states = λ path. refl })
        (record { values = λ i u. refl; states = λ path. refl })
        (record { values = λ i no. absurd (no tt); states = other })) where
          anywhere : (list : List (Record Agent I V S P)) → AllByRecursion (λ q. (i : I) → Declares q.access i → Unit {0}) list
          anywhere [] = tt
          anywhere (q ∷ list) = ((λ i d. tt), anywhere list)

          other : (path : Agent) → ((q : Agent) → path ≢ k ∷ q) → inside_each (suc (suc n)) states b path ≡ inside_each (suc (suc n)) states a path
          other [] ne = refl
          other (h ∷ path) ne = inside_each-alike states (suc n) (inside_at a h) (inside_at b h) (λ q. others (h ∷ q) (λ e. ne path cc)) path

    -- a replay of the records, each of an agent at a place, is one of what they are opened into
    pub replays-opened : (n : ℕ) (list : List (Record Agent I V X O)) (opened : List (Record Agent I V S P)) (x y : Configuration Agent I V X) → AreOpened list opened → AllByRecursion (λ r. length r.agent ≡ suc n) list → Replays x list y
        → Replays (configuration_of (inside_each (suc n) states x.states) x.values) opened (configuration_of (inside_each (suc n) states y.states) y.values)
    replays-opened n [] opened x y is sizes like = subst (λ (l : List (Record Agent I V S P)). Replays (configuration_of (inside_each (suc n) states x.states) x.values) l (configuration_of (inside_each (suc n) states y.states) y.values)) (sym is)
        (record { values = like.values; states = inside_each-alike states (suc n) x.states y.states like.states })
    replays-opened n (r ∷ list) opened x y (own, others, is, replays, within, more) sizes (m, goes, then) =
        subst (λ (l : List (Record Agent I V S P)). Replays (configuration_of (inside_each (suc n) states x.states) x.values) l (configuration_of (inside_each (suc n) states y.states) y.values)) (sym is)
        (Replays-append (configuration_of (inside_each (suc n) states x.states) x.values) (map (under_place r.agent) own) (configuration_of (inside_each (suc n) states m.states) m.values) others (configuration_of (inside_each (suc n) states y.states) y.values)
        (goes-opened n r own r.agent x.states m.states x.values m.values sizes.0 goes.finds_state goes.puts_state goes.other_states goes.finds goes.puts goes.other_values replays within)
        (replays-opened n list others m y more sizes.1 then))

-- Runs of a list of elements, each of whose records is opened.
-- so it is of each element, at its place, from place n on
abbrev pub EachAt : {Y : Type 0} → (ℕ → Y → Type 0) → ℕ → List Y → Type 0
EachAt P n [] = Unit {0}
EachAt P n (y ∷ ys) = P n y × EachAt P (suc n) ys

module _ {I V X O : Type 0} where
  -- What is so of each element at its place may be told of it beside its run.
  module _ {Y F : Type 0} (P : ℕ → Y → Type 0) (Run : ℕ → Y → List (Record Agent I V X O) → Answer F → Type 0) where
    -- the run of an element of which it is so
    abbrev pub With : ℕ → Y → List (Record Agent I V X O) → Answer F → Type 0
    With n y list a = P n y × Run n y list a

    pub UpToFault-with : (n : ℕ) (ys : List Y) (list : List (Record Agent I V X O)) (a : Answer F) → EachAt P n ys → RunsUpToFault Run n ys list a → RunsUpToFault With n ys list a
    UpToFault-with n [] list a each run = run
    UpToFault-with n (y ∷ ys) list a each (first, Ok done, run, (others, is, more)) = (first, Ok done, (each.0, run), (others, is, UpToFault-with (suc n) ys others a each.1 more))
    UpToFault-with n (y ∷ ys) list a each (first, Err fault, run, end) = (first, Err fault, (each.0, run), end)

    pub Each-with : (n : ℕ) (ys : List Y) (list : List (Record Agent I V X O)) (a : Answer F) → EachAt P n ys → RunsEach Run n ys list a → RunsEach With n ys list a
    Each-with n [] list a each run = run
    Each-with n (y ∷ ys) list a each (first, others, b, c, run, more, is, end) = (first, others, b, c, (each.0, run), Each-with (suc n) ys others c each.1 more, is, end)

  split : (P : Record Agent I V X O → Type 0) (n : ℕ) (first others list : List (Record Agent I V X O)) → list ≡ map (under n) first ++ others → AllByRecursion P list → AllByRecursion (λ r. P (under n r)) first × AllByRecursion P others
  split P n [] others list is all = (tt, subst (AllByRecursion P) is all)
  split P n (r ∷ first) others list is all =
      let parts : AllByRecursion P (under n r ∷ (map (under n) first ++ others)) = subst (AllByRecursion P) is all in
      let rest = split P n first others (map (under n) first ++ others) refl parts.1 in
      ((parts.0, rest.0), rest.1)

  -- What an element's run has of each of its records, inside the element's place, a run of a list has of each.
  module _ {Y F : Type 0} (Run : ℕ → Y → List (Record Agent I V X O) → Answer F → Type 0) (P : Record Agent I V X O → Type 0)
      (one : (n : ℕ) (y : Y) (list : List (Record Agent I V X O)) (a : Answer F) → Run n y list a → AllByRecursion (λ r. P (under n r)) list) where
    each_passes : (ys : List Y) → EachPasses Run P ys
    each_passes [] = tt
    each_passes (y ∷ ys) = ((λ n list a run. one n y list a run), each_passes ys)

    pub RunsUpToFault-each : (n : ℕ) (ys : List Y) (list : List (Record Agent I V X O)) (a : Answer F) → RunsUpToFault Run n ys list a → AllByRecursion P list
    RunsUpToFault-each n ys list a run = RunsUpToFault-all Run P n ys list a (each_passes ys) run

    pub RunsEach-each : (n : ℕ) (ys : List Y) (list : List (Record Agent I V X O)) (a : Answer F) → RunsEach Run n ys list a → AllByRecursion P list
    RunsEach-each n ys list a run = RunsEach-all Run P n ys list a (each_passes ys) run

module _ {I V X O T : Type 0} (said : X → Agent → Option T) where
  -- what stands at the record's place is what it found there
  abbrev pub StandsAt : (Agent → Option T) → Record Agent I V X O → Type 0
  StandsAt all r = (λ path. all (r.agent ++ path)) ≡ said r.before

  -- the record is of an agent so many places deep, and leaves there what it found
  abbrev pub Stays : ℕ → Record Agent I V X O → Type 0
  Stays n r = (length r.agent ≡ n) × (said r.after ≡ said r.before)

  -- where each record leaves what it found, each finds what stood there at first
  pub stands : (n : ℕ) (list : List (Record Agent I V X O)) (x y : Configuration Agent I V X) → AllByRecursion (Stays n) list → Replays x list y
      → AllByRecursion (StandsAt (inside_each n said x.states)) list × (inside_each n said y.states ≡ inside_each n said x.states)
  stands n [] x y stay like = (tt, fun_ext (inside_each-alike said n x.states y.states like.states))
  stands n (r ∷ list) x y stay (m, goes, then) =
      let same : inside_each n said m.states ≡ inside_each n said x.states = fun_ext (inside_each-same said n x.states m.states r.agent r.before r.after stay.0.0 goes.finds_state goes.puts_state goes.other_states stay.0.1) in
      let rest = stands n list m y stay.1 then in
      ((fun_ext (λ path. inside_each-at said n x.states r.agent r.before path stay.0.0 goes.finds_state), subst (λ (all : Agent → Option T). AllByRecursion (StandsAt all) list) same rest.0), rest.1 ∙ same)

module _ {I V X O S P : Type 0} (states : X → Agent → Option S) where
  -- Some list is such a run, and is what the records are opened into.
  pub record Opening {F : Type 0} (Finer : List (Record Agent I V S P) → Answer F → Type 0) (list : List (Record Agent I V X O)) (a : Answer F) : Type 0 where
    pub opened : List (Record Agent I V S P)
    pub run : Finer opened a
    pub opens : AreOpened states list opened

  module _ {Y F : Type 0} (Run : ℕ → Y → List (Record Agent I V X O) → Answer F → Type 0) (Finer : ℕ → Y → List (Record Agent I V S P) → Answer F → Type 0) {T : Type 0} (said : X → Agent → Option T) (all : Agent → Option T)
      (one : (n : ℕ) (y : Y) (list : List (Record Agent I V X O)) (a : Answer F) → AllByRecursion (StandsAt said (inside_at all n)) list → Run n y list a → Opening (Finer n y) list a) where
    joined : (n : ℕ) (list first others : List (Record Agent I V X O)) (os ps : List (Record Agent I V S P)) → list ≡ map (under n) first ++ others → AreOpened states first os → AreOpened states others ps → AreOpened states list (map (under n) os ++ ps)
    joined n list first others os ps is opens also = subst (λ (l : List (Record Agent I V X O)). AreOpened states l (map (under n) os ++ ps)) (sym is)
        (AreOpened-append states (map (under n) first) others (map (under n) os) ps (AreOpened-under states n first os opens) also)

    -- a run up to the first fault
    pub UpToFault-opened : (n : ℕ) (ys : List Y) (list : List (Record Agent I V X O)) (a : Answer F) → AllByRecursion (StandsAt said all) list → RunsUpToFault Run n ys list a → Opening (RunsUpToFault Finer n ys) list a
    UpToFault-opened n [] list a stand (is, end) = record { opened = []; run = (refl, end); opens = AreOpened-none states list [] is refl }
    UpToFault-opened n (y ∷ ys) list a stand (first, Ok done, run, (others, is, more)) =
        let parts = split (StandsAt said all) n first others list is stand in
        let o = one n y first (Ok done) parts.0 run in
        let p = UpToFault-opened (suc n) ys others a parts.1 more in
        record { opened = map (under n) o.opened ++ p.opened; run = (o.opened, Ok done, o.run, (p.opened, refl, p.run)); opens = joined n list first others o.opened p.opened is o.opens p.opens }
    UpToFault-opened n (y ∷ ys) list a stand (first, Err fault, run, (is, end)) =
        let parts = split (StandsAt said all) n first [] list (is ∙ sym (append-nil (map (under n) first))) stand in
        let o = one n y first (Err fault) parts.0 run in
        record { opened = map (under n) o.opened; run = (o.opened, Err fault, o.run, (refl, end)); opens = subst (λ (l : List (Record Agent I V X O)). AreOpened states l (map (under n) o.opened)) (sym is) (AreOpened-under states n first o.opened o.opens) }

    -- a run of all
    pub Each-opened : (n : ℕ) (ys : List Y) (list : List (Record Agent I V X O)) (a : Answer F) → AllByRecursion (StandsAt said all) list → RunsEach Run n ys list a → Opening (RunsEach Finer n ys) list a
    Each-opened n [] list a stand (is, end) = record { opened = []; run = (refl, end); opens = AreOpened-none states list [] is refl }
    Each-opened n (y ∷ ys) list a stand (first, others, b, c, run, more, is, end) =
        let parts = split (StandsAt said all) n first others list is stand in
        let o = one n y first b parts.0 run in
        let p = Each-opened (suc n) ys others c parts.1 more in
        record { opened = map (under n) o.opened ++ p.opened; run = (o.opened, p.opened, b, c, o.run, p.run, refl, end); opens = joined n list first others o.opened p.opened is o.opens p.opens }

-- Plans whose entries what stands in them fits.
-- all that a plan's entries may touch
abbrev pub plan_access : model.Plan ResourceId → Access ResourceId
plan_access plan = record { reads = plan_reads plan; writes = plan_writes plan }

-- Fits says what fits an access.
module _ (Fits : Occupants → Access ResourceId → Type 0) where
  -- what stands in an entry fits its access
  abbrev pub EntryFits : Occupants → ℕ → model.PlanEntry ResourceId → Type 0
  EntryFits occupants place entry = Fits (inside_at occupants place) entry.access

  -- so it is of each entry of a group
  abbrev pub GroupFits : Occupants → ℕ → model.Group ResourceId → Type 0
  GroupFits occupants place group = EachAt (EntryFits (inside_at occupants place)) 0 group

  -- so it is of each group of a stage
  abbrev pub StageFits : Occupants → model.Stage ResourceId → Type 0
  StageFits occupants stage = EachAt (GroupFits occupants) 0 stage

  -- so it is of each stage of a plan
  abbrev pub PlanFits : Occupants → model.Plan ResourceId → Type 0
  PlanFits occupants plan = EachAt (λ place stage. StageFits (inside_at occupants place) stage) 0 plan

-- a batch fits an access that has what its controller and its inner plan may touch, where the groups of its inner stages do not conflict, and what stands in its inner entries fits them; a system fits any
abbrev pub OccupantFits : (model.Plan ResourceId → Type 0) → Option Occupant → Access ResourceId → Type 0
OccupantFits Inner (Some (a_batch control plan)) access = IsNoMore access control × IsNoMore access (plan_access plan) × All (AreApart model.group_access) plan × Inner plan
OccupantFits Inner (Some a_system) access = Unit {0}
OccupantFits Inner None access = Unit {0}

-- so it is at each depth
unfoldable pub Fits : ℕ → Occupants → Access ResourceId → Type 0
Fits zero occupants access = OccupantFits (λ plan. Unit {0}) (occupants []) access
Fits (suc less) occupants access = OccupantFits (PlanFits (Fits less) occupants) (occupants []) access

-- what stands in a plan's entries fits them at every depth
abbrev pub PlanFitsThroughout : Occupants → model.Plan ResourceId → Type 0
PlanFitsThroughout occupants plan = (depth : ℕ) → PlanFits (Fits depth) occupants plan
