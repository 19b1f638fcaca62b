-- Runs of a plan's entries, in the order of addition.
use Rattle.std.proofs.Common.{◌≡◌, ◌≢◌, ◌≤◌, List, [], ◌∷◌, ◌++◌, map, Option, IsPermutation, inl, inr, refl, sym, ◌∙◌, subst, subst₂, arith, append_assoc, ⊎_elim}
use Rattle.std.specs.List.{AllByRecursion}
use Rattle.std.proofs.lemmas.Bool.{cases_lt}
use Rattle.std.proofs.lemmas.List.Sorted.{All-permutation, IsPermutation-refl, IsPermutation-cons, IsPermutation-trans, IsPermutation-middle, IsPermutation-append, IsPermutation-append_comm}
use Rattle.std.proofs.lemmas.List.Elements.{All-from_recursion, recursion_from_All}
use Rattle.shred_model.specs.Access.{Access, Conflicts}
use Rattle.shred_model.specs.Record.{Record, Agent, Independent}
use Rattle.shred_model.specs.Replay.{Configuration, Replays}
use Rattle.shred_model.proofs.Orders.ReplaySteps.{Replays-append}
use Rattle.shred_model.proofs.Records.Framed.{AllByRecursion-weaker, AllFramed}
use Rattle.shred_model.proofs.Records.Telling.{Tells, tell_agents}
use Rattle.shred_model.proofs.Records.Within.{IsWithin}
use Rattle.shred_run.specs.AdditionOrder.{StandsBefore, PlacedEntry, EntriesRun, under_place}
use Rattle.shred_run.proofs.Added.Past.{Replays-split, list_past}
use Rattle.shred_run.proofs.Added.Entries.{AllLater, ComesFirst}

-- agents inside different places differ
before-apart : (p q a b : Agent) → StandsBefore p q → (p ++ a) ≢ (q ++ b)
before-apart [] q a b h e = h
before-apart (n ∷ p) [] a b h e = h
before-apart (n ∷ p) (m ∷ q) a b (inl lt) e = let same : n ≡ m = cc in omega (arith, lt, same)
before-apart (n ∷ p) (m ∷ q) a b (inr h) e = before-apart p q a b h.1 (cc)

-- two lists that stand before a third may change places
IsPermutation-turn : {X : Type 0} (first second more : List X) → IsPermutation (first ++ (second ++ more)) (second ++ (first ++ more))
IsPermutation-turn {X} first second more = subst₂ IsPermutation (append_assoc first second more) (append_assoc second first more) (IsPermutation-append (first ++ second) (second ++ first) more more (IsPermutation-append_comm first second) (IsPermutation-refl more))

IsPermutation-recursion : {X : Type 0} (P : X → Type 0) (xs ys : List X) → IsPermutation xs ys → AllByRecursion P xs → AllByRecursion P ys
IsPermutation-recursion P xs ys same h = recursion_from_All P ys (All-permutation P xs ys same (All-from_recursion P xs h))

module _ {I V S O T : Type 0} (tell_ids : Tells I) (Own : (Agent → Option T) → Access I → List (Record Agent I V S O) → Type 0) (Fits : (Agent → Option T) → Access I → Type 0)
    (own-within : (all : Agent → Option T) (access : Access I) (list : List (Record Agent I V S O)) → Fits all access → Own all access list → AllByRecursion (IsWithin access) list) (all : Agent → Option T) where
  -- what stands there fits the entry's access
  abbrev pub FitsThere : PlacedEntry I → Type 0
  FitsThere s = Fits (λ path. all (s.place ++ path)) s.entry.access

  -- the records of one entry's run, of agents inside its place
  inside : (s : PlacedEntry I) (own : List (Record Agent I V S O)) → AllByRecursion (IsWithin s.entry.access) own → AllByRecursion (λ r. IsWithin s.entry.access r × ((a : Agent) × (r.agent ≡ s.place ++ a))) (map (under_place s.place) own)
  inside s [] h = tt
  inside s (r ∷ own) h = ((record { framed = h.0.framed; declared = h.0.declared; written = h.0.written }, (r.agent, refl)), inside s own h.1)

  -- records within accesses that do not conflict, of agents inside different places, are independent
  free : (s t : PlacedEntry I) → StandsBefore s.place t.place → (Conflicts s.entry.access t.entry.access → ⊥) → (r q : Record Agent I V S O) → IsWithin s.entry.access r × ((a : Agent) × (r.agent ≡ s.place ++ a)) → IsWithin t.entry.access q × ((a : Agent) × (q.agent ≡ t.place ++ a)) → Independent r q
  free s t before apart r q (in_s, (a, is_r)) (in_t, (b, is_q)) = (
    λ e. before-apart s.place t.place a b before (sym is_r ∙ e ∙ is_q),
    λ c. apart (c.0, elim (c.1) [ inl h ↦ inl (in_s.written c.0 h.0, in_t.declared c.0 h.1) | inr h ↦ inr (in_t.written c.0 h.0, in_s.declared c.0 h.1) ]),
  )

  all-free : (s t : PlacedEntry I) → StandsBefore s.place t.place → (Conflicts s.entry.access t.entry.access → ⊥) → (xs ys : List (Record Agent I V S O)) → AllByRecursion (λ r. IsWithin s.entry.access r × ((a : Agent) × (r.agent ≡ s.place ++ a))) xs
      → AllByRecursion (λ q. IsWithin t.entry.access q × ((a : Agent) × (q.agent ≡ t.place ++ a))) ys → AllByRecursion (λ r. AllByRecursion (Independent r) ys) xs
  all-free s t before apart [] ys h k = tt
  all-free s t before apart (r ∷ xs) ys h k = (AllByRecursion-weaker (λ q. IsWithin t.entry.access q × ((a : Agent) × (q.agent ≡ t.place ++ a))) (Independent r) (λ q w. free s t before apart r q h.0 w) ys k, all-free s t before apart xs ys h.1 k)

  framed : (s : PlacedEntry I) (own : List (Record Agent I V S O)) → AllByRecursion (IsWithin s.entry.access) own → AllFramed (map (under_place s.place) own)
  framed s [] h = tt
  framed s (r ∷ own) h = (h.0.framed, framed s own h.1)

  -- There is an order of the entries in which their ids ascend, and the same records, as the entries' runs in that order, lead from x to y.
  pub record RanInOrder (x y : Configuration Agent I V S) (entries : List (PlacedEntry I)) (steps : List (Record Agent I V S O)) : Type 0 where
    pub order : List (PlacedEntry I)
    pub same : IsPermutation entries order
    pub by_id : AllLater (λ s t. s.entry.id ≤ t.entry.id) order
    pub list : List (Record Agent I V S O)
    pub same_steps : IsPermutation steps list
    pub run : EntriesRun Own all order list
    pub replays : Replays x list y

  -- one entry's run goes behind the runs of those with smaller ids
  ran-insert : (s : PlacedEntry I) (own : List (Record Agent I V S O)) → FitsThere s → Own (λ path. all (s.place ++ path)) s.entry.access own → (rest : List (PlacedEntry I)) → AllByRecursion (ComesFirst s) rest → AllByRecursion FitsThere rest → AllLater (λ s t. s.entry.id ≤ t.entry.id) rest
      → (list : List (Record Agent I V S O)) (x y : Configuration Agent I V S) → EntriesRun Own all rest list → Replays x (map (under_place s.place) own ++ list) y → RanInOrder x y (s ∷ rest) (map (under_place s.place) own ++ list)
  ran-insert s own fit one [] first fits by_id list x y run then = record { order = s ∷ []; same = IsPermutation-refl (s ∷ []); by_id = (tt, tt); list = map (under_place s.place) own ++ list; same_steps = IsPermutation-refl (map (under_place s.place) own ++ list); run = (own, list, one, refl, run); replays = then }
  ran-insert s own fit one (t ∷ rest) first fits by_id list x y (next, others, two, is, more) then = ⊎_elim
      (λ lt.
      let apart : Conflicts s.entry.access t.entry.access → ⊥ = λ c. (let below = first.0.added c in omega (arith, lt, below)) in
      let here = own-within (λ path. all (s.place ++ path)) s.entry.access own fit one in
      let there = own-within (λ path. all (t.place ++ path)) t.entry.access next fits.0 two in
      let turned = list_past tell_agents tell_ids (map (under_place s.place) own) (map (under_place t.place) next) others x y (all-free s t first.0.before apart (map (under_place s.place) own) (map (under_place t.place) next) (inside s own here) (inside t next there))
      (framed s own here) (framed t next there) (subst (λ (l : List (Record Agent I V S O)). Replays x (map (under_place s.place) own ++ l) y) is then) in
      let parts = Replays-split x y (map (under_place t.place) next) (map (under_place s.place) own ++ others) turned in
      let deeper = ran-insert s own fit one rest first.1 fits.1 by_id.1 others parts.0 y more parts.2 in
      record {
        order = t ∷ deeper.order;
        same = IsPermutation-trans (s ∷ t ∷ rest) (t ∷ s ∷ rest) (t ∷ deeper.order) (IsPermutation-middle (s ∷ []) t rest) (IsPermutation-cons t (s ∷ rest) deeper.order deeper.same);
        by_id = (IsPermutation-recursion (λ u. t.entry.id ≤ u.entry.id) (s ∷ rest) deeper.order deeper.same (omega (arith, lt), by_id.0), deeper.by_id);
        list = map (under_place t.place) next ++ deeper.list;
        same_steps = subst (λ (l : List (Record Agent I V S O)). IsPermutation (map (under_place s.place) own ++ l) (map (under_place t.place) next ++ deeper.list)) (sym is)
            (IsPermutation-trans (map (under_place s.place) own ++ (map (under_place t.place) next ++ others)) (map (under_place t.place) next ++ (map (under_place s.place) own ++ others)) (map (under_place t.place) next ++ deeper.list)
            (IsPermutation-turn (map (under_place s.place) own) (map (under_place t.place) next) others)
            (IsPermutation-append (map (under_place t.place) next) (map (under_place t.place) next) (map (under_place s.place) own ++ others) deeper.list (IsPermutation-refl (map (under_place t.place) next)) deeper.same_steps));
        run = (next, deeper.list, two, refl, deeper.run);
        replays = Replays-append x (map (under_place t.place) next) parts.0 deeper.list y parts.1 deeper.replays;
      })
      (λ le. record {
        order = s ∷ t ∷ rest;
        same = IsPermutation-refl (s ∷ t ∷ rest);
        by_id = ((le, AllByRecursion-weaker (λ u. t.entry.id ≤ u.entry.id) (λ u. s.entry.id ≤ u.entry.id) (λ u h. omega (arith, le, h)) rest by_id.0), by_id);
        list = map (under_place s.place) own ++ list;
        same_steps = IsPermutation-refl (map (under_place s.place) own ++ list);
        run = (own, list, one, refl, (next, others, two, is, more));
        replays = then;
      })
      (cases_lt t.entry.id s.entry.id)

  -- runs of the entries in their order lead where runs in the order of addition do
  pub ran-sorted : (entries : List (PlacedEntry I)) → AllLater ComesFirst entries → AllByRecursion FitsThere entries → (list : List (Record Agent I V S O)) (x y : Configuration Agent I V S) → EntriesRun Own all entries list → Replays x list y → RanInOrder x y entries list
  ran-sorted [] first fits list x y run then = record { order = []; same = IsPermutation-refl []; by_id = tt; list = list; same_steps = IsPermutation-refl list; run = run; replays = then }
  ran-sorted (s ∷ rest) first fits list x y (own, others, one, is, more) then =
      let parts = Replays-split x y (map (under_place s.place) own) others (subst (λ (l : List (Record Agent I V S O)). Replays x l y) is then) in
      let deeper = ran-sorted rest first.1 fits.1 others parts.0 y more parts.2 in
      let whole = ran-insert s own fits.0 one deeper.order (IsPermutation-recursion (ComesFirst s) rest deeper.order deeper.same first.0) (IsPermutation-recursion FitsThere rest deeper.order deeper.same fits.1) deeper.by_id deeper.list x y deeper.run
      (Replays-append x (map (under_place s.place) own) parts.0 deeper.list y parts.1 deeper.replays) in
      record {
        order = whole.order;
        same = IsPermutation-trans (s ∷ rest) (s ∷ deeper.order) whole.order (IsPermutation-cons s rest deeper.order deeper.same) whole.same;
        by_id = whole.by_id;
        list = whole.list;
        same_steps = IsPermutation-trans list (map (under_place s.place) own ++ deeper.list) whole.list
            (subst (λ (l : List (Record Agent I V S O)). IsPermutation l (map (under_place s.place) own ++ deeper.list)) (sym is)
            (IsPermutation-append (map (under_place s.place) own) (map (under_place s.place) own) others deeper.list (IsPermutation-refl (map (under_place s.place) own)) deeper.same_steps))
            whole.same_steps;
        run = whole.run;
        replays = whole.replays;
      }
