-- Two runs that begin at one place are the same, where their steps are.
use Rattle.std.proofs.Common.{◌≡◌, ℕ, suc, List, [], ◌∷◌, ◌++◌, map, Option, Ok, Err, inl, inr, refl, sym, ◌∙◌, ap, subst, append-nil}
use Rattle.std.specs.List.{AllByRecursion}
use Rattle.shred_model.specs.Access.{Access}
use Rattle.shred_model.specs.Record.{Record, Agent, under}
use Rattle.shred_model.specs.Replay.{Configuration, AreAlike, Goes, Replays}
use Rattle.shred_model.specs.Runs.{Answer, RunsUpToFault, RunsEach, first_fault}
use Rattle.shred_model.proofs.Records.Telling.{Tells, tell_agents}
use Rattle.shred_model.proofs.Records.Membership.{is_declared}

-- the record, of the agent that g makes of its own
abbrev pub moved : {I V S O : Type 0} → (Agent → Agent) → Record Agent I V S O → Record Agent I V S O
moved g r = record r { agent = g r.agent }

-- The runs are the same, with the same answer, and what comes after them begins at one place, with values that are sound.
pub record AreSameRuns {I V S O R : Type 0} (Sound : (I → Option V) → Type 0) (l m rest others : List (Record Agent I V S O)) (a b : R) (y z : Configuration Agent I V S) : Type 0 where
  pub list : l ≡ m
  pub answer : a ≡ b
  pub middle : Configuration Agent I V S
  pub first : Replays middle rest y
  pub second : Replays middle others z
  pub sound : Sound middle.values

-- so it is of the access, the state before and the outcome of each record
abbrev pub EachFine : {I V S O : Type 0} → (Access I → S → O → Type 0) → List (Record Agent I V S O) → Type 0
EachFine Fine list = AllByRecursion (λ r. Fine r.access r.before r.outcome) list

-- a run of the one and a run of the other, of fine records, with which two replays from one place with sound values begin, are the same
abbrev pub HaveOneRun : {I V S O R : Type 0} → ((I → Option V) → Type 0) → (Access I → S → O → Type 0) → (List (Record Agent I V S O) → R → Type 0) → (List (Record Agent I V S O) → R → Type 0) → Type 0
HaveOneRun {I} {V} {S} {O} {R} Sound Fine Run Its = (g : Agent → Agent) (c y z : Configuration Agent I V S) (l m rest others : List (Record Agent I V S O)) (a b : R)
    → Sound c.values → EachFine Fine l → EachFine Fine m → Run l a → Its m b → Replays c (map (moved g) l ++ rest) y → Replays c (map (moved g) m ++ others) z → AreSameRuns Sound l m rest others a b y z

module _ {I V S O R T : Type 0} (Sound : (I → Option V) → Type 0) (f : R → T) (l m rest others : List (Record Agent I V S O)) (o p : R) (a b : T) (y z : Configuration Agent I V S) where
  -- what is answered for their answers is the same too
  pub told-same : AreSameRuns Sound l m rest others o p y z → a ≡ f o → b ≡ f p → AreSameRuns Sound l m rest others a b y z
  told-same same is at = record { list = same.list; answer = is ∙ ap f same.answer ∙ sym at; middle = same.middle; first = same.first; second = same.second; sound = same.sound }

module _ {I V S O : Type 0} where
  regrouped : (g h : Agent → Agent) (first more rest : List (Record Agent I V S O)) → map (moved g) (map (moved h) first ++ more) ++ rest ≡ map (moved (λ a. g (h a))) first ++ (map (moved g) more ++ rest)
  regrouped g h [] more rest = refl
  regrouped g h (r ∷ first) more rest = ap (λ (l : List (Record Agent I V S O)). moved (λ a. g (h a)) r ∷ l) (regrouped g h first more rest)

  -- a replay of a joined list begins with the first part
  begins : (g h : Agent → Agent) (c y : Configuration Agent I V S) (l first more rest : List (Record Agent I V S O)) → l ≡ map (moved h) first ++ more → Replays c (map (moved g) l ++ rest) y → Replays c (map (moved (λ a. g (h a))) first ++ (map (moved g) more ++ rest)) y
  begins g h c y l first more rest is replays = subst (λ (w : List (Record Agent I V S O)). Replays c w y) (ap (λ (w : List (Record Agent I V S O)). map (moved g) w ++ rest) is ∙ regrouped g h first more rest) replays

  from_none : (g : Agent → Agent) (c y : Configuration Agent I V S) (l rest : List (Record Agent I V S O)) → l ≡ [] → Replays c (map (moved g) l ++ rest) y → Replays c rest y
  from_none g c y l rest none replays = subst (λ (w : List (Record Agent I V S O)). Replays c (map (moved g) w ++ rest) y) none replays

module _ {I V S O : Type 0} (Sound : (I → Option V) → Type 0) (Fine : Access I → S → O → Type 0) where
  -- what is so of the records of a joined list is so of those of its parts
  fine-parts : (h : Agent → Agent) (l first more : List (Record Agent I V S O)) → l ≡ map (moved h) first ++ more → EachFine Fine l → EachFine Fine first × EachFine Fine more
  fine-parts h l first more is all = parts first (subst (λ (w : List (Record Agent I V S O)). EachFine Fine w) is all) where
    parts : (first : List (Record Agent I V S O)) → EachFine Fine (map (moved h) first ++ more) → EachFine Fine first × EachFine Fine more
    parts [] all = (tt, all)
    parts (r ∷ first) all = let rest = parts first all.1 in ((all.0, rest.0), rest.1)

  -- Runs that are joined of two parts are the same, where the first parts are, and the second ones after the same answer.
  pub joined-one : {R T : Type 0} (h : Agent → Agent) (Run Its : List (Record Agent I V S O) → R → Type 0) → HaveOneRun Sound Fine Run Its → (More Less : R → List (Record Agent I V S O) → T → Type 0) → ((d : R) → HaveOneRun Sound Fine (More d) (Less d))
      → (g : Agent → Agent) (c y z : Configuration Agent I V S) (l m first last more less rest others : List (Record Agent I V S O)) (d e : R) (a b : T) → Sound c.values → EachFine Fine l → EachFine Fine m
      → Run first d → Its last e → More d more a → Less e less b → l ≡ map (moved h) first ++ more → m ≡ map (moved h) last ++ less → Replays c (map (moved g) l ++ rest) y → Replays c (map (moved g) m ++ others) z → (d ≡ e) × AreSameRuns Sound l m rest others a b y z
  joined-one {R} h Run Its one More Less then g c y z l m first last more less rest others d e a b sound fine_l fine_m run other runs ends is at p q =
      let of_l = fine-parts h l first more is fine_l in
      let of_m = fine-parts h m last less at fine_m in
      let here = one (λ w. g (h w)) c y z first last (map (moved g) more ++ rest) (map (moved g) less ++ others) d e sound of_l.0 of_m.0 run other (begins g h c y l first more rest is p) (begins g h c z m last less others at q) in
      let there = then d g here.middle y z more less rest others a b here.sound of_l.1 of_m.1 runs (subst (λ (x : R). Less x less b) (sym here.answer) ends) here.first here.second in (
        here.answer,
        record {
          list = is ∙ (λ i. map (moved h) (here.list i) ++ there.list i) ∙ sym at;
          answer = there.answer;
          middle = there.middle;
          first = there.first;
          second = there.second;
          sound = there.sound;
        },
      )

  -- where neither runs anything, nothing is there to differ
  pub none-one : {R : Type 0} (said : R) → HaveOneRun Sound Fine (λ list answer. (list ≡ []) × (answer ≡ said)) (λ list answer. (list ≡ []) × (answer ≡ said))
  none-one said g c y z l m rest others a b sound fl fm run other p q = record { list = run.0 ∙ sym other.0; answer = run.1 ∙ sym other.1; middle = c; first = from_none g c y l rest run.0 p; second = from_none g c z m others other.0 q; sound = sound }

  module _ {X F : Type 0} (Run Its : ℕ → X → List (Record Agent I V S O) → Answer F → Type 0) (one : (n : ℕ) (x : X) → HaveOneRun Sound Fine (Run n x) (Its n x)) where
    -- what follows an element's run: the runs of those behind it, or nothing after a fault
    abbrev Behind : (List (Record Agent I V S O) → Answer F → Type 0) → Answer F → List (Record Agent I V S O) → Answer F → Type 0
    Behind Runs (Ok done) list answer = Runs list answer
    Behind Runs (Err fault) list answer = (list ≡ []) × (answer ≡ Err fault)

    behind-one : (Runs Ends : List (Record Agent I V S O) → Answer F → Type 0) → HaveOneRun Sound Fine Runs Ends → (d : Answer F) → HaveOneRun Sound Fine (Behind Runs d) (Behind Ends d)
    behind-one Runs Ends then (Ok done) = then
    behind-one Runs Ends then (Err fault) = none-one (Err fault)

    -- an element's run, and what follows it
    abbrev Parted : (ℕ → X → List (Record Agent I V S O) → Answer F → Type 0) → ℕ → X → List X → List (Record Agent I V S O) → Answer F → Type 0
    Parted Any n x xs list answer = (first : List (Record Agent I V S O)) × (d : Answer F) × Any n x first d × (more : List (Record Agent I V S O)) × (list ≡ map (under n) first ++ more) × Behind (RunsUpToFault Any (suc n) xs) d more answer

    parted : (Any : ℕ → X → List (Record Agent I V S O) → Answer F → Type 0) (n : ℕ) (x : X) (xs : List X) (list : List (Record Agent I V S O)) (answer : Answer F) → RunsUpToFault Any n (x ∷ xs) list answer → Parted Any n x xs list answer
    parted Any n x xs list answer (first, Ok done, run, (more, is, runs)) = (first, Ok done, run, more, is, runs)
    parted Any n x xs list answer (first, Err fault, run, (is, same)) = (first, Err fault, run, [], is ∙ sym (append-nil (map (under n) first)), (refl, same))

    -- runs up to the first fault
    pub UpToFault-one : (n : ℕ) (xs : List X) → HaveOneRun Sound Fine (RunsUpToFault Run n xs) (RunsUpToFault Its n xs)
    UpToFault-one n [] g c y z l m rest others a b sound fl fm run other p q = none-one (Ok tt) g c y z l m rest others a b sound fl fm run other p q
    UpToFault-one n (x ∷ xs) g c y z l m rest others a b sound fl fm run other p q =
        let (first, d, here, more, is, runs) = parted Run n x xs l a run in
        let (last, e, there, less, at, ends) = parted Its n x xs m b other in
        (joined-one (λ w. n ∷ w) (Run n x) (Its n x) (one n x) (Behind (RunsUpToFault Run (suc n) xs)) (Behind (RunsUpToFault Its (suc n) xs)) (behind-one (RunsUpToFault Run (suc n) xs) (RunsUpToFault Its (suc n) xs) (UpToFault-one (suc n) xs))
        g c y z l m first last more less rest others d e a b sound fl fm here there runs ends is at p q).1

    -- runs of all
    pub Each-one : (n : ℕ) (xs : List X) → HaveOneRun Sound Fine (RunsEach Run n xs) (RunsEach Its n xs)
    Each-one n [] g c y z l m rest others a b sound fl fm run other p q = none-one (Ok tt) g c y z l m rest others a b sound fl fm run other p q
    Each-one n (x ∷ xs) g c y z l m rest others a b sound fl fm (first, more, a1, a2, run, runs, is, is_a) (last, less, b1, b2, other, ends, at, is_b) p q =
        let same = joined-one (λ w. n ∷ w) (Run n x) (Its n x) (one n x) (λ d. RunsEach Run (suc n) xs) (λ d. RunsEach Its (suc n) xs) (λ d. Each-one (suc n) xs) g c y z l m first last more less rest others a1 b1 a2 b2 sound fl fm run other runs ends is at p q in
        record {
          list = same.1.list;
          answer = is_a ∙ (λ i. first_fault (same.0 i) (same.1.answer i)) ∙ sym is_b;
          middle = same.1.middle;
          first = same.1.first;
          second = same.1.second;
          sound = same.1.sound;
        }

module _ {I V S O : Type 0} (tell_ids : Tells I) where
  -- one record leads from one place to one place
  pub Goes-one : (r : Record Agent I V S O) (x y z : Configuration Agent I V S) → Goes r x y → Goes r x z → AreAlike y z
  Goes-one r x y z p q = record {
    values = λ i. elim (is_declared tell_ids r.access i) [ inl d ↦ q.puts i d ∙ sym (p.puts i d) | inr n ↦ q.other_values i n ∙ sym (p.other_values i n) ];
    states = λ a. elim (tell_agents a r.agent) [ inl e ↦ rw e (q.puts_state ∙ sym p.puts_state) | inr n ↦ q.other_states a n ∙ sym (p.other_states a n) ];
  }
