-- Two steps under one access from one place are the same, where the relation allows one end under the lists that are declared.
use Rattle.std.proofs.Common.{◌≡◌, List, [], ◌∷◌, ◌++◌, map, Some, Ok, Err, Result, Contains, inl, inr, refl, sym, ◌∙◌, ap, subst}
use Rattle.std.proofs.Math.Path.{fun_ext}
use Rattle.shred_model.specs.Access.{Access, Declares}
use Rattle.shred_model.specs.Record.{Agent, Record}
use Rattle.shred_model.specs.Replay.{Configuration, Goes, Replays}
use Rattle.shred_model.proofs.Orders.ReplaySteps.{Replays-from_alike}
use Rattle.shred_model.proofs.Records.Membership.{is_declared}
use Rattle.shred_table.specs.declared.id.Kind.{Kind}
use Rattle.shred_table.specs.declared.id.ResourceId.{ResourceId}
use Rattle.shred_table.specs.Slots.{among}
use Rattle.shred_table.proofs.Tables.Ids.{among-contains, among-true, tell_ids}
use Rattle.shred_run.specs.declared.system.Fault.{Fault}
use Rattle.shred_run.specs.Controls.{Control}
use Rattle.shred_run.specs.Depths.{Declared}
use Rattle.shred_run.specs.Kept.{AreOwnLists}
use Rattle.shred_run.specs.NestedRecords.{NestedRecord, IsNestedStep, Reply, replied}
use Rattle.shred_run.specs.Occupants.{AgentState, of_controller, of_system}
use Rattle.shred_orders.specs.OneEnd.{AreOfKinds, IsCall, IsDeterministic, own_access}
use Rattle.shred_orders.proofs.OfKinds.{seen-of-kinds, left-of-kinds}
use Rattle.shred_orders.proofs.SameRuns.{EachFine, Goes-one, HaveOneRun, moved}

-- an answer, or an admitted fault
abbrev pub EndsIn : {A E : Type 0} → (Fault E → Type 0) → Result A (Fault E) → Type 0
EndsIn Admitted (Ok x) = Unit {0}
EndsIn Admitted (Err fault) = Admitted fault

ends-replied : {A E : Type 0} (Admitted : Fault E → Type 0) (reply : A → Reply) (o : Result A (Fault E)) → EndsIn Admitted (replied reply o) → EndsIn Admitted o
ends-replied Admitted reply (Ok x) h = tt
ends-replied Admitted reply (Err fault) h = h

-- what a system or a controller in this state declares
abbrev pub declared_by : {S C : Type 0} → Declared S C → AgentState S C → Access ResourceId
declared_by declared (of_system s) = own_access declared.reads declared.writes s
declared_by declared (of_controller c) = own_access declared.control_reads declared.control_writes c

-- the access is what a system or a controller in this state declares
abbrev pub HasOwnLists : {S C : Type 0} → Declared S C → AgentState S C → Access ResourceId → Type 0
HasOwnLists declared state access = AreOwnLists (declared_by declared state).reads (declared_by declared state).writes access.reads access.writes

-- the record's access is what is declared in its state, and it ended with an answer or an admitted fault
abbrev pub IsFine : {S C E : Type 0} → Declared S C → (Fault E → Type 0) → Access ResourceId → AgentState S C → Result Reply (Fault E) → Type 0
IsFine declared Admitted access state outcome = HasOwnLists declared state access × EndsIn Admitted outcome

-- one step alone
abbrev pub StepRun : {V S C E X A : Type 0} → (V → Kind) → Control V X A E → (X → AgentState S C) → (A → Reply) → Access ResourceId → List (NestedRecord V S C E) → Result A (Fault E) → Type 0
StepRun {V} {S} {C} {E} kind relation state reply access list answer = (r : NestedRecord V S C E) × (list ≡ r ∷ []) × IsNestedStep kind relation state reply access answer r

-- lists with the same ids have the same elements
contained : (xs ys : List ResourceId) (id : ResourceId) → among xs id ≡ among ys id → Contains ys id → Contains xs id
contained xs ys id same h = among-true xs id (same ∙ among-contains ys id h)

module _ {V S C E X A : Type 0} (kind : V → Kind) (relation : Control V X A E) (state : X → AgentState S C) (reply : A → Reply) (access : Access ResourceId) (reads writes : X → List ResourceId) where
  -- a step as a call, under the lists that its own state declares
  abbrev call_of : (answer : Result A (Fault E)) (r : NestedRecord V S C E) → IsNestedStep kind relation state reply access answer r → Record Agent ResourceId V X (Result A (Fault E))
  call_of answer r is = record { agent = []; access = own_access reads writes is.lies.0; before = is.lies.0; seen = r.seen; outcome = answer; after = is.lies.1; left = r.left }

  own-call : (answer : Result A (Fault E)) (r : NestedRecord V S C E) (is : IsNestedStep kind relation state reply access answer r) → AreOwnLists (reads is.lies.0) (writes is.lies.0) access.reads access.writes
      → IsCall kind relation (own_access reads writes is.lies.0) (call_of answer r is)
  own-call answer r is own = record {
    declared = refl;
    lies = is.lies.4;
    sees_only = λ id out. is.sees_only id (λ h. out (own_declares id h));
    keeps_kinds = is.keeps_kinds;
    frame = λ id out. is.frame id (λ w. out (own_writes id (subst (λ (a : Access ResourceId). Contains a.writes id) is.declared w)));
  } where
    own_writes : (id : ResourceId) → Contains access.writes id → Contains (writes is.lies.0) id
    own_writes id w = contained (writes is.lies.0) access.writes id (sym (own.same_writes id)) w

    own_declares : (id : ResourceId) → Declares access id → Declares (own_access reads writes is.lies.0) id
    own_declares id (inl d) = inl (contained (reads is.lies.0) access.reads id (sym (own.same_reads id)) d)
    own_declares id (inr w) = inr (own_writes id w)

  module _ (declared : Declared S C) (Admitted : Fault E → Type 0) (only : (x y : X) → state x ≡ state y → x ≡ y) (own : (x : X) → HasOwnLists declared (state x) access → AreOwnLists (reads x) (writes x) access.reads access.writes)
      (one : IsDeterministic kind relation reads writes (EndsIn Admitted)) where
    -- two steps from one place are the same
    step-one : (g : Agent → Agent) (c y z : Configuration Agent ResourceId V (AgentState S C)) (r q : NestedRecord V S C E) (o p : Result A (Fault E)) → AreOfKinds kind c.values → IsFine declared Admitted r.access r.before r.outcome → IsFine declared Admitted q.access q.before q.outcome
        → (of_r : IsNestedStep kind relation state reply access o r) → (of_q : IsNestedStep kind relation state reply access p q) → Goes (moved g r) c y → Goes (moved g q) c z → (r ≡ q) × (o ≡ p)
    step-one g c y z r q o p sound fine_r fine_q of_r of_q go_r go_q =
        let found_r : c.states (g []) ≡ Some r.before = ap (λ (a : Agent). c.states (g a)) (sym of_r.agent) ∙ go_r.finds_state in
        let found_q : c.states (g []) ≡ Some q.before = ap (λ (a : Agent). c.states (g a)) (sym of_q.agent) ∙ go_q.finds_state in
        let found : q.before ≡ r.before = cc in
        let before : of_q.lies.0 ≡ of_r.lies.0 = only of_q.lies.0 of_r.lies.0 (sym of_q.lies.2 ∙ found ∙ of_r.lies.2) in
        let seen : q.seen ≡ r.seen = fun_ext (λ id. elim (is_declared tell_ids access id) [
          | inl d ↦ sym (go_q.finds id (subst (λ a. Declares a id) (sym of_q.declared) d)) ∙ go_r.finds id (subst (λ a. Declares a id) (sym of_r.declared) d)
          | inr n ↦ of_q.sees_only id n ∙ sym (of_r.sees_only id n)
        ]) in
        let own_r = own of_r.lies.0 (subst (λ (a : Access ResourceId). HasOwnLists declared (state of_r.lies.0) a) of_r.declared (subst (λ (x : AgentState S C). HasOwnLists declared x r.access) of_r.lies.2 fine_r.0)) in
        let own_q = own of_q.lies.0 (subst (λ (a : Access ResourceId). HasOwnLists declared (state of_q.lies.0) a) of_q.declared (subst (λ (x : AgentState S C). HasOwnLists declared x q.access) of_q.lies.2 fine_q.0)) in
        let end = one (call_of o r of_r) (call_of p q of_q) (own-call o r of_r own_r) (own-call p q of_q own_q) before seen (seen-of-kinds kind relation state reply access o g c y r of_r go_r sound)
        (ends-replied Admitted reply o (subst (EndsIn Admitted) of_r.outcome fine_r.1)) (ends-replied Admitted reply p (subst (EndsIn Admitted) of_q.outcome fine_q.1)) in (
          λ i. record {
            agent = (of_r.agent ∙ sym of_q.agent) i;
            access = (of_r.declared ∙ sym of_q.declared) i;
            before = sym found i;
            seen = sym seen i;
            outcome = (of_r.outcome ∙ ap (replied reply) (sym end.outcome) ∙ sym of_q.outcome) i;
            after = (of_r.lies.3 ∙ ap state (sym end.after) ∙ sym of_q.lies.3) i;
            left = sym end.left i;
          },
          sym end.outcome,
        )

    pub step-run-one : HaveOneRun (AreOfKinds kind) (IsFine declared Admitted) (StepRun {V = V} {S = S} {C = C} {E = E} {X = X} {A = A} kind relation state reply access) (StepRun kind relation state reply access)
    step-run-one g c y z l m rest others a b sound fine_l fine_m (r, is, of_r) (q, at, of_q) p s =
        let fine_r = (subst (λ (w : List (NestedRecord V S C E)). EachFine (IsFine declared Admitted) w) is fine_l).0 in
        let fine_q = (subst (λ (w : List (NestedRecord V S C E)). EachFine (IsFine declared Admitted) w) at fine_m).0 in
        let first : Replays c (moved g r ∷ rest) y = subst (λ (w : List (NestedRecord V S C E)). Replays c (map (moved g) w ++ rest) y) is p in
        let second : Replays c (moved g q ∷ others) z = subst (λ (w : List (NestedRecord V S C E)). Replays c (map (moved g) w ++ others) z) at s in
        let same = step-one g c first.0 second.0 r q a b sound fine_r fine_q of_r of_q first.1 second.1 in
        let again : Goes (moved g r) c second.0 = subst (λ (w : NestedRecord V S C E). Goes (moved g w) c second.0) (sym same.0) second.1 in
        record {
          list = is ∙ (λ i. same.0 i ∷ []) ∙ sym at;
          answer = same.1;
          middle = first.0;
          first = first.2;
          second = Replays-from_alike first.0 second.0 others z (Goes-one tell_ids (moved g r) c first.0 second.0 first.1 again) second.2;
          sound = left-of-kinds kind relation state reply access a g c first.0 r of_r first.1 sound;
        }
