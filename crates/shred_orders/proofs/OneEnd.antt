-- Two dispatches from one place end the same, where all relations allow one end and no memory was wanting.
use Rattle.std.proofs.Common.{◌≡◌, ◌≢◌, ℕ, suc, List, [], ◌∷◌, ◌++◌, map, Ok, Err, Result, All, refl, sym, ◌∙◌, ap, subst}
use Rattle.std.proofs.Math.Path.{fun_ext}
use Rattle.std.specs.Prelude.{MatchResult}
use Rattle.std.specs.List.{AllByRecursion}
use Rattle.std.proofs.lemmas.List.Elements.{recursion_from_All}
use Rattle.shred_model.specs.InTurn.{InTurn}
use Rattle.shred_model.proofs.Records.Framed.{AllByRecursion-weaker}
use Rattle.shred_model.specs.Plan as model
use Rattle.shred_model.specs.Record.{Agent}
use Rattle.shred_model.specs.Replay.{Configuration, AreAlike, Replays}
use Rattle.shred_model.specs.Runs.{Answer}
use Rattle.shred_table.specs.declared.id.Kind.{Kind}
use Rattle.shred_table.specs.declared.id.ResourceId.{ResourceId}
use Rattle.shred_world.specs.Worked.{Held}
use Rattle.shred_run.specs.declared.entry.StageFault.{StageFault}
use Rattle.shred_run.specs.declared.entry.StageFault.TheVariants.{System, Memory}
use Rattle.shred_run.specs.declared.system.Fault.{Fault}
use Rattle.shred_run.specs.declared.system.Fault.TheVariants.{OutOfMemory}
use Rattle.shred_run.specs.Controls.{Control}
use Rattle.shred_run.specs.Depths.{Declared, Related}
use Rattle.shred_run.specs.Dispatched.{configuration_in, occupants_of}
use Rattle.shred_run.specs.NestedRecords.{NestedRecord, again, bound, done}
use Rattle.shred_run.specs.NestedRuns.{NestedPlanRun, NestedRun}
use Rattle.shred_run.specs.Occupants.{AgentState, Occupants, of_controller, of_system}
use Rattle.shred_run.specs.Steps.{Outcome, Step}
use Rattle.shred_stage.specs.declared.dispatch.dispatch_error.DispatchError.{DispatchError}
use Rattle.shred_stage.specs.Situations.{dispatch_answer}
use Rattle.shred.specs.LocalRuns.{LocalRun, LocalsRun, local_answer}
use Rattle.shred.specs.FullRuns.{FullyDispatched, Whole}
use Rattle.shred_orders.specs.OneEnd.{AllowOneEnd, AreOfKinds, HadMemory, IsDeterministic, IsDeterministicLocal, IsDone, IsNotOutOfMemory, IsSameButThreads, SameEnd, TellsNoLocalWant}
use Rattle.shred_orders.proofs.Done.{plan_done}
use Rattle.shred_orders.proofs.OneRun.{nested-one, plan-one}
use Rattle.shred_orders.proofs.OneStep.{EndsIn, HasOwnLists, IsFine, step-run-one}
use Rattle.shred_orders.proofs.OwnRecords.{KeepDeclared, OwnsAt, PlanOwns, own-records}
use Rattle.shred_orders.proofs.SameRuns.{EachFine, moved}

as_joined : {V S C E : Type 0} (list : List (NestedRecord V S C E)) → list ≡ map (moved (λ a. a)) list ++ []
as_joined [] = refl
as_joined (r ∷ list) = ap (λ l. r ∷ l) (as_joined list)

module _ {V S C E : Type 0} (kind : V → Kind) (related : Related V S C E) (declared : Declared S C) (Admitted : Fault E → Type 0)
    (steps : IsDeterministic kind related.steps declared.reads declared.writes (EndsIn Admitted)) (begins : IsDeterministic kind related.begins declared.control_reads declared.control_writes (EndsIn Admitted)) (asks : IsDeterministic kind related.asks declared.control_reads declared.control_writes (EndsIn Admitted)) where
  -- two runs of a plan from one place, of fine records, answer the same and lead to one place
  pub runs-one : {F : Type 0} (answers : ℕ → Answer (StageFault E) → Answer F) (depth other : ℕ) (occupants : Occupants) (plan : model.Plan ResourceId) (c y z : Configuration Agent ResourceId V (AgentState S C)) (l m : List (NestedRecord V S C E)) (a b : Answer F) → AreOfKinds kind c.values
      → EachFine (IsFine declared Admitted) l → EachFine (IsFine declared Admitted) m → NestedPlanRun (NestedRun kind related depth) answers occupants plan l a → NestedPlanRun (NestedRun kind related other) answers occupants plan m b → Replays c l y → Replays c m z → (a ≡ b) × AreAlike y z
  runs-one answers depth other occupants plan c y z l m a b sound fl fm run its p q =
      let own = nested-one (AreOfKinds kind) (IsFine declared Admitted) kind related
      (λ access. step-run-one kind related.steps of_system (λ ended. done) access declared.reads declared.writes declared Admitted (λ x y e. cc) (λ x h. h) steps)
      (λ access. step-run-one kind related.begins of_controller bound access declared.control_reads declared.control_writes declared Admitted (λ x y e. cc) (λ x h. h) begins)
      (λ access. step-run-one kind related.asks of_controller again access declared.control_reads declared.control_writes declared Admitted (λ x y e. cc) (λ x h. h) asks) depth other in
      let same = plan-one (AreOfKinds kind) (IsFine declared Admitted) (NestedRun kind related depth) (NestedRun kind related other) own answers occupants plan (λ w. w) c y z l m [] [] a b sound fl fm run its
      (subst (λ (w : List (NestedRecord V S C E)). Replays c w y) (as_joined l) p) (subst (λ (w : List (NestedRecord V S C E)). Replays c w z) (as_joined m) q) in
      (same.answer, record { values = λ id. same.second.values id ∙ sym (same.first.values id); states = λ w. same.second.states w ∙ sym (same.first.states w) })

-- two calls on an element, from one sound place, with answers that are fine, end the same, at a sound place
abbrev HasOneTurn : {X H F : Type 0} → (H → Type 0) → (ℕ → X → H → Answer F → X → H → Type 0) → (Answer F → Type 0) → X → Type 0
HasOneTurn {X} {H} {F} Sound Own Fine x = (n : ℕ) (h : H) (a : Answer F) (y : X) (k : H) (b : Answer F) (z : X) (l : H) → Sound h → Fine a → Fine b → Own n x h a y k → Own n x h b z l → (b ≡ a) × (z ≡ y) × (l ≡ k) × Sound k

module _ {X H F : Type 0} (Sound : H → Type 0) (Own : ℕ → X → H → Answer F → X → H → Type 0) (Fine : Answer F → Type 0) (fine : Fine (Ok tt)) where
  turns-one : (n : ℕ) (xs : List X) (h : H) (a : Answer F) (ys : List X) (k : H) (b : Answer F) (zs : List X) (l : H) → Sound h → AllByRecursion (HasOneTurn Sound Own Fine) xs → Fine a → Fine b → InTurn Own n xs h a ys k → InTurn Own n xs h b zs l → (b ≡ a) × (zs ≡ ys) × (l ≡ k)
  turns-one n [] h a [] k b [] l sound one fa fb turns other = (other.0 ∙ sym turns.0, refl, other.1 ∙ sym turns.1)
  turns-one n [] h a (y ∷ ys) k b zs l sound one fa fb turns other = absurd turns
  turns-one n [] h a [] k b (z ∷ zs) l sound one fa fb turns other = absurd other
  turns-one n (x ∷ xs) h a [] k b zs l sound one fa fb turns other = absurd turns
  turns-one n (x ∷ xs) h a (y ∷ ys) k b [] l sound one fa fb turns other = absurd other
  turns-one n (x ∷ xs) h a (y ∷ ys) k b (z ∷ zs) l sound one fa fb (Ok d, m, own, rest) (Ok e, p, its, left) =
      let here = one.0 n h (Ok d) y m (Ok e) z p sound fine fine own its in
      let there = turns-one (suc n) xs m a ys k b zs l here.3 one.1 fa fb rest (subst (λ (w : H). InTurn Own (suc n) xs w b zs l) here.2 left) in
      (there.0, (λ i. here.1 i ∷ there.1 i), there.2)
  turns-one n (x ∷ xs) h a (y ∷ ys) k b (z ∷ zs) l sound one fa fb (Ok d, m, own, rest) (Err e, p, its, left) =
      absurd (let no = (one.0 n h (Ok d) y m (Err e) z p sound fine (subst Fine left.2 fb) own its).0 in cc)
  turns-one n (x ∷ xs) h a (y ∷ ys) k b (z ∷ zs) l sound one fa fb (Err d, m, own, rest) (Ok e, p, its, left) =
      absurd (let no = (one.0 n h (Err d) y m (Ok e) z p sound (subst Fine rest.2 fa) fine own its).0 in cc)
  turns-one n (x ∷ xs) h a (y ∷ ys) k b (z ∷ zs) l sound one fa fb (Err d, m, own, rest) (Err e, p, its, left) =
      let here = one.0 n h (Err d) y m (Err e) z p sound (subst Fine rest.2 fa) (subst Fine left.2 fb) own its in
      (left.2 ∙ here.0 ∙ sym rest.2, (λ i. here.1 i ∷ (left.0 ∙ sym rest.0) i), left.1 ∙ here.2 ∙ sym rest.1)

-- what comes after the plan's run in a full run
abbrev Later : {V L E : Type 0} → (V → Kind) → Step V L E → Answer (DispatchError E) → Held V → List L → Answer (DispatchError E) → List L → Held V → Type 0
Later kind runs of_plan middle before answer after values = MatchResult of_plan (λ ended. LocalsRun kind runs before middle answer after values) (λ error. (after ≡ before) × (values ≡ middle) × (answer ≡ Err error))

module _ {V L E : Type 0} (kind : V → Kind) (runs : Step V L E) (Admitted : Outcome E → Type 0) (Fine : Answer (DispatchError E) → Type 0) (fine : Fine (Ok tt)) (admits : (n : ℕ) (o : Outcome E) → Fine (local_answer n o) → Admitted o) where
  local-one : (x : L) → IsDeterministicLocal kind runs Admitted x → HasOneTurn (AreOfKinds kind) (LocalRun kind runs) Fine x
  local-one x one n h a y k b z l sound fa fb (o, run, kept, is_a) (p, other, keeps, is_b) =
      let end = one h o p y z k l sound (admits n o (subst Fine is_a fa)) (admits n p (subst Fine is_b fb)) run kept other keeps in
      (is_b ∙ ap (local_answer n) end.0 ∙ sym is_a, end.1, end.2, λ id w e. sound id w (sym (kept id) ∙ e))

  locals-one : (xs : List L) → AllByRecursion (IsDeterministicLocal kind runs Admitted) xs → AllByRecursion (HasOneTurn (AreOfKinds kind) (LocalRun kind runs) Fine) xs
  locals-one [] one = tt
  locals-one (x ∷ xs) one = (local-one x one.0, locals-one xs one.1)

  planned : (of_plan : Answer (DispatchError E)) (middle : Held V) (before : List L) (a : Answer (DispatchError E)) (after : List L) (values : Held V) → Fine a → Later kind runs of_plan middle before a after values → Fine of_plan
  planned (Ok ended) middle before a after values h later = fine
  planned (Err error) middle before a after values h later = subst Fine later.2 h

  later-one : (of_plan : Answer (DispatchError E)) (middle : Held V) (before : List L) (a : Answer (DispatchError E)) (after : List L) (values : Held V) (b : Answer (DispatchError E)) (end : List L) (held : Held V) → AreOfKinds kind middle → AllByRecursion (IsDeterministicLocal kind runs Admitted) before → Fine a → Fine b
      → Later kind runs of_plan middle before a after values → Later kind runs of_plan middle before b end held → (b ≡ a) × (end ≡ after) × (held ≡ values)
  later-one (Ok ended) middle before a after values b end held sound one fa fb later other = turns-one (AreOfKinds kind) (LocalRun kind runs) Fine fine 0 before middle a after values b end held sound (locals-one before one) fa fb later other
  later-one (Err error) middle before a after values b end held sound one fa fb later other = (other.2 ∙ sym later.2, other.0 ∙ sym later.0, other.1 ∙ sym later.1)

module _ {A E : Type 0} where
  no-want : (o : Result A (Fault E)) → IsNotOutOfMemory o → EndsIn (λ fault. fault ≢ OutOfMemory) o
  no-want (Ok x) h = tt
  no-want (Err fault) h = λ e. h (ap Err e)

  wants-none : (o : Result A (Fault E)) → EndsIn (λ fault. fault ≢ OutOfMemory) o → IsNotOutOfMemory o
  wants-none (Ok x) h = λ e. cc
  wants-none (Err fault) h = λ e. h cc

  no-fault : (o : Result A (Fault E)) → IsDone o → EndsIn (λ fault. ⊥) o
  no-fault (Ok x) h = tt
  no-fault (Err fault) (x, e) = absurd (cc)

  faults-none : (o : Result A (Fault E)) → EndsIn (λ fault. ⊥) o → IsDone o
  faults-none (Ok x) h = (x, refl)
  faults-none (Err fault) h = absurd h

-- where fewer outcomes are admitted, one end is allowed too
admitting-fewer : {V X A E : Type 0} (kind : V → Kind) (relation : Control V X A E) (reads writes : X → List ResourceId) (Fewer Admitted : Result A (Fault E) → Type 0) → ((o : Result A (Fault E)) → Fewer o → Admitted o) → IsDeterministic kind relation reads writes Admitted → IsDeterministic kind relation reads writes Fewer
admitting-fewer kind relation reads writes Fewer Admitted fewer one r q of_r of_q before seen sound fine_r fine_q = one r q of_r of_q before seen sound (fewer r.outcome fine_r) (fewer q.outcome fine_q)

done-stage : {E : Type 0} (n : ℕ) (a : Answer (StageFault E)) → dispatch_answer n a ≡ Ok tt → a ≡ Ok tt
done-stage n (Ok ended) e = refl
done-stage n (Err (System id fault)) e = absurd (cc)
done-stage n (Err Memory) e = absurd (cc)

-- a thread-local system whose answer tells of no want was not refused for memory
tells-no-local : {E : Type 0} (n : ℕ) (o : Outcome E) → TellsNoLocalWant (local_answer n o) → IsNotOutOfMemory o
tells-no-local n o h e = h n (ap (local_answer n) e)

done-local : {E : Type 0} (n : ℕ) (o : Outcome E) → local_answer n o ≡ Ok tt → IsDone o
done-local n (Ok ended) e = (tt, refl)
done-local n (Err fault) e = absurd (cc)

module _ {V S C L E : Type 0} (kind : V → Kind) (related : Related V S C E) (declared : Declared S C) (runs : Step V L E) (before other after end : Whole V S C L) (answer its : Answer (DispatchError E)) (same : IsSameButThreads before other)
    (ran : FullyDispatched kind related runs before answer after) (too : FullyDispatched kind related runs other its end) (keep : KeepDeclared related declared) (sound : AreOfKinds kind before.staged.values)
    (owns : (depth : ℕ) → PlanOwns declared (OwnsAt declared depth) (occupants_of before.staged) (configuration_in before.staged).states before.staged.plan) where
  -- a plan, what stands in it, and a configuration
  abbrev Start : Type 0
  Start = model.Plan ResourceId × Occupants × Configuration Agent ResourceId V (AgentState S C)

  abbrev start_of : Whole V S C L → Start
  start_of whole = (whole.staged.plan, occupants_of whole.staged, configuration_in whole.staged)

  same_start : start_of other ≡ start_of before
  same_start i = (same.plan i, same.occupants i, same.configuration i)

  own-first : AllByRecursion (λ r. HasOwnLists declared r.before r.access) ran.dispatched.list
  own-first = own-records declared kind related keep dispatch_answer ran.dispatched.run.0 (occupants_of before.staged) before.staged.plan ran.dispatched.list ran.of_plan (configuration_in before.staged) (configuration_in (record after.staged { values = ran.middle })) (owns ran.dispatched.run.0) ran.dispatched.run.1 ran.dispatched.replays

  replays-too : Replays (configuration_in before.staged) too.dispatched.list (configuration_in (record end.staged { values = too.middle }))
  replays-too = subst (λ (start : Start). Replays start.2 too.dispatched.list (configuration_in (record end.staged { values = too.middle }))) same_start too.dispatched.replays

  own-second : AllByRecursion (λ r. HasOwnLists declared r.before r.access) too.dispatched.list
  own-second = own-records declared kind related keep dispatch_answer too.dispatched.run.0 (occupants_of before.staged) before.staged.plan too.dispatched.list too.of_plan (configuration_in before.staged) (configuration_in (record end.staged { values = too.middle })) (owns too.dispatched.run.0)
      (subst (λ (start : Start). NestedPlanRun (NestedRun kind related too.dispatched.run.0) dispatch_answer start.1 start.0 too.dispatched.list too.of_plan) same_start too.dispatched.run.1) replays-too

  module _ (Admitted : Fault E → Type 0) (Ends : Outcome E → Type 0) (Fine : Answer (DispatchError E) → Type 0) (fine : Fine (Ok tt)) (admits : (n : ℕ) (o : Outcome E) → Fine (local_answer n o) → Ends o)
      (steps : IsDeterministic kind related.steps declared.reads declared.writes (EndsIn Admitted)) (begins : IsDeterministic kind related.begins declared.control_reads declared.control_writes (EndsIn Admitted)) (asks : IsDeterministic kind related.asks declared.control_reads declared.control_writes (EndsIn Admitted)) where
    fine-records : (list : List (NestedRecord V S C E)) → AllByRecursion (λ r. HasOwnLists declared r.before r.access) list → AllByRecursion (λ r. EndsIn Admitted r.outcome) list → EachFine (IsFine declared Admitted) list
    fine-records [] own ends = tt
    fine-records (r ∷ list) own ends = ((own.0, ends.0), fine-records list own.1 ends.1)

    -- Two full runs from one place end the same, whatever their threads, where each outcome is admitted.
    full-run-deterministic : AllByRecursion (IsDeterministicLocal kind runs Ends) before.locals → Fine answer → Fine its
        → AllByRecursion (λ r. EndsIn Admitted r.outcome) ran.dispatched.list → AllByRecursion (λ r. EndsIn Admitted r.outcome) too.dispatched.list → SameEnd answer its after end
    full-run-deterministic one_local fa fb ends its_ends =
        let run = ran.dispatched.run in
        let its_run = too.dispatched.run in
        let plans = runs-one kind related declared Admitted steps begins asks dispatch_answer run.0 its_run.0 (occupants_of before.staged) before.staged.plan (configuration_in before.staged) (configuration_in (record after.staged { values = ran.middle })) (configuration_in (record end.staged { values = too.middle }))
        ran.dispatched.list too.dispatched.list ran.of_plan too.of_plan sound (fine-records ran.dispatched.list own-first ends) (fine-records too.dispatched.list own-second its_ends) run.1
        (subst (λ (start : Start). NestedPlanRun (NestedRun kind related its_run.0) dispatch_answer start.1 start.0 too.dispatched.list too.of_plan) same_start its_run.1) ran.dispatched.replays replays-too in
        let middles : too.middle ≡ ran.middle = fun_ext plans.1.values in
        let states = fun_ext plans.1.states in
        let later : Later kind runs ran.of_plan ran.middle before.locals its end.locals end.staged.values =
        subst (λ (l : List L). Later kind runs ran.of_plan ran.middle l its end.locals end.staged.values) same.locals
        (subst (λ (h : Held V). Later kind runs ran.of_plan h other.locals its end.locals end.staged.values) middles
        (subst (λ (o : Answer (DispatchError E)). Later kind runs o too.middle other.locals its end.locals end.staged.values) (sym plans.0) too.locals)) in
        let ends = later-one kind runs Ends Fine fine admits ran.of_plan ran.middle before.locals answer after.locals after.staged.values its end.locals end.staged.values (λ id k e. sound id k (sym (ran.dispatched.kinds id) ∙ e)) one_local fa fb ran.locals later in
        record {
          same_answer = ends.0;
          same_whole = record {
            plan = too.dispatched.plan ∙ same.plan ∙ sym ran.dispatched.plan;
            occupants = fun_ext (λ path. too.dispatched.occupants path ∙ (λ i. same.occupants i path) ∙ sym (ran.dispatched.occupants path));
            configuration = λ i. record { values = ends.2 i; states = states i };
            locals = ends.1;
          };
        }

  -- two full runs in which no memory was wanting
  pub full-run-alike : AllowOneEnd kind related declared (λ A. IsNotOutOfMemory {A = A}) → All (IsDeterministicLocal kind runs IsNotOutOfMemory) before.locals → HadMemory ran.dispatched.list answer → HadMemory too.dispatched.list its → SameEnd answer its after end
  full-run-alike one one_local had had_too = full-run-deterministic (λ fault. fault ≢ OutOfMemory) IsNotOutOfMemory TellsNoLocalWant (λ index e. cc) tells-no-local
      (admitting-fewer kind related.steps declared.reads declared.writes (EndsIn (λ fault. fault ≢ OutOfMemory)) IsNotOutOfMemory wants-none one.steps)
      (admitting-fewer kind related.begins declared.control_reads declared.control_writes (EndsIn (λ fault. fault ≢ OutOfMemory)) IsNotOutOfMemory wants-none one.begins)
      (admitting-fewer kind related.asks declared.control_reads declared.control_writes (EndsIn (λ fault. fault ≢ OutOfMemory)) IsNotOutOfMemory wants-none one.asks)
      (recursion_from_All (IsDeterministicLocal kind runs IsNotOutOfMemory) before.locals one_local) had.told had_too.told (ended ran.dispatched.list had.steps) (ended too.dispatched.list had_too.steps) where
        ended : (list : List (NestedRecord V S C E)) → All (λ r. IsNotOutOfMemory r.outcome) list → AllByRecursion (λ r. EndsIn (λ fault. fault ≢ OutOfMemory) r.outcome) list
        ended list all = AllByRecursion-weaker (λ (r : NestedRecord V S C E). IsNotOutOfMemory r.outcome) (λ r. EndsIn (λ fault. fault ≢ OutOfMemory) r.outcome) (λ r h. no-want r.outcome h) list (recursion_from_All (λ (r : NestedRecord V S C E). IsNotOutOfMemory r.outcome) list all)

  -- a full run that is Done is one in which no outcome is a fault
  ran-done : (start : Whole V S C L) (told : Answer (DispatchError E)) (last : Whole V S C L) (full : FullyDispatched kind related runs start told last) → told ≡ Ok tt → AllByRecursion (λ r. EndsIn (λ fault. ⊥) r.outcome) full.dispatched.list
  ran-done start told last full is =
      let ok : full.of_plan ≡ Ok tt = planned kind runs IsDone (λ (a : Answer (DispatchError E)). a ≡ Ok tt) refl done-local full.of_plan full.middle start.locals told last.locals last.staged.values is full.locals in
      let all = plan_done kind related dispatch_answer done-stage full.dispatched.run.0 (occupants_of start.staged) start.staged.plan full.dispatched.list
      (subst (λ (a : Answer (DispatchError E)). NestedPlanRun (NestedRun kind related full.dispatched.run.0) dispatch_answer (occupants_of start.staged) start.staged.plan full.dispatched.list a) ok full.dispatched.run.1) in
      AllByRecursion-weaker (λ (r : NestedRecord V S C E). IsDone r.outcome) (λ r. EndsIn (λ fault. ⊥) r.outcome) (λ r h. no-fault r.outcome h) full.dispatched.list all

  -- two full runs that are Done
  pub full-run-alike-done : AllowOneEnd kind related declared (λ A. IsDone {A = A}) → All (IsDeterministicLocal kind runs IsDone) before.locals → answer ≡ Ok tt → its ≡ Ok tt → SameEnd answer its after end
  full-run-alike-done one one_local is its_is =
      let first = ran-done before answer after ran is in
      let second = ran-done other its end too its_is in
      full-run-deterministic (λ fault. ⊥) IsDone (λ (a : Answer (DispatchError E)). a ≡ Ok tt) refl done-local
      (admitting-fewer kind related.steps declared.reads declared.writes (EndsIn (λ fault. ⊥)) IsDone faults-none one.steps)
      (admitting-fewer kind related.begins declared.control_reads declared.control_writes (EndsIn (λ fault. ⊥)) IsDone faults-none one.begins)
      (admitting-fewer kind related.asks declared.control_reads declared.control_writes (EndsIn (λ fault. ⊥)) IsDone faults-none one.asks)
      (recursion_from_All (IsDeterministicLocal kind runs IsDone) before.locals one_local) is its_is first second
