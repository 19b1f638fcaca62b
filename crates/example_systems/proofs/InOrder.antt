-- A dispatch of two systems in a plan is one step of the first and then one of the second.
use Rattle.std.proofs.Common.{◌≡◌, ◌≢◌, ℕ, ℤ, Bool, true, false, cond, ◌||◌, List, [], ◌∷◌, Option, Some, None, Ok, Contains, inl, inr, refl, sym, ◌∙◌, ap, subst}
use Rattle.std.proofs.Math.Path.{fun_ext}
use Rattle.std.specs.Prelude.{IfSome}
use Rattle.std.specs.List.{AllZip}
use Rattle.std.specs.Option.{option_map}
use Rattle.shred_model.specs.Access.{Access, Declares}
use Rattle.shred_model.specs.Plan.{PlanEntry, Plan, entry_at}
use Rattle.shred_model.specs.Record.{Agent}
use Rattle.shred_model.specs.Replay.{Configuration, Goes, Replays}
use Rattle.shred_model.proofs.Records.Membership.{is_declared}
use Rattle.shred_table.specs.Slots.{among}
use Rattle.shred_table.specs.declared.id.Kind.{Kind}
use Rattle.shred_table.specs.declared.id.ResourceId.{ResourceId}
use Rattle.shred_table.specs.declared.only.Only.{Only}
use Rattle.shred_table.proofs.Tables.Ids.{among-contains, among-false, tell_ids}
use Rattle.shred_world.specs.Worked.{Held}
use Rattle.shred_world.specs.declared.world.view.DataError.{DataError}
use Rattle.shred_run.specs.Alone.{IsStepOver}
use Rattle.shred_run.specs.Depths.{Related}
use Rattle.shred_run.specs.Dispatched.{Dispatched, Situation, configuration_in, occupants_of}
use Rattle.shred_run.specs.NestedRecords.{NestedRecord}
use Rattle.shred_run.specs.Occupants.{AgentState, of_system}
use Rattle.shred_run.specs.Steps.{Step, declared_of}
use Rattle.shred_run.specs.declared.work.Work.{Work}
use Rattle.shred_run.specs.declared.work.Work.TheVariants.{System}
use Rattle.shred_stage.specs.Situations.{dispatch_answer}
use Rattle.shred_stage.specs.Inserted.{IsInserted}
use Rattle.shred_stage.specs.Placement.{IsPlaced}
use Rattle.shred_stage.specs.declared.dispatch.rule.Rule.{Rule}
use Rattle.shred_stage.proofs.Planner.Earlier.{new_place-only}
use Rattle.shred_orders.specs.OneEnd.{own_access}
use Rattle.example_systems.specs.Numbers.{kind_of, number_id, number_value}
use Rattle.example_systems.specs.TwoSystems.{AreLeftAtTwo, HasInOrder, HasListsOf, five_and_zero}
use Rattle.shred_orders.specs.EntryPaths.{entries_with_paths}
use Rattle.example_systems.proofs.Placed.{alone, behind, first_path}
use Rattle.shred_orders.proofs.DoneSteps.{Found, IsDoneAt, RunAlone, plan-done, system-alone}
use Rattle.example_systems.proofs.Standing.{HaveThreeNumbers, stands-there, state-there, three-numbers}

-- what is seen of a declared id
shown : {V : Type 0} (access : Access ResourceId) (values : Held V) (id : ResourceId) → Declares access id → declared_of access values id ≡ values id
shown access values id (inl r) = ap (λ (t : Bool). cond (t || among access.writes id) (values id) None) (among-contains access.reads id r)
shown access values id (inr w) = ap (λ (t : Bool). cond (among access.reads id || t) (values id) None) (among-contains access.writes id w) ∙ ap (λ (t : Bool). cond t (values id) None) (or_true (among access.reads id)) where
  or_true : (t : Bool) → (t || true) ≡ true
  or_true true = refl
  or_true false = refl

-- nothing is seen of any other
hidden : {V : Type 0} (access : Access ResourceId) (values : Held V) (id : ResourceId) → (Declares access id → ⊥) → declared_of access values id ≡ None
hidden access values id out = rw (among-false access.reads id (λ r. out (inl r)), among-false access.writes id (λ w. out (inr w))) refl

-- a step in a plan is one over all that is held, under the lists of its system
module _ {V S C E : Type 0} (kind : V → Kind) (step : Step V S E) (reads writes : S → List ResourceId) (system : S) (found : Found) (lists : HasListsOf reads writes system found.1)
    (r : NestedRecord V S C E) (x y : Configuration Agent ResourceId V (AgentState S C)) (done : IsDoneAt kind step found r) (goes : Goes r x y) (before : r.before ≡ of_system system) where
  own : Access ResourceId
  own = own_access reads writes system

  to-own : (id : ResourceId) → Declares r.access id → Declares own id
  unfolding own
  to-own id (inl d) = inl ((lists.same_reads id).0 (subst (λ (a : Access ResourceId). Contains a.reads id) done.declared d))
  to-own id (inr w) = inr (subst (λ (l : List ResourceId). Contains l id) lists.same_writes (subst (λ (a : Access ResourceId). Contains a.writes id) done.declared w))

  of-own : (id : ResourceId) → Declares own id → Declares r.access id
  unfolding own
  of-own id (inl d) = inl (subst (λ (a : Access ResourceId). Contains a.reads id) (sym done.declared) ((lists.same_reads id).1 d))
  of-own id (inr w) = inr (subst (λ (a : Access ResourceId). Contains a.writes id) (sym done.declared) (subst (λ (l : List ResourceId). Contains l id) (sym lists.same_writes) w))

  none-seen : (id : ResourceId) → (Declares own id → ⊥) → r.seen id ≡ None
  none-seen id out = done.sees_only id (λ d. out (to-own id (subst (λ (a : Access ResourceId). Declares a id) (sym done.declared) d)))

  seen : r.seen ≡ declared_of own x.values
  seen = fun_ext (λ id. elim (is_declared tell_ids own id) [
    | inl d ↦ sym (goes.finds id (of-own id d)) ∙ sym (shown own x.values id d)
    | inr out ↦ none-seen id out ∙ sym (hidden own x.values id out)
  ])

  left : r.left ≡ declared_of own y.values
  left = fun_ext (λ id. elim (is_declared tell_ids own id) [
    | inl d ↦ sym (goes.puts id (of-own id d)) ∙ sym (shown own y.values id d)
    | inr out ↦ done.frame id (λ w. out (to-own id (inr w))) ∙ none-seen id out ∙ sym (hidden own y.values id out)
  ])

  unwritten : (id : ResourceId) → among own.writes id ≡ false → Contains r.access.writes id → ⊥
  unfolding own
  unwritten id not w =
      let in_own : Contains (writes system) id = subst (λ (l : List ResourceId). Contains l id) lists.same_writes (subst (λ (a : Access ResourceId). Contains a.writes id) done.declared w) in
      let is : among (writes system) id ≡ true = among-contains (writes system) id in_own in
      let no : true ≡ false = sym is ∙ not in cc

  pub step-over : (new : S) × IsStepOver kind step (own_access reads writes system) system x.values (Ok tt) new y.values
  unfolding own
  step-over =
      let (old, new, was, is, lies) = done.lies in
      let same : of_system old ≡ of_system system = sym was ∙ before in
      let itself : old ≡ system = cc in (
        new,
        record {
          lies = subst (λ (h : Held V). step system (declared_of own x.values) (Ok tt) new h) left
              (subst (λ (h : Held V). step system h (Ok tt) new r.left) seen
              (subst (λ (s : S). step s r.seen (Ok tt) new r.left) itself lies));
          frame = λ id not. elim (is_declared tell_ids own id) [
            | inl d ↦ goes.puts id (of-own id d) ∙ done.frame id (unwritten id not) ∙ sym (goes.finds id (of-own id d))
            | inr out ↦ goes.other_values id (λ d. out (to-own id d))
          ];
          keeps_kinds = λ id. elim (is_declared tell_ids own id) [
            | inl d ↦ ap (option_map kind) (goes.puts id (of-own id d)) ∙ done.keeps_kinds id ∙ sym (ap (option_map kind) (goes.finds id (of-own id d)))
            | inr out ↦ ap (option_map kind) (goes.other_values id (λ d. out (to-own id d)))
          ];
        },
      )

module _ {S B : Type 0} (reads writes : S → List ResourceId) where
  -- two insertions into an empty plan give two entries in order
  pub in-order : {rule its_rule : Rule} (first second : S) (empty one both : Plan ResourceId) (before middle after : Agent → Option (Work S B)) (barrier start : ℕ) (dependencies others : List ℕ) (entry its_entry : PlanEntry ResourceId) → empty ≡ [] → IsInserted rule empty one before middle barrier dependencies entry (System first)
      → IsInserted its_rule one both middle after start others its_entry (System second) → HasListsOf reads writes first entry → HasListsOf reads writes second its_entry → HasInOrder reads writes first second both after
  in-order first second empty one both before middle after barrier start dependencies others entry its_entry none in_first in_second lists its_lists =
      let shape : one ≡ ((entry ∷ []) ∷ []) ∷ [] = alone barrier in_first.placed.start dependencies entry one (subst (λ (p : Plan ResourceId). IsPlaced p barrier in_first.placed.start dependencies entry one) none in_first.placed.placed) in
      let put = behind start in_second.placed.start others entry its_entry both (subst (λ (p : Plan ResourceId). IsPlaced p start in_second.placed.start others its_entry both) shape in_second.placed.placed) in
      let at_first : in_first.added.place ≡ first_path = new_place-only in_first.added.place first_path (entry_at empty) (entry_at one) entry entry in_first.added.entry_is_new (ap (λ (p : Plan ResourceId). entry_at p first_path) none) (ap (λ (p : Plan ResourceId). entry_at p first_path) shape) in
      let at_second : in_second.added.place ≡ put.path = new_place-only in_second.added.place put.path (entry_at one) (entry_at both) its_entry its_entry in_second.added.entry_is_new (ap (λ (p : Plan ResourceId). entry_at p put.path) shape ∙ put.was_free) put.stands in
      record {
        path = first_path;
        entry = entry;
        its_path = put.path;
        its_entry = its_entry;
        order = put.order;
        apart = put.elsewhere;
        stands = in_second.added.system_is_new.others first_path (λ e. put.elsewhere (e ∙ at_second)) ∙ ap middle (sym at_first) ∙ in_first.added.system_is_new.stands;
        its_stands = ap after (sym at_second) ∙ in_second.added.system_is_new.stands;
        lists = lists;
        its_lists = its_lists;
      }

module _ {S C : Type 0} (related : Related (Only ℤ) S C DataError) (step : Step (Only ℤ) S DataError) (in_step : (old : S) (seen : Held (Only ℤ)) (new : S) (left : Held (Only ℤ)) → related.steps old seen (Ok tt) new left → step old seen (Ok tt) new left) (reads writes : S → List ResourceId) (first second : S) (before after : Situation (Only ℤ) S C) (ordered : HasInOrder reads writes first second before.plan before.works) (number : ℤ)
    (held : before.values ≡ five_and_zero) (ends : after.values (number_id 2) ≡ Some (number_value number)) where
  abbrev found : Found
  found = (ordered.path, ordered.entry)

  abbrev its_found : Found
  its_found = (ordered.its_path, ordered.its_entry)

  long : HaveThreeNumbers (found ∷ its_found ∷ [])
  long = subst HaveThreeNumbers ordered.order (three-numbers before.plan)

  systems : RunAlone kind_of related (occupants_of before) (entries_with_paths before.plan)
  systems = subst (RunAlone kind_of related (occupants_of before)) (sym ordered.order) (system-alone kind_of related _ (stands-there before.works first ordered.path long.0 ordered.stands), (system-alone kind_of related _ (stands-there before.works second ordered.its_path long.1.0 ordered.its_stands), tt))

  two-steps : (list : List (NestedRecord (Only ℤ) S C DataError)) → AllZip (IsDoneAt kind_of related.steps) (found ∷ its_found ∷ []) list → Replays (configuration_in before) list (configuration_in after) → AreLeftAtTwo step reads writes first second number
  two-steps [] done goes = absurd done
  two-steps (r ∷ []) done goes = absurd done.1
  two-steps (r ∷ q ∷ (p ∷ list)) done goes = absurd done.1.1
  two-steps (r ∷ q ∷ []) (at_r, (at_q, end)) (middle, goes_r, (last, goes_q, like)) =
      let found_r : Some r.before ≡ Some (of_system first) = sym goes_r.finds_state ∙ ap (configuration_in before).states at_r.agent ∙ state-there before.works first ordered.path long.0 ordered.stands in
      let before_r : r.before ≡ of_system first = cc in
      let apart : q.agent ≢ r.agent = (λ e. ordered.apart (sym at_r.agent ∙ sym e ∙ at_q.agent)) in
      let found_q : Some q.before ≡ Some (of_system second) = sym goes_q.finds_state ∙ goes_r.other_states q.agent apart ∙ ap (configuration_in before).states at_q.agent ∙ state-there before.works second ordered.its_path long.1.0 ordered.its_stands in
      let before_q : q.before ≡ of_system second = cc in
      let (new, ran) = step-over kind_of related.steps reads writes first found ordered.lists r (configuration_in before) middle at_r goes_r before_r in
      let (its_new, its_run) = step-over kind_of related.steps reads writes second its_found ordered.its_lists q middle last at_q goes_q before_q in
      record {
        after = new;
        middle = middle.values;
        its_after = its_new;
        last = last.values;
        ran = subst (λ (h : Held (Only ℤ)). IsStepOver kind_of step (own_access reads writes first) first h (Ok tt) new middle.values) held (record { lies = in_step _ _ _ _ ran.lies; frame = ran.frame; keeps_kinds = ran.keeps_kinds });
        its_run = record { lies = in_step _ _ _ _ its_run.lies; frame = its_run.frame; keeps_kinds = its_run.keeps_kinds };
        left = sym (like.values (number_id 2)) ∙ ends;
      }

  -- what a dispatch that is Done leaves at place 2, two steps of the systems leave there
  pub left-at-two : Dispatched kind_of related dispatch_answer before (Ok tt) after → AreLeftAtTwo step reads writes first second number
  left-at-two ran =
      let (depth, run) = ran.run in
      two-steps ran.list (subst (λ (es : List Found). AllZip (IsDoneAt kind_of related.steps) es ran.list) ordered.order (plan-done kind_of related depth (occupants_of before) before.plan ran.list run systems)) ran.replays

-- what is said of a number under each value that may be held, where it is the one
pub of-removed : (P : ℤ → Type 0) (removed : Option ℤ) (held : Option (Only ℤ)) → option_map number_value removed ≡ held → ((number : ℤ) → held ≡ Some (number_value number) → P number) → IfSome removed P
of-removed P (Some number) held is says = says number (sym is)
of-removed P None held is says = tt
