-- Which systems are deterministic: those whose steps are functions, and those made of deterministic ones, as one that runs alone, a plain one and one of two.
use Rattle.std.proofs.Common.{◌≡◌, Bool, true, false, cond, ◌||◌, List, [], Option, None, Err, Result, inl, inr, refl, sym, ◌∙◌, ap, subst}
use Rattle.std.proofs.Math.Path.{fun_ext}
use Rattle.std.specs.Option.{option_map}
use Rattle.shred_model.specs.Access.{Access, Declares}
use Rattle.shred_table.specs.declared.id.Kind.{Kind}
use Rattle.shred_table.specs.declared.id.ResourceId.{ResourceId}
use Rattle.shred_table.specs.Slots.{among}
use Rattle.shred_table.proofs.Tables.Ids.{among-false}
use Rattle.shred_world.specs.Worked.{Held}
use Rattle.shred_model.specs.Record.{Agent, Record}
use Rattle.shred_run.specs.declared.system.Fault.{Fault}
use Rattle.shred_run.specs.declared.system.Fault.TheVariants.{OutOfMemory}
use Rattle.shred_run.specs.Controls.{Control, keeping}
use Rattle.shred_run.specs.Alone.{IsStepOver, StepsAlone}
use Rattle.shred_run.specs.Steps.{Outcome, Step, Written, declared_of}
use Rattle.shred_run.specs.declared.now.Now.{Now}
use Rattle.shred.specs.declared.one_of.OneOf.{OneOf}
use Rattle.shred.specs.declared.one_of.OneOf.TheVariants.{First, Second}
use Rattle.shred.specs.declared.plain.Plain.{Plain}
use Rattle.shred.specs.Made.{of_either, StepsEither}
use Rattle.shred_orders.specs.OneEnd.{AreOfKinds, EndSame, IsCall, IsDeterministic, IsDeterministicLocal, own_access}
use Rattle.shred_orders.proofs.OfKinds.{declared-of-kinds}

module _ {V : Type 0} (access : Access ResourceId) where
  shown : (values : Held V) (id : ResourceId) → among access.writes id ≡ true → declared_of access values id ≡ values id
  shown values id e = ap (λ (t : Bool). cond (among access.reads id || t) (values id) None) e ∙ ap (λ (t : Bool). cond t (values id) None) (or_true (among access.reads id)) where
    or_true : (t : Bool) → (t || true) ≡ true
    or_true true = refl
    or_true false = refl

  hidden : (values : Held V) (id : ResourceId) → (Declares access id → ⊥) → declared_of access values id ≡ None
  hidden values id out = rw (among-false access.reads id (λ r. out (inl r)), among-false access.writes id (λ w. out (inr w))) refl

  -- values that agree where they are declared, and are kept where they are not written, are the same
  same_values : (before left gone : Held V) → declared_of access gone ≡ declared_of access left → ((id : ResourceId) → among access.writes id ≡ false → left id ≡ before id) → ((id : ResourceId) → among access.writes id ≡ false → gone id ≡ before id) → (id : ResourceId) → gone id ≡ left id
  same_values before left gone same kept keeps id = by_writes (among access.writes id) refl where
    by_writes : (t : Bool) → among access.writes id ≡ t → gone id ≡ left id
    by_writes true e = sym (shown gone id e) ∙ (λ i. same i id) ∙ shown left id e
    by_writes false e = keeps id e ∙ sym (kept id e)

-- the record of a step over all that is held
over : {V S E : Type 0} → Access ResourceId → S → Held V → Outcome E → S → Held V → Written V S E
over access old before outcome new after = record { agent = []; access = access; before = old; seen = declared_of access before; outcome = outcome; after = new; left = declared_of access after }

over-step : {V S E : Type 0} (kind : V → Kind) (step : Step V S E) (access : Access ResourceId) (old : S) (before : Held V) (outcome : Outcome E) (new : S) (after : Held V) → IsStepOver kind step access old before outcome new after → IsCall kind step access (over access old before outcome new after)
unfolding over
over-step {V} kind step access old before outcome new after is = record {
  declared = refl;
  lies = is.lies;
  sees_only = hidden access before;
  keeps_kinds = λ id. kept id (among access.reads id || among access.writes id);
  frame = λ id out. ap (λ (v : Option V). cond (among access.reads id || among access.writes id) v None) (is.frame id (among-false access.writes id out));
} where
  kept : (id : ResourceId) (b : Bool) → option_map kind (cond b (after id) None) ≡ option_map kind (cond b (before id) None)
  kept id true = is.keeps_kinds id
  kept id false = refl

-- a system as a thread-local one is deterministic where it is so, among outcomes that are no want of memory
pub now-deterministic : {V S E : Type 0} (kind : V → Kind) (step : Step V S E) (reads writes : S → List ResourceId) (Admitted : Outcome E → Type 0) → (Admitted (Err OutOfMemory) → ⊥) → IsDeterministic kind step reads writes Admitted
    → (now : Now S) → IsDeterministicLocal kind (λ (before : Now S) held outcome (after : Now S) left. StepsAlone kind step reads writes before.0 held outcome after.0 left) Admitted now
unfolding over
now-deterministic kind step reads writes Admitted never one now held o p new other left gone sound admit_o admit_p (inl ran) kept (inl too) keeps =
    let access = own_access reads writes now.0 in
    let end = one (over access now.0 held o new.0 left) (over access now.0 held p other.0 gone) (over-step kind step access now.0 held o new.0 left ran.0) (over-step kind step access now.0 held p other.0 gone too.0) refl refl (declared-of-kinds kind access held sound) admit_o admit_p in
    (end.outcome, (λ i. record { 0 = end.after i }), fun_ext (same_values access held left gone end.left ran.0.frame too.0.frame))
now-deterministic kind step reads writes Admitted never one now held o p new other left gone sound admit_o admit_p (inr none) kept too keeps = absurd (never (subst Admitted none.told admit_o))
now-deterministic kind step reads writes Admitted never one now held o p new other left gone sound admit_o admit_p (inl ran) kept (inr none) keeps = absurd (never (subst Admitted none.told admit_p))

-- the record, with these states in place of its own
abbrev with_states : {V X S E : Type 0} → S → S → Written V X E → Written V S E
with_states before after r = record { agent = r.agent; access = r.access; before = before; seen = r.seen; outcome = r.outcome; after = after; left = r.left }

-- the system of a plain one is deterministic where that is
pub plain-deterministic : {V T E : Type 0} (kind : V → Kind) (step : Step V T E) (reads writes : T → List ResourceId) (Admitted : Outcome E → Type 0) → IsDeterministic kind step reads writes Admitted
    → IsDeterministic kind (λ (before : Plain T) seen outcome (after : Plain T) left. step before.0 seen outcome after.0 left) (λ (plain : Plain T). reads plain.0) (λ (plain : Plain T). writes plain.0) Admitted
plain-deterministic {V} {T} {E} kind step reads writes Admitted one r q of_r of_q before seen sound admit_r admit_q =
    let end = one (with_states r.before.0 r.after.0 r) (with_states q.before.0 q.after.0 q) (inside r of_r) (inside q of_q) (ap (λ (plain : Plain T). plain.0) before) seen sound admit_r admit_q in
    record { outcome = end.outcome; after = λ i. record { 0 = end.after i }; left = end.left } where
      inside : (r : Written V (Plain T) E) → IsCall kind (λ (before : Plain T) seen outcome (after : Plain T) left. step before.0 seen outcome after.0 left) (own_access reads writes r.before.0) r → IsCall kind step (own_access reads writes r.before.0) (with_states r.before.0 r.after.0 r)
      inside r is = record { declared = is.declared; lies = is.lies; sees_only = is.sees_only; keeps_kinds = is.keeps_kinds; frame = is.frame }

module _ {V A B E : Type 0} (kind : V → Kind) (first : Step V A E) (second : Step V B E) (reads writes : A → List ResourceId) (its_reads its_writes : B → List ResourceId) (Admitted : Outcome E → Type 0)
    (one : IsDeterministic kind first reads writes Admitted) (other : IsDeterministic kind second its_reads its_writes Admitted) where
  is_first : (r : Written V (OneOf A B) E) (b t : A) → IsCall kind (StepsEither first second) (own_access reads writes b) (with_states (First b) (First t) r) → IsCall kind first (own_access reads writes b) (with_states b t r)
  is_first r b t is = record { declared = is.declared; lies = is.lies; sees_only = is.sees_only; keeps_kinds = is.keeps_kinds; frame = is.frame }

  is_second : (r : Written V (OneOf A B) E) (b t : B) → IsCall kind (StepsEither first second) (own_access its_reads its_writes b) (with_states (Second b) (Second t) r) → IsCall kind second (own_access its_reads its_writes b) (with_states b t r)
  is_second r b t is = record { declared = is.declared; lies = is.lies; sees_only = is.sees_only; keeps_kinds = is.keeps_kinds; frame = is.frame }

  either : (r q : Written V (OneOf A B) E) (b c t u : OneOf A B) → IsCall kind (StepsEither first second) (own_access (of_either reads its_reads) (of_either writes its_writes) b) (with_states b t r) → IsCall kind (StepsEither first second) (own_access (of_either reads its_reads) (of_either writes its_writes) c) (with_states c u q)
      → c ≡ b → q.seen ≡ r.seen → AreOfKinds kind r.seen → Admitted r.outcome → Admitted q.outcome → EndSame (with_states b t r) (with_states c u q)
  either r q (First b) (First c) (First t) (First u) of_r of_q before seen sound admit_r admit_q =
      let end = one (with_states b t r) (with_states c u q) (is_first r b t of_r) (is_first q c u of_q) (let e : c ≡ b = cc in e) seen sound admit_r admit_q in
      record { outcome = end.outcome; after = λ i. First (end.after i); left = end.left }
  either r q (Second b) (Second c) (Second t) (Second u) of_r of_q before seen sound admit_r admit_q =
      let end = other (with_states b t r) (with_states c u q) (is_second r b t of_r) (is_second q c u of_q) (let e : c ≡ b = cc in e) seen sound admit_r admit_q in
      record { outcome = end.outcome; after = λ i. Second (end.after i); left = end.left }
  either r q (First b) c (Second t) u of_r of_q before seen sound admit_r admit_q = absurd of_r.lies
  either r q (Second b) c (First t) u of_r of_q before seen sound admit_r admit_q = absurd of_r.lies
  either r q b (First c) t (Second u) of_r of_q before seen sound admit_r admit_q = absurd of_q.lies
  either r q b (Second c) t (First u) of_r of_q before seen sound admit_r admit_q = absurd of_q.lies
  either r q (First b) (Second c) (First t) (Second u) of_r of_q before seen sound admit_r admit_q = absurd (cc)
  either r q (Second b) (First c) (Second t) (First u) of_r of_q before seen sound admit_r admit_q = absurd (cc)

-- where a relation allows one end, so it does where the lists stay too
pub keeping-deterministic : {V X A E : Type 0} (kind : V → Kind) (relation : Control V X A E) (reads writes : X → List ResourceId) (Admitted : Result A (Fault E) → Type 0) → IsDeterministic kind relation reads writes Admitted → IsDeterministic kind (keeping reads writes relation) reads writes Admitted
keeping-deterministic {V} {X} {A} {E} kind relation reads writes Admitted one r q of_r of_q before seen sound admit_r admit_q = one r q (inside r of_r) (inside q of_q) before seen sound admit_r admit_q where
  inside : (r : Record Agent ResourceId V X (Result A (Fault E))) → IsCall kind (keeping reads writes relation) (own_access reads writes r.before) r → IsCall kind relation (own_access reads writes r.before) r
  inside r is = record { declared = is.declared; lies = is.lies.0; sees_only = is.sees_only; keeps_kinds = is.keeps_kinds; frame = is.frame }
