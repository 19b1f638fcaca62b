-- Runs over the parts of a view that was parted and joined.
use Rattle.std.proofs.Common.{◌≡◌, ℕ, zero, suc, ◌<◌, Bool, true, false, ◌||◌, Option, None, cond, List, [], ◌∷◌, length, get_or, set, inl, refl, sym, ◌∙◌, ap, subst, arith, IsTrue}
use Rattle.std.specs.List.{All, AllZip}
use Rattle.std.specs.Option.{option_map}
use Rattle.shred_model.specs.Access.{Conflicts}
use Rattle.shred_model.specs.Runs.{first_fault}
use Rattle.shred_table.specs.declared.id.Kind.{Kind}
use Rattle.shred_table.specs.declared.id.ResourceId.{ResourceId}
use Rattle.shred_table.specs.declared.table.Table.{Table}
use Rattle.shred_table.specs.Parting.{emptied}
use Rattle.shred_table.specs.Parts as parts
use Rattle.shred_table.specs.Parts.{Pair, reads_of, writes_of, written_by, AreBeside, DoNotConflict, HasNothingOut, HoldsSameIds, IsHandOf, IsJoined}
use Rattle.shred_table.specs.Shown.{Lent, IsSameSlots}
use Rattle.shred_table.specs.Slots.{among, slot_at, slot_held}
use Rattle.shred_world.specs.declared.world.view.View.{View}
use Rattle.shred_world.specs.Beside.{ShowsDeclared, part_slot}
use Rattle.shred_world.specs.Views.{view_held, view_slot, lent_to, is_out, may_write, IsSameLoan}
use Rattle.shred_world.specs.Worked.{part_held}
use Rattle.shred_world.proofs.Parted.Beside.{same-again}
use Rattle.shred_world.proofs.Views.HeldKinds.{slot_held-same_kind}
use Rattle.shred_world.proofs.Views.Refusals.{written-own}
use Rattle.shred_run.specs.Steps.{Outcome, declared_of}
use Rattle.shred_trees.specs.Parted.{IsPairOf, IsPairList, ArePairsOf, OneRan, RanOverPart, TwoRan, WentBeside}
use Rattle.shred_trees.specs.Trees.{Trees, IsRun, tree_access}
use Rattle.shred_trees.proofs.Apart.{declares, either-true, conflicts-sym, not-declared}
use Rattle.shred_trees.proofs.Beside.{in-order, run-moved}

cond-twice : {X : Type 0} (b : Bool) (x : Option X) → cond b (cond b x None) None ≡ cond b x None
cond-twice true x = refl
cond-twice false x = refl

or_none : (a b : Bool) → a ≡ false → b ≡ false → (a || b) ≡ false
or_none a b x y = rw (x, y) refl

pair-declares : {V T E : Type 0} (trees : Trees V T E) (p : Pair) (a : T) → IsPairOf trees a p → (q : ResourceId) → parts.declares p q ≡ declares (tree_access trees a) q
pair-declares trees p a pair q = λ i. among (pair.reads i) q || among (pair.writes i) q

module _ {V T E : Type 0} (kind : V → Kind) (trees : Trees V T E) (behind : Lent V) (p : Pair) (a a' : T) (pair : IsPairOf trees a p) (x : Outcome E) where
  held-declared : (hand : Table V) → declared_of (tree_access trees a) (part_held kind behind p hand) ≡ part_held kind behind p hand
  held-declared hand = λ i q. (ap (λ (c : Bool). cond c (part_held kind behind p hand q) None) (sym (pair-declares trees p a pair q)) ∙ cond-twice (parts.declares p q) (slot_held kind q (part_slot behind p hand q))) i

  kinds-over : (hand left : Table V) → HoldsSameIds kind hand left → (q : ResourceId) (w d : Bool)
      → option_map kind (cond d (slot_held kind q (cond w (slot_at left q) (behind q))) None) ≡ option_map kind (cond d (slot_held kind q (cond w (slot_at hand q) (behind q))) None)
  kinds-over hand left same q true true = slot_held-same_kind kind q (slot_at left q) (slot_at hand q) (same q)
  kinds-over hand left same q true false = refl
  kinds-over hand left same q false true = refl
  kinds-over hand left same q false false = refl

  -- a run over a part is a run over what the part shows
  pub part-run : (hand left : Table V) → RanOverPart kind trees behind p a hand x a' left → IsRun kind trees a (part_held kind behind p hand) x a' (part_held kind behind p left)
  part-run hand left ran = record {
    lies = subst (λ s. trees.runs a s x a' (declared_of (tree_access trees a) (part_held kind behind p left))) (sym (held-declared hand))
        (subst (λ l. trees.runs a (part_held kind behind p hand) x a' l) (sym (held-declared left)) ran.lies);
    frame = λ q out. ran.frame q (ap (λ (ids : List ResourceId). among ids q) pair.writes ∙ out);
    keeps_kinds = λ q. kinds-over hand left ran.ids q (among (writes_of p) q) (parts.declares p q);
    same_reads = ran.same_reads;
    same_writes = ran.same_writes;
  }

module _ {V T E : Type 0} (kind : V → Kind) (trees : Trees V T E) (was now new : View V) (one : IsSameLoan was now) (two : IsSameLoan now new) where
  module _ (p : Pair) (a : T) (pair : IsPairOf trees a p) where
    -- what the tree declares, its part shows as the view did
    pub part-sees : (hand : Table V) → ShowsDeclared (view_slot now) (view_slot was) p hand → (q : ResourceId) → declares (tree_access trees a) q ≡ true → part_held kind (view_slot now) p hand q ≡ view_held kind was q
    part-sees hand shows q d =
        let e = pair-declares trees p a pair q ∙ d in
        ap (λ (c : Bool). cond c (slot_held kind q (part_slot (view_slot now) p hand q)) None) e ∙ ap (slot_held kind q) (shows q e)

    -- what the tree writes, the view shows as its part did last
    pub part-puts : (left : Table V) → ((q : ResourceId) → IsTrue (among (writes_of p) q) → IsTrue (may_write was q)) → IsJoined new.own.now p left → (q : ResourceId) → among (trees.writes a) q ≡ true → view_held kind new q ≡ part_held kind (view_slot now) p left q
    part-puts left may joined q w =
        let v = ap (λ (ids : List ResourceId). among ids q) pair.writes ∙ w in
        let own = two.own q ∙ one.own q ∙ written-own was q (may q v) in
        ap (λ (b : Bool). slot_held kind q (cond b (slot_at new.own.now q) (lent_to new q))) own
        ∙ ap (slot_held kind q) (joined q v)
        ∙ sym (ap (λ (b : Bool). cond (among (reads_of p) q || b) (slot_held kind q (cond b (slot_at left q) (view_slot now q))) None) v
        ∙ ap (λ (b : Bool). cond b (slot_held kind q (slot_at left q)) None) (either-true (among (reads_of p) q) true refl))

  -- what no pair writes, the view shows as it did
  pub unwritten : (pairs : List Pair) → ((q : ResourceId) → slot_at now.own.now q ≡ cond (written_by pairs q) (emptied (slot_at was.own.now q)) (slot_at was.own.now q))
      → ((q : ResourceId) → written_by pairs q ≡ false → slot_at new.own.now q ≡ slot_at now.own.now q) → (q : ResourceId) → written_by pairs q ≡ false → view_held kind new q ≡ view_held kind was q
  unwritten pairs left rest q out =
      (λ i. slot_held kind q (cond ((two.own q ∙ one.own q) i) ((rest q out ∙ left q ∙ ap (λ (b : Bool). cond b (emptied (slot_at was.own.now q)) (slot_at was.own.now q)) out) i) ((two.shelf q ∙ one.shelf q) i)))

module _ {V T E : Type 0} (kind : V → Kind) (trees : Trees V T E) (behind : Lent V) (a b a' b' : T) (o : Outcome E) where
  pub two-slots : (ps : List Pair) (hs ms : List (Table V)) → TwoRan kind trees behind ps a b hs o a' b' ms → AllZip IsSameSlots hs ms
  two-slots (p ∷ q ∷ []) (h ∷ g ∷ []) (m ∷ n ∷ []) ran = (ran.2.slots, (ran.3.slots, tt))
  two-slots _ _ _ ran = absurd ran

  pub two-ids : (ps : List Pair) (hs ms : List (Table V)) → TwoRan kind trees behind ps a b hs o a' b' ms → AllZip (HoldsSameIds kind) hs ms
  two-ids (p ∷ q ∷ []) (h ∷ g ∷ []) (m ∷ n ∷ []) ran = (ran.2.ids, (ran.3.ids, tt))
  two-ids _ _ _ ran = absurd ran

  pub two-given_back : (ps : List Pair) (hs ms : List (Table V)) → TwoRan kind trees behind ps a b hs o a' b' ms → All HasNothingOut ms
  two-given_back (p ∷ q ∷ []) (h ∷ g ∷ []) (m ∷ n ∷ []) ran = λ i. elim i as (λ i. (d : Table V) → i < 2 → HasNothingOut (get_or (m ∷ n ∷ []) i d)) [
    | zero ↦ λ d below. ran.2.given_back
    | suc i ↦ elim i as (λ i. (d : Table V) → suc i < 2 → HasNothingOut (get_or (m ∷ n ∷ []) (suc i) d)) [ zero ↦ λ d below. ran.3.given_back | suc i ↦ λ d below. absurd (omega arith) ]
  ]
  two-given_back _ _ _ ran = absurd ran

  module _ (was now new : View V) (one : IsSameLoan was now) (two : IsSameLoan now new) (apart : Conflicts (tree_access trees a) (tree_access trees b) → ⊥)
      (before : (q : ResourceId) → is_out was q ≡ false) (after : (q : ResourceId) → is_out new q ≡ false) where
    -- runs over the two parts of a view are a run of the first and then one of the second, over the view
    pub two-joined : behind ≡ view_slot now → (ps : List Pair) (hs ms : List (Table V)) → ArePairsOf trees a b ps → TwoRan kind trees behind ps a b hs o a' b' ms
        → All (λ p. (q : ResourceId) → IsTrue (among (writes_of p) q) → IsTrue (may_write was q)) ps
        → AllZip (ShowsDeclared (view_slot now) (view_slot was)) ps hs → AllZip (IsJoined new.own.now) ps ms
        → ((q : ResourceId) → slot_at now.own.now q ≡ cond (written_by ps q) (emptied (slot_at was.own.now q)) (slot_at was.own.now q))
        → ((q : ResourceId) → written_by ps q ≡ false → slot_at new.own.now q ≡ slot_at now.own.now q)
        → WentBeside kind trees a b was o a' b' new
    two-joined is (p ∷ q ∷ []) (h ∷ g ∷ []) (m ∷ n ∷ []) (pair-a, pair-b) (x, y, head, tail, answer) may shows joined left rest =
        let seen = λ (r : Pair) (t : Table V). part_held kind (view_slot now) r t in
        let ordered = in-order kind trees trees a a' b b' apart x y (view_held kind was) (seen p h) (seen p m) (seen q g) (seen q n) (view_held kind new)
        (part-sees kind trees was now new one two p a pair-a h shows.0)
        (part-sees kind trees was now new one two q b pair-b g shows.1.0)
        (part-puts kind trees was now new one two p a pair-a m (may 0 p (omega arith)) joined.0)
        (part-puts kind trees was now new one two q b pair-b n (may 1 p (omega arith)) joined.1.0)
        (λ id v w. unwritten kind trees was now new one two (p ∷ q ∷ []) left rest id
        (or_none (among (writes_of p) id) (among (writes_of q) id || false) (ap (λ (ids : List ResourceId). among ids id) pair-a.writes ∙ v)
        (or_none (among (writes_of q) id) false (ap (λ (ids : List ResourceId). among ids id) pair-b.writes ∙ w) refl)))
        (subst (λ (l : Lent V). IsRun kind trees a (part_held kind l p h) x a' (part_held kind l p m)) is (part-run kind trees behind p a a' pair-a x h m head))
        (subst (λ (l : Lent V). IsRun kind trees b (part_held kind l q g) y b' (part_held kind l q n)) is (part-run kind trees behind q b b' pair-b y g n tail)) in
        inl (record {
          both = record { between = ordered.0; head_outcome = x; tail_outcome = y; head_ran = ordered.1; tail_ran = ordered.2; answer = answer };
          view = same-again was now new one two before after;
        })
    two-joined is _ _ _ pairs ran may shows joined left rest = absurd ran

-- pairs of trees that do not conflict do not conflict
pub pairs-apart : {V T E : Type 0} (trees : Trees V T E) (a b : T) (p q : Pair) → IsPairOf trees a p → IsPairOf trees b q → (Conflicts (tree_access trees a) (tree_access trees b) → ⊥) → DoNotConflict (p ∷ q ∷ [])
pairs-apart trees a b p q pair-a pair-b apart = λ i j d i<j j<2. at i j d i<j j<2 where
  beside : AreBeside p q
  beside = (
    (λ id w. pair-declares trees q b pair-b id ∙ not-declared (tree_access trees a) (tree_access trees b) apart id (ap (λ (ids : List ResourceId). among ids id) (sym pair-a.writes) ∙ w)),
    (λ id w. pair-declares trees p a pair-a id ∙ not-declared (tree_access trees b) (tree_access trees a) (λ c. apart (conflicts-sym (tree_access trees b) (tree_access trees a) c)) id (ap (λ (ids : List ResourceId). among ids id) (sym pair-b.writes) ∙ w)),
  )

  at : (i j : ℕ) (d : Pair) → i < j → j < 2 → AreBeside (get_or (p ∷ q ∷ []) i d) (get_or (p ∷ q ∷ []) j d)
  at i zero d below in_range = absurd (omega arith)
  at zero (suc zero) d below in_range = beside
  at (suc i) (suc zero) d below in_range = absurd (omega arith)
  at i (suc (suc j)) d below in_range = absurd (omega arith)

-- what holds of each of two
pub two-all : {X : Type 0} (P : X → Type 0) (x y : X) → P x → P y → All P (x ∷ y ∷ [])
two-all {X} P x y px py = λ i. elim i as (λ i. (d : X) → i < 2 → P (get_or (x ∷ y ∷ []) i d)) [
  | zero ↦ λ d below. px
  | suc i ↦ elim i as (λ i. (d : X) → suc i < 2 → P (get_or (x ∷ y ∷ []) (suc i) d)) [ zero ↦ λ d below. py | suc i ↦ λ d below. absurd (omega arith) ]
]

module _ {V T E : Type 0} (trees : Trees V T E) (behind behind' : Lent V) (same : (q : ResourceId) → behind' q ≡ behind q) (a b : T) (h g : Table V) (d : Pair) where
  same-behind : behind ≡ behind'
  same-behind = λ i q. sym (same q) i

  -- two hands of parts are ready for runs of their trees
  pub two-ready : (ps ps' : List Pair) (hs : List (Table V)) → ps' ≡ ps → hs ≡ h ∷ g ∷ [] → ArePairsOf trees a b ps → AllZip (IsHandOf behind) ps hs
      → (1 < length ps') × IsHandOf behind' (get_or ps' 0 d) h × IsPairOf trees a (get_or ps' 0 d) × IsHandOf behind' (get_or ps' 1 d) g × IsPairOf trees b (get_or ps' 1 d)
  two-ready (p ∷ q ∷ []) ps' hs is taken pairs each =
      let both : AllZip (IsHandOf behind') (p ∷ q ∷ []) (h ∷ g ∷ []) = subst (λ (l : Lent V). AllZip (IsHandOf l) (p ∷ q ∷ []) (h ∷ g ∷ [])) same-behind (subst (λ ts. AllZip (IsHandOf behind) (p ∷ q ∷ []) ts) taken each) in
      subst (λ rs. (1 < length rs) × IsHandOf behind' (get_or rs 0 d) h × IsPairOf trees a (get_or rs 0 d) × IsHandOf behind' (get_or rs 1 d) g × IsPairOf trees b (get_or rs 1 d)) (sym is)
      (omega arith, both.0, pairs.0, both.1.0, pairs.1)
  two-ready _ ps' hs is taken pairs each = absurd pairs

  -- runs over each hand are the runs over both
  pub two-ran : (kind : V → Kind) (a' b' : T) (x y o : Outcome E) (m n : Table V) (ps ps' : List Pair) (hs ms : List (Table V)) → ps' ≡ ps → hs ≡ h ∷ g ∷ [] → ms ≡ m ∷ n ∷ [] → ArePairsOf trees a b ps
      → RanOverPart kind trees behind' (get_or ps' 0 d) a h x a' m → RanOverPart kind trees behind' (get_or ps' 1 d) b g y b' n → o ≡ first_fault x y → TwoRan kind trees behind ps a b hs o a' b' ms
  two-ran kind a' b' x y o m n (p ∷ q ∷ []) ps' hs ms is taken put pairs head tail answer =
      subst (λ ts. TwoRan kind trees behind (p ∷ q ∷ []) a b ts o a' b' ms) (sym taken)
      (subst (λ ts. TwoRan kind trees behind (p ∷ q ∷ []) a b (h ∷ g ∷ []) o a' b' ts) (sym put) (
        x,
        y,
        subst (λ (l : Lent V). RanOverPart kind trees l p a h x a' m) (sym same-behind) (subst (λ rs. RanOverPart kind trees behind' (get_or rs 0 d) a h x a' m) is head),
        subst (λ (l : Lent V). RanOverPart kind trees l q b g y b' n) (sym same-behind) (subst (λ rs. RanOverPart kind trees behind' (get_or rs 1 d) b g y b' n) is tail),
        answer,
      ))
  two-ran kind a' b' x y o m n _ ps' hs ms is taken put pairs head tail answer = absurd pairs

-- the run over the hand of the only pair
pub one-ran : {V T E : Type 0} (kind : V → Kind) (trees : Trees V T E) (behind behind' : Lent V) → ((q : ResourceId) → behind' q ≡ behind q) → (a a' : T) (x : Outcome E) (h m : Table V) (d : Pair) (ps ps' : List Pair) (hs : List (Table V))
    → ps' ≡ ps → IsPairList trees a ps → AllZip (IsHandOf behind) ps hs → h ≡ get_or hs 0 h → RanOverPart kind trees behind' (get_or ps' 0 d) a h x a' m → OneRan kind trees behind ps a hs x a' (set hs 0 m)
one-ran kind trees behind behind' same a a' x h m d (p ∷ []) ps' (k ∷ []) is pair each here ran =
    subst (λ l. RanOverPart kind trees l p a k x a' m) (λ i q. same q i)
    (subst (λ t. RanOverPart kind trees behind' p a t x a' m) here (subst (λ rs. RanOverPart kind trees behind' (get_or rs 0 d) a h x a' m) is ran))
one-ran kind trees behind behind' same a a' x h m d (p ∷ []) ps' (k ∷ l ∷ hs) is pair each here ran = absurd each.1
one-ran kind trees behind behind' same a a' x h m d (p ∷ []) ps' [] is pair each here ran = absurd each
one-ran kind trees behind behind' same a a' x h m d _ ps' hs is pair each here ran = absurd pair

module _ {V T E : Type 0} (kind : V → Kind) (trees : Trees V T E) (a a' : T) (x : Outcome E) (was now new : View V) (one : IsSameLoan was now) (two : IsSameLoan now new) where
  -- the run over the only part of a view is a run over the view
  pub one-joined : (ps : List Pair) (hs ms : List (Table V)) → IsPairList trees a ps → OneRan kind trees (view_slot now) ps a hs x a' ms
      → All (λ p. (q : ResourceId) → IsTrue (among (writes_of p) q) → IsTrue (may_write was q)) ps
      → AllZip (ShowsDeclared (view_slot now) (view_slot was)) ps hs → AllZip (IsJoined new.own.now) ps ms
      → ((q : ResourceId) → slot_at now.own.now q ≡ cond (written_by ps q) (emptied (slot_at was.own.now q)) (slot_at was.own.now q))
      → ((q : ResourceId) → written_by ps q ≡ false → slot_at new.own.now q ≡ slot_at now.own.now q)
      → IsRun kind trees a (view_held kind was) x a' (view_held kind new)
  one-joined (p ∷ []) (h ∷ []) (m ∷ []) pair ran may shows joined left rest =
      run-moved kind trees a a' x (part_held kind (view_slot now) p h) (part_held kind (view_slot now) p m) (view_held kind was) (view_held kind new)
      (part-sees kind trees was now new one two p a pair h shows.0)
      (part-puts kind trees was now new one two p a pair m (may 0 p (omega arith)) joined.0)
      (λ id v. unwritten kind trees was now new one two (p ∷ []) left rest id (or_none (among (writes_of p) id) false (ap (λ (ids : List ResourceId). among ids id) pair.writes ∙ v) refl))
      (part-run kind trees (view_slot now) p a a' pair x h m ran)
  one-joined _ _ _ pair ran may shows joined left rest = absurd ran

-- what holds of one
pub one-all : {X : Type 0} (P : X → Type 0) (x : X) → P x → All P (x ∷ [])
one-all {X} P x px = λ i. elim i as (λ i. (d : X) → i < 1 → P (get_or (x ∷ []) i d)) [ zero ↦ λ d below. px | suc i ↦ λ d below. absurd (omega arith) ]
