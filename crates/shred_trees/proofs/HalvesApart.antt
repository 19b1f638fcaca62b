-- How trees of two halves come apart, and their runs.
use Rattle.std.proofs.Common.{◌≡◌, false, ◌++◌, Ok, Err, inl, inr, refl, sym, ◌∙◌, ap, subst, arith}
use Rattle.std.specs.Option.{option_map}
use Rattle.shred_model.specs.Access.{Access, Conflicts}
use Rattle.shred_model.specs.Runs.{first_fault}
use Rattle.shred_table.specs.declared.id.Kind.{Kind}
use Rattle.shred_table.specs.declared.id.ResourceId.{ResourceId}
use Rattle.shred_table.specs.Slots.{among}
use Rattle.shred_world.specs.declared.world.view.View.{View}
use Rattle.shred_world.specs.Views.{view_held}
use Rattle.shred_world.specs.Worked.{Held}
use Rattle.shred_run.specs.Steps.{Outcome, declared_of}
use Rattle.shred_run.specs.declared.system.Fault.{Fault}
use Rattle.shred_run.specs.declared.system.Fault.TheVariants.{OutOfMemory}
use Rattle.shred_trees.specs.declared.halves.Halves.{Halves}
use Rattle.shred_trees.specs.declared.halves.Halves.TheVariants.{Both, Head, Tail}
use Rattle.shred_trees.specs.declared.tree.Shape.{Shape}
use Rattle.shred_trees.specs.Halves.{Two, HalvesWent, halves_list, halves_size, halves_trees, halves_pieces, HalvesFit, HalvesJoin, ParRan}
use Rattle.shred_trees.specs.Pieces.{Pieces, AreHalves, ComesApart, ComesApartInTurn, ComesApartBeside, ShapeOf}
use Rattle.shred_trees.specs.TreeViews.{RanOver}
use Rattle.shred_trees.specs.Trees.{Trees, IsRun, RanInTurn, tree_access}
use Rattle.shred_trees.proofs.Beside.{swapped}
use Rattle.shred_trees.proofs.ListsJoined.{in-left, in-right, out-left, out-right, restrict}
use Rattle.shred_trees.proofs.OverViews.{run-of, ran-of, same-view-again}
use Rattle.shred_trees.proofs.Within.{within-apart}

module _ {V H T X E : Type 0} (kind : V → Kind) (two : Two V H T E) (heads : Trees V H E) (tails : Trees V T E) (halves : X → Halves H T) where
  abbrev whole : Trees V X E
  whole = halves_trees two heads tails halves

  module _ (x y : X) (m left : Held V) (o : Outcome E) where
    -- a run of the head is one of the tree of which only the head is there
    pub head-in : (h n : H) → halves x ≡ Head h → halves y ≡ Head n → IsRun kind heads h m o n left → IsRun kind whole x m o y left
    head-in h n ex ey r = record {
      lies = subst (λ u. HalvesWent two heads.runs tails.runs u (declared_of (record { reads = halves_list heads.reads tails.reads u; writes = halves_list heads.writes tails.writes u }) m) o (halves y)
          (declared_of (record { reads = halves_list heads.reads tails.reads u; writes = halves_list heads.writes tails.writes u }) left)) (sym ex) (n, ey, r.lies);
      frame = λ id e. r.frame id (ap (λ u. among (halves_list heads.writes tails.writes u) id) (sym ex) ∙ e);
      keeps_kinds = r.keeps_kinds;
      same_reads = ap (halves_list heads.reads tails.reads) ey ∙ r.same_reads ∙ ap (halves_list heads.reads tails.reads) (sym ex);
      same_writes = ap (halves_list heads.writes tails.writes) ey ∙ r.same_writes ∙ ap (halves_list heads.writes tails.writes) (sym ex);
    }

    pub head-out : (h : H) → halves x ≡ Head h → IsRun kind whole x m o y left → (n : H) × (halves y ≡ Head n) × IsRun kind heads h m o n left
    head-out h ex r =
        let l = subst (λ u. HalvesWent two heads.runs tails.runs u (declared_of (record { reads = halves_list heads.reads tails.reads u; writes = halves_list heads.writes tails.writes u }) m) o (halves y)
        (declared_of (record { reads = halves_list heads.reads tails.reads u; writes = halves_list heads.writes tails.writes u }) left)) ex r.lies in (
          l.0,
          l.1,
          record {
            lies = l.2;
            frame = λ id e. r.frame id (ap (λ u. among (halves_list heads.writes tails.writes u) id) ex ∙ e);
            keeps_kinds = r.keeps_kinds;
            same_reads = ap (halves_list heads.reads tails.reads) (sym l.1) ∙ r.same_reads ∙ ap (halves_list heads.reads tails.reads) ex;
            same_writes = ap (halves_list heads.writes tails.writes) (sym l.1) ∙ r.same_writes ∙ ap (halves_list heads.writes tails.writes) ex;
          },
        )

    -- a run of the tail is one of the tree of which only the tail is there
    pub tail-in : (t n : T) → halves x ≡ Tail t → halves y ≡ Tail n → IsRun kind tails t m o n left → IsRun kind whole x m o y left
    tail-in t n ex ey r = record {
      lies = subst (λ u. HalvesWent two heads.runs tails.runs u (declared_of (record { reads = halves_list heads.reads tails.reads u; writes = halves_list heads.writes tails.writes u }) m) o (halves y)
          (declared_of (record { reads = halves_list heads.reads tails.reads u; writes = halves_list heads.writes tails.writes u }) left)) (sym ex) (n, ey, r.lies);
      frame = λ id e. r.frame id (ap (λ u. among (halves_list heads.writes tails.writes u) id) (sym ex) ∙ e);
      keeps_kinds = r.keeps_kinds;
      same_reads = ap (halves_list heads.reads tails.reads) ey ∙ r.same_reads ∙ ap (halves_list heads.reads tails.reads) (sym ex);
      same_writes = ap (halves_list heads.writes tails.writes) ey ∙ r.same_writes ∙ ap (halves_list heads.writes tails.writes) (sym ex);
    }

    pub tail-out : (t : T) → halves x ≡ Tail t → IsRun kind whole x m o y left → (n : T) × (halves y ≡ Tail n) × IsRun kind tails t m o n left
    tail-out t ex r =
        let l = subst (λ u. HalvesWent two heads.runs tails.runs u (declared_of (record { reads = halves_list heads.reads tails.reads u; writes = halves_list heads.writes tails.writes u }) m) o (halves y)
        (declared_of (record { reads = halves_list heads.reads tails.reads u; writes = halves_list heads.writes tails.writes u }) left)) ex r.lies in (
          l.0,
          l.1,
          record {
            lies = l.2;
            frame = λ id e. r.frame id (ap (λ u. among (halves_list heads.writes tails.writes u) id) ex ∙ e);
            keeps_kinds = r.keeps_kinds;
            same_reads = ap (halves_list heads.reads tails.reads) (sym l.1) ∙ r.same_reads ∙ ap (halves_list heads.reads tails.reads) ex;
            same_writes = ap (halves_list heads.writes tails.writes) (sym l.1) ∙ r.same_writes ∙ ap (halves_list heads.writes tails.writes) ex;
          },
        )

    -- what both halves did together is a run of the tree that has both
    pub both-in : (h n : H) (t k : T) → halves x ≡ Both h t → halves y ≡ Both n k
        → two h t (declared_of (record { reads = heads.reads h ++ tails.reads t; writes = heads.writes h ++ tails.writes t }) m) o n k (declared_of (record { reads = heads.reads h ++ tails.reads t; writes = heads.writes h ++ tails.writes t }) left)
        → ((id : ResourceId) → among (heads.writes h) id ≡ false → among (tails.writes t) id ≡ false → left id ≡ m id)
        → ((id : ResourceId) → option_map kind (left id) ≡ option_map kind (m id))
        → heads.reads n ≡ heads.reads h → heads.writes n ≡ heads.writes h → tails.reads k ≡ tails.reads t → tails.writes k ≡ tails.writes t
        → IsRun kind whole x m o y left
    both-in h n t k ex ey went frame kinds hr hw tr tw = record {
      lies = subst (λ u. HalvesWent two heads.runs tails.runs u (declared_of (record { reads = halves_list heads.reads tails.reads u; writes = halves_list heads.writes tails.writes u }) m) o (halves y)
          (declared_of (record { reads = halves_list heads.reads tails.reads u; writes = halves_list heads.writes tails.writes u }) left)) (sym ex) (n, k, ey, went);
      frame = λ id e.
          let f = ap (λ u. among (halves_list heads.writes tails.writes u) id) (sym ex) ∙ e in
          frame id (out-left (heads.writes h) (tails.writes t) id f) (out-right (heads.writes h) (tails.writes t) id f);
      keeps_kinds = kinds;
      same_reads = ap (halves_list heads.reads tails.reads) ey ∙ (λ i. hr i ++ tr i) ∙ ap (halves_list heads.reads tails.reads) (sym ex);
      same_writes = ap (halves_list heads.writes tails.writes) ey ∙ (λ i. hw i ++ tw i) ∙ ap (halves_list heads.writes tails.writes) (sym ex);
    }

  module _ (Fit : H → T → Type 0) (hp : Pieces H) (tp : Pieces T) where
    -- a tree of which only the head is there comes apart as the head
    pub of-head : (p : X) (h : H) (shape : Shape H) (made : Shape X) → halves p ≡ Head h → ShapeOf (λ a x. halves x ≡ Head a) shape made → ComesApart kind heads hp h shape → ComesApart kind whole (halves_pieces Fit hp tp halves) p made
    of-head p h shape made is of l =
        within-apart kind heads whole hp (halves_pieces Fit hp tp halves) (λ a x. halves x ≡ Head a)
        (λ a x e. ap (halves_list heads.reads tails.reads) e)
        (λ a x e. ap (halves_list heads.writes tails.writes) e)
        (λ a x e. ap (halves_size hp.size tp.size) e)
        (λ a b x y e f fits. subst (λ u. HalvesFit Fit hp.fits tp.fits u (halves y)) (sym e) (subst (λ u. HalvesFit Fit hp.fits tp.fits (Head a) u) (sym f) fits))
        (λ a b x y z e f j. subst (λ u. HalvesJoin hp.joins tp.joins u (Head b) (halves z)) e (subst (λ u. HalvesJoin hp.joins tp.joins (halves x) u (halves z)) f j))
        (λ a n x y m left o e f r. head-in x y m left o a n e f r)
        (λ a x y m left o e r. head-out x y m left o a e r)
        h p shape made is of l

    pub of-tail : (p : X) (t : T) (shape : Shape T) (made : Shape X) → halves p ≡ Tail t → ShapeOf (λ a x. halves x ≡ Tail a) shape made → ComesApart kind tails tp t shape → ComesApart kind whole (halves_pieces Fit hp tp halves) p made
    of-tail p t shape made is of l =
        within-apart kind tails whole tp (halves_pieces Fit hp tp halves) (λ a x. halves x ≡ Tail a)
        (λ a x e. ap (halves_list heads.reads tails.reads) e)
        (λ a x e. ap (halves_list heads.writes tails.writes) e)
        (λ a x e. ap (halves_size hp.size tp.size) e)
        (λ a b x y e f fits. subst (λ u. HalvesFit Fit hp.fits tp.fits u (halves y)) (sym e) (subst (λ u. HalvesFit Fit hp.fits tp.fits (Tail a) u) (sym f) fits))
        (λ a b x y z e f j. subst (λ u. HalvesJoin hp.joins tp.joins u (Tail b) (halves z)) e (subst (λ u. HalvesJoin hp.joins tp.joins (halves x) u (halves z)) f j))
        (λ a n x y m left o e f r. tail-in x y m left o a n e f r)
        (λ a x y m left o e r. tail-out x y m left o a e r)
        t p shape made is of l

head-done : {E : Type 0} (x y : Outcome E) → first_fault x y ≡ Ok tt → x ≡ Ok tt
head-done (Ok done) y e = refl
head-done (Err fault) y e = absurd (cc)

tail-done : {E : Type 0} (x y : Outcome E) → first_fault x y ≡ Ok tt → y ≡ Ok tt
tail-done (Ok done) y e = e
tail-done (Err fault) y e = absurd (cc)

-- two at once
module _ {V H T X E : Type 0} (kind : V → Kind) (heads : Trees V H E) (tails : Trees V T E) (halves : X → Halves H T) where
  abbrev par : Trees V X E
  par = halves_trees (ParRan kind heads tails) heads tails halves

  module _ (h h' : H) (t t' : T) (p c : X) (is : halves p ≡ Both h t) (apart : Conflicts (tree_access heads h) (tree_access tails t) → ⊥) where
    abbrev both-access : Access ResourceId
    both-access = record { reads = heads.reads h ++ tails.reads t; writes = heads.writes h ++ tails.writes t }

    -- a run of the head and then one of the tail are a run of the two beside each other
    pub both-ran : (m mid left : Held V) (x y o : Outcome E) → halves c ≡ Both h' t' → o ≡ first_fault x y → IsRun kind heads h m x h' mid → IsRun kind tails t mid y t' left → IsRun kind par p m o c left
    both-ran m mid left x y o ends answer u v =
        let head = restrict kind heads both-access h h' m mid x (in-left (heads.reads h) (tails.reads t)) (in-left (heads.writes h) (tails.writes t)) u in
        let tail = restrict kind tails both-access t t' mid left y (in-right (heads.reads h) (tails.reads t)) (in-right (heads.writes h) (tails.writes t)) v in
        both-in kind (ParRan kind heads tails) heads tails halves p c m left o h h' t t' is ends
        (inl (record {
          both = record { between = declared_of both-access mid; head_outcome = x; tail_outcome = y; head_ran = head; tail_ran = tail; answer = answer };
          tail_first = swapped kind heads tails h h' t t' apart (declared_of both-access m) (declared_of both-access mid) (declared_of both-access left) x y head tail;
          in_turn = λ done. inl (
            declared_of both-access mid,
            subst (λ w. IsRun kind heads h (declared_of both-access m) w h' (declared_of both-access mid)) (head-done x y (sym answer ∙ done)) head,
            subst (λ w. IsRun kind tails t (declared_of both-access mid) w t' (declared_of both-access left)) (tail-done x y (sym answer ∙ done) ∙ sym done) tail,
          );
        }))
        (λ id e f. v.frame id f ∙ u.frame id e) (λ id. v.keeps_kinds id ∙ u.keeps_kinds id) u.same_reads u.same_writes v.same_reads v.same_writes

-- one after the other
module _ {V H T X E : Type 0} (kind : V → Kind) (heads : Trees V H E) (tails : Trees V T E) (halves : X → Halves H T) (h h' : H) (t : T) (p c : X) (is : halves p ≡ Both h t) where
  abbrev seq : Trees V X E
  seq = halves_trees (RanInTurn kind heads tails) heads tails halves

  abbrev seq-access : Access ResourceId
  seq-access = record { reads = heads.reads h ++ tails.reads t; writes = heads.writes h ++ tails.writes t }

  -- a run of the head that is Done and then one of the tail are a run of the two in turn
  pub turn-ran : (t' : T) (m mid left : Held V) (o : Outcome E) → halves c ≡ Both h' t' → IsRun kind heads h m (Ok tt) h' mid → IsRun kind tails t mid o t' left → IsRun kind seq p m o c left
  turn-ran t' m mid left o ends u v =
      both-in kind (RanInTurn kind heads tails) heads tails halves p c m left o h h' t t' is ends
      (inl (
        declared_of seq-access mid,
        restrict kind heads seq-access h h' m mid (Ok tt) (in-left (heads.reads h) (tails.reads t)) (in-left (heads.writes h) (tails.writes t)) u,
        restrict kind tails seq-access t t' mid left o (in-right (heads.reads h) (tails.reads t)) (in-right (heads.writes h) (tails.writes t)) v,
      ))
      (λ id e f. v.frame id f ∙ u.frame id e) (λ id. v.keeps_kinds id ∙ u.keeps_kinds id) u.same_reads u.same_writes v.same_reads v.same_writes

  -- and so is a run of the head that is not Done
  pub one-ran : (m left : Held V) (f : Fault E) → halves c ≡ Both h' t → IsRun kind heads h m (Err f) h' left → IsRun kind seq p m (Err f) c left
  one-ran m left f ends u =
      both-in kind (RanInTurn kind heads tails) heads tails halves p c m left (Err f) h h' t t is ends
      (inr (f, restrict kind heads seq-access h h' m left (Err f) (in-left (heads.reads h) (tails.reads t)) (in-left (heads.writes h) (tails.writes t)) u, refl, refl))
      (λ id e g. u.frame id e) u.keeps_kinds u.same_reads u.same_writes refl refl

module _ {V H T X E : Type 0} (kind : V → Kind) (heads : Trees V H E) (tails : Trees V T E) (halves : X → Halves H T) (hp : Pieces H) (tp : Pieces T) (h : H) (t : T) (p a b : X)
    (is : halves p ≡ Both h t) (ha : halves a ≡ Head h) (tb : halves b ≡ Tail t) where
  -- the pieces are those of the two halves
  halves-of : (two : Two V H T E) (Fit : H → T → Type 0) → Fit h t → AreHalves kind (halves_trees two heads tails halves) (halves_pieces Fit hp tp halves) p a b
  halves-of two Fit fit = record {
    fit = subst (λ u. HalvesFit Fit hp.fits tp.fits u (halves b)) (sym ha) (subst (λ u. HalvesFit Fit hp.fits tp.fits (Head h) u) (sym tb) fit);
    first_of = record {
      reads = λ id e. ap (λ u. among (halves_list heads.reads tails.reads u) id) is ∙ in-left (heads.reads h) (tails.reads t) id (ap (λ u. among (halves_list heads.reads tails.reads u) id) (sym ha) ∙ e);
      writes = λ id e. ap (λ u. among (halves_list heads.writes tails.writes u) id) is ∙ in-left (heads.writes h) (tails.writes t) id (ap (λ u. among (halves_list heads.writes tails.writes u) id) (sym ha) ∙ e);
    };
    second_of = record {
      reads = λ id e. ap (λ u. among (halves_list heads.reads tails.reads u) id) is ∙ in-right (heads.reads h) (tails.reads t) id (ap (λ u. among (halves_list heads.reads tails.reads u) id) (sym tb) ∙ e);
      writes = λ id e. ap (λ u. among (halves_list heads.writes tails.writes u) id) is ∙ in-right (heads.writes h) (tails.writes t) id (ap (λ u. among (halves_list heads.writes tails.writes u) id) (sym tb) ∙ e);
    };
    smaller = rw (ap (halves_size hp.size tp.size) ha, ap (halves_size hp.size tp.size) tb, ap (halves_size hp.size tp.size) is) (omega arith);
  }

  -- a head and a tail that were put together are both
  joined-both : (x y c : X) (n : H) (k : T) → halves x ≡ Head n → halves y ≡ Tail k → HalvesJoin hp.joins tp.joins (halves x) (halves y) (halves c) → halves c ≡ Both n k
  joined-both x y c n k ex ey j = subst (λ u. HalvesJoin hp.joins tp.joins u (Tail k) (halves c)) ex (subst (λ u. HalvesJoin hp.joins tp.joins (halves x) u (halves c)) ey j)

  fitted : (Fit : H → T → Type 0) (x y : X) (n : H) (k : T) → halves x ≡ Head n → halves y ≡ Tail k → Fit n k → HalvesFit Fit hp.fits tp.fits (halves x) (halves y)
  fitted Fit x y n k ex ey f = subst (λ u. HalvesFit Fit hp.fits tp.fits u (halves y)) (sym ex) (subst (λ u. HalvesFit Fit hp.fits tp.fits (Head n) u) (sym ey) f)

  -- two beside each other come apart into the two
  pub par-both : (Conflicts (tree_access heads h) (tree_access tails t) → ⊥)
      → ComesApartBeside kind (halves_trees (ParRan kind heads tails) heads tails halves) (halves_pieces (λ head tail. Conflicts (tree_access heads head) (tree_access tails tail) → ⊥) hp tp halves) p a b
  par-both apart = record {
    halves = halves-of (ParRan kind heads tails) (λ head tail. Conflicts (tree_access heads head) (tree_access tails tail) → ⊥) apart;
    apart = λ c. apart (
        subst (λ u. Conflicts (record { reads = halves_list heads.reads tails.reads u; writes = halves_list heads.writes tails.writes u }) (tree_access tails t)) ha
        (subst (λ u. Conflicts (tree_access (halves_trees (ParRan kind heads tails) heads tails halves) a) (record { reads = halves_list heads.reads tails.reads u; writes = halves_list heads.writes tails.writes u })) tb c));
    both = λ m mid left x y a' b' r s.
        let u = head-out kind (ParRan kind heads tails) heads tails halves a a' m mid x h ha r in
        let v = tail-out kind (ParRan kind heads tails) heads tails halves b b' mid left y t tb s in (
          fitted (λ head tail. Conflicts (tree_access heads head) (tree_access tails tail) → ⊥) a' b' u.0 v.0 u.1 v.1
              (λ c. apart (subst (λ access. Conflicts access (tree_access tails t)) (λ i. record { reads = u.2.same_reads i; writes = u.2.same_writes i })
              (subst (λ access. Conflicts (tree_access heads u.0) access) (λ i. record { reads = v.2.same_reads i; writes = v.2.same_writes i }) c))),
          λ c j. both-ran kind heads tails halves h u.0 t v.0 p c is apart m mid left x y (first_fault x y) (joined-both a' b' c u.0 v.0 u.1 v.1 j) refl u.2 v.2,
        );
    no_room = λ m c j. both-in kind (ParRan kind heads tails) heads tails halves p c m m (Err OutOfMemory) h h t t is (joined-both a b c h t ha tb j)
        (inr (refl, refl, refl, refl)) (λ id e f. refl) (λ id. refl) refl refl refl refl;
  }

  -- two in turn come apart into the two
  pub seq-both : ComesApartInTurn kind (halves_trees (RanInTurn kind heads tails) heads tails halves) (halves_pieces (λ head tail. Unit {0}) hp tp halves) p a b
  seq-both = record {
    halves = halves-of (RanInTurn kind heads tails) (λ head tail. Unit {0}) tt;
    done = λ m mid left o a' b' r s.
        let u = head-out kind (RanInTurn kind heads tails) heads tails halves a a' m mid (Ok tt) h ha r in
        let v = tail-out kind (RanInTurn kind heads tails) heads tails halves b b' mid left o t tb s in (
          fitted (λ head tail. Unit {0}) a' b' u.0 v.0 u.1 v.1 tt,
          λ c j. turn-ran kind heads tails halves h u.0 t p c is v.0 m mid left o (joined-both a' b' c u.0 v.0 u.1 v.1 j) u.2 v.2,
        );
    failed = λ m left f a' r.
        let u = head-out kind (RanInTurn kind heads tails) heads tails halves a a' m left (Err f) h ha r in (
          fitted (λ head tail. Unit {0}) a' b u.0 t u.1 tb tt,
          λ c j. one-ran kind heads tails halves h u.0 t p c is m left f (joined-both a' b c u.0 t u.1 tb j) u.2,
        );
  }

-- over a view
module _ {V H T X E : Type 0} (kind : V → Kind) (heads : Trees V H E) (tails : Trees V T E) (halves : X → Halves H T) (h h' k : H) (t l : T) (p c : X) (v w : View V)
    (is : halves p ≡ Both h t) (same-head : k ≡ h) (same-tail : l ≡ t) where
  both-is : halves p ≡ Both k l
  both-is = is ∙ (λ i. Both (sym same-head i) (sym same-tail i))

  -- a run of the head and then one of the tail
  pub both-over : (t' : T) (z : View V) (x y o : Outcome E) → (Conflicts (tree_access heads h) (tree_access tails t) → ⊥) → halves c ≡ Both h' t' → o ≡ first_fault x y → RanOver kind heads k v x h' w → RanOver kind tails l w y t' z
      → RanOver kind (halves_trees (ParRan kind heads tails) heads tails halves) p v o c z
  both-over t' z x y o apart ends answer head tail =
      ran-of kind (halves_trees (ParRan kind heads tails) heads tails halves) p c o v z
      (both-ran kind heads tails halves k h' l t' p c both-is
      (λ e. apart (subst (λ a. Conflicts (tree_access heads a) (tree_access tails t)) same-head (subst (λ a. Conflicts (tree_access heads k) (tree_access tails a)) same-tail e)))
      (view_held kind v) (view_held kind w) (view_held kind z) x y o ends answer (run-of kind heads k h' x v w head) (run-of kind tails l t' y w z tail))
      (same-view-again v w z head.view tail.view)

  -- a run of the head that is Done, and then one of the tail
  pub turn-over : (t' : T) (z : View V) (x o : Outcome E) → halves c ≡ Both h' t' → x ≡ Ok tt → RanOver kind heads k v x h' w → RanOver kind tails l w o t' z
      → RanOver kind (halves_trees (RanInTurn kind heads tails) heads tails halves) p v o c z
  turn-over t' z x o ends done head tail =
      ran-of kind (halves_trees (RanInTurn kind heads tails) heads tails halves) p c o v z
      (turn-ran kind heads tails halves k h' l p c both-is t' (view_held kind v) (view_held kind w) (view_held kind z) o ends
      (subst (λ r. IsRun kind heads k (view_held kind v) r h' (view_held kind w)) done (run-of kind heads k h' x v w head)) (run-of kind tails l t' o w z tail))
      (same-view-again v w z head.view tail.view)

  -- a run of the head that is not Done
  pub one-over : (f : Fault E) (x : Outcome E) → halves c ≡ Both h' l → x ≡ Err f → RanOver kind heads k v x h' w → RanOver kind (halves_trees (RanInTurn kind heads tails) heads tails halves) p v (Err f) c w
  one-over f x ends failed head =
      ran-of kind (halves_trees (RanInTurn kind heads tails) heads tails halves) p c (Err f) v w
      (one-ran kind heads tails halves k h' l p c both-is (view_held kind v) (view_held kind w) f ends
      (subst (λ r. IsRun kind heads k (view_held kind v) r h' (view_held kind w)) failed (run-of kind heads k h' x v w head)))
      head.view
