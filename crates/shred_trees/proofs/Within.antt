-- Trees that come apart as trees do that they hold.
use Rattle.std.proofs.Common.{◌≡◌, List, Ok, Err, sym, ◌∙◌, ap, subst}
use Rattle.shred_model.specs.Access.{Conflicts}
use Rattle.shred_model.specs.Runs.{first_fault}
use Rattle.shred_table.specs.declared.id.Kind.{Kind}
use Rattle.shred_table.specs.declared.id.ResourceId.{ResourceId}
use Rattle.shred_table.specs.Slots.{among}
use Rattle.shred_world.specs.Worked.{Held}
use Rattle.shred_run.specs.Steps.{Outcome}
use Rattle.shred_run.specs.declared.system.Fault.TheVariants.{OutOfMemory}
use Rattle.shred_trees.specs.declared.tree.Shape.{Shape}
use Rattle.shred_trees.specs.declared.tree.Shape.TheVariants.{Leaf, InTurn, Beside}
use Rattle.shred_trees.specs.Pieces.{Pieces, IsPieceOf, IsWhole, AreHalves, ComesApartInTurn, ComesApartBeside, ComesApart, ShapeOf}
use Rattle.shred_trees.specs.Trees.{Trees, IsRun, tree_access}

-- trees of the second type hold trees of the first, by Holds
module _ {V H X E : Type 0} (kind : V → Kind) (held : Trees V H E) (trees : Trees V X E) (inner : Pieces H) (outer : Pieces X) (Holds : H → X → Type 0)
    (reads-is : (h : H) (x : X) → Holds h x → trees.reads x ≡ held.reads h)
    (writes-is : (h : H) (x : X) → Holds h x → trees.writes x ≡ held.writes h)
    (size-is : (h : H) (x : X) → Holds h x → outer.size x ≡ inner.size h)
    (fits-in : (a b : H) (x y : X) → Holds a x → Holds b y → inner.fits a b → outer.fits x y)
    (joins-out : (a b : H) (x y z : X) → Holds a x → Holds b y → outer.joins x y z → (n : H) × Holds n z × inner.joins a b n)
    (into : (h n : H) (x y : X) (m left : Held V) (o : Outcome E) → Holds h x → Holds n y → IsRun kind held h m o n left → IsRun kind trees x m o y left)
    (out : (h : H) (x y : X) (m left : Held V) (o : Outcome E) → Holds h x → IsRun kind trees x m o y left → (n : H) × Holds n y × IsRun kind held h m o n left) where
  among-same : (xs ys : List ResourceId) → xs ≡ ys → (id : ResourceId) → among xs id ≡ among ys id
  among-same xs ys is id = ap (λ (ids : List ResourceId). among ids id) is

  piece-of : (p a : H) (t x : X) → Holds p t → Holds a x → IsPieceOf held p a → IsPieceOf trees t x
  piece-of p a t x hp ha piece = record {
    reads = λ id e. among-same (trees.reads t) (held.reads p) (reads-is p t hp) id ∙ piece.reads id (sym (among-same (trees.reads x) (held.reads a) (reads-is a x ha) id) ∙ e);
    writes = λ id e. among-same (trees.writes t) (held.writes p) (writes-is p t hp) id ∙ piece.writes id (sym (among-same (trees.writes x) (held.writes a) (writes-is a x ha) id) ∙ e);
  }

  module _ (p a b : H) (t x y : X) (hp : Holds p t) (ha : Holds a x) (hb : Holds b y) where
    halves-of : AreHalves kind held inner p a b → AreHalves kind trees outer t x y
    halves-of l = record {
      fit = fits-in a b x y ha hb l.fit;
      first_of = piece-of p a t x hp ha l.first_of;
      second_of = piece-of p b t y hp hb l.second_of;
      smaller = rw (size-is a x ha, size-is b y hb, size-is p t hp) l.smaller;
    }

    pub within-turn : ComesApartInTurn kind held inner p a b → ComesApartInTurn kind trees outer t x y
    within-turn l = record {
      halves = halves-of l.halves;
      done = λ m mid left o x' y' r s.
          let u = out a x x' m mid (Ok tt) ha r in
          let v = out b y y' mid left o hb s in
          let k = l.done m mid left o u.0 v.0 u.2 v.2 in
          (fits-in u.0 v.0 x' y' u.1 v.1 k.0, λ z j. let q = joins-out u.0 v.0 x' y' z u.1 v.1 j in into p q.0 t z m left o hp q.1 (k.1 q.0 q.2));
      failed = λ m left f x' r.
          let u = out a x x' m left (Err f) ha r in
          let k = l.failed m left f u.0 u.2 in
          (fits-in u.0 b x' y u.1 hb k.0, λ z j. let q = joins-out u.0 b x' y z u.1 hb j in into p q.0 t z m left (Err f) hp q.1 (k.1 q.0 q.2));
    }

    pub within-beside : ComesApartBeside kind held inner p a b → ComesApartBeside kind trees outer t x y
    within-beside l = record {
      halves = halves-of l.halves;
      apart = λ c. l.apart (
          subst (λ access. Conflicts access (tree_access held b)) (λ i. record { reads = reads-is a x ha i; writes = writes-is a x ha i })
          (subst (λ access. Conflicts (tree_access trees x) access) (λ i. record { reads = reads-is b y hb i; writes = writes-is b y hb i }) c));
      both = λ m mid left o o' x' y' r s.
          let u = out a x x' m mid o ha r in
          let v = out b y y' mid left o' hb s in
          let k = l.both m mid left o o' u.0 v.0 u.2 v.2 in
          (fits-in u.0 v.0 x' y' u.1 v.1 k.0, λ z j. let q = joins-out u.0 v.0 x' y' z u.1 v.1 j in into p q.0 t z m left (first_fault o o') hp q.1 (k.1 q.0 q.2));
      no_room = λ m z j. let q = joins-out a b x y z ha hb j in into p q.0 t z m m (Err OutOfMemory) hp q.1 (l.no_room m q.0 q.2);
    }

  pub within-whole : (p a : H) (t x : X) → Holds p t → Holds a x → IsWhole kind held p a → IsWhole kind trees t x
  within-whole p a t x hp ha l = record {
    piece_of = piece-of p a t x hp ha l.piece_of;
    ran = λ m left o y r. let u = out a x y m left o ha r in into p u.0 t y m left o hp u.1 (l.ran m left o u.0 u.2);
  }

  -- a tree comes apart as the one that it holds
  pub within-apart : (p : H) (t : X) (shape : Shape H) (made : Shape X) → Holds p t → ShapeOf Holds shape made → ComesApart kind held inner p shape → ComesApart kind trees outer t made
  within-apart p t (Leaf a) (Leaf x) hp is l = within-whole p a t x hp is l
  within-apart p t (InTurn a b) (InTurn x y) hp is l = within-turn p a b t x y hp is.0 is.1 l
  within-apart p t (Beside a b) (Beside x y) hp is l = within-beside p a b t x y hp is.0 is.1 l
  within-apart p t (Leaf a) (InTurn x y) hp is l = absurd is
  within-apart p t (Leaf a) (Beside x y) hp is l = absurd is
  within-apart p t (InTurn a b) (Leaf x) hp is l = absurd is
  within-apart p t (InTurn a b) (Beside x y) hp is l = absurd is
  within-apart p t (Beside a b) (Leaf x) hp is l = absurd is
  within-apart p t (Beside a b) (InTurn x y) hp is l = absurd is
