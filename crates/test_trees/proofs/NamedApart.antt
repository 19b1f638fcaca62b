-- A tree with a name comes apart as the tree does.
use Rattle.std.proofs.Common.{◌≡◌, ℕ, refl, sym, ◌∙◌, ap, subst}
use Rattle.shred_table.specs.declared.id.Kind.{Kind}
use Rattle.shred_table.specs.Slots.{among}
use Rattle.shred_world.specs.Worked.{Held}
use Rattle.shred_run.specs.Steps.{Outcome, declared_of}
use Rattle.shred_trees.specs.declared.tree.Shape.{Shape}
use Rattle.shred_trees.specs.Pieces.{Pieces, ComesApart, ShapeOf}
use Rattle.shred_trees.specs.Trees.{Trees, IsRun, tree_access}
use Rattle.shred_trees.proofs.Within.{within-apart}
use Rattle.test_trees.specs.declared.named.Named.{Named}
use Rattle.test_trees.specs.Named.{named_trees, named_pieces}

module _ {V T E : Type 0} (kind : V → Kind) (trees : Trees V T E) (pieces : Pieces T) (name : ℕ) where
  -- it holds the tree, with this name
  abbrev pub Holds : T → Named T → Type 0
  Holds inner named = (named.inner ≡ inner) × (named.name ≡ name)

  into : (h n : T) (x y : Named T) (m left : Held V) (o : Outcome E) → Holds h x → Holds n y → IsRun kind trees h m o n left → IsRun kind (named_trees trees) x m o y left
  into h n x y m left o hx hy r = record {
    lies = (
      hy.1 ∙ sym hx.1,
      subst (λ t. trees.runs t (declared_of (tree_access trees t) m) o y.inner (declared_of (tree_access trees t) left)) (sym hx.0)
          (subst (λ t. trees.runs h (declared_of (tree_access trees h) m) o t (declared_of (tree_access trees h) left)) (sym hy.0) r.lies),
    );
    frame = λ id out. r.frame id (ap (λ t. among (trees.writes t) id) (sym hx.0) ∙ out);
    keeps_kinds = r.keeps_kinds;
    same_reads = ap trees.reads hy.0 ∙ r.same_reads ∙ ap trees.reads (sym hx.0);
    same_writes = ap trees.writes hy.0 ∙ r.same_writes ∙ ap trees.writes (sym hx.0);
  }

  out : (h : T) (x y : Named T) (m left : Held V) (o : Outcome E) → Holds h x → IsRun kind (named_trees trees) x m o y left → (n : T) × Holds n y × IsRun kind trees h m o n left
  out h x y m left o hx r = (
    y.inner,
    (refl, r.lies.0 ∙ hx.1),
    record {
      lies = subst (λ t. trees.runs t (declared_of (tree_access trees t) m) o y.inner (declared_of (tree_access trees t) left)) hx.0 r.lies.1;
      frame = λ id e. r.frame id (ap (λ t. among (trees.writes t) id) hx.0 ∙ e);
      keeps_kinds = r.keeps_kinds;
      same_reads = r.same_reads ∙ ap trees.reads hx.0;
      same_writes = r.same_writes ∙ ap trees.writes hx.0;
    },
  )

  pub named-apart : (p : T) (t : Named T) (shape : Shape T) (made : Shape (Named T)) → Holds p t → ShapeOf Holds shape made → ComesApart kind trees pieces p shape → ComesApart kind (named_trees trees) (named_pieces pieces) t made
  named-apart =
      within-apart kind trees (named_trees trees) pieces (named_pieces pieces) Holds
      (λ h x e. ap trees.reads e.0)
      (λ h x e. ap trees.writes e.0)
      (λ h x e. ap pieces.size e.0)
      (λ a b x y e f fit. (e.1 ∙ sym f.1, subst (λ t. pieces.fits t y.inner) (sym e.0) (subst (λ t. pieces.fits a t) (sym f.0) fit)))
      (λ a b x y z e f j. (z.inner, (refl, j.0 ∙ e.1), subst (λ t. pieces.joins t b z.inner) e.0 (subst (λ t. pieces.joins x.inner t z.inner) f.0 j.1)))
      into out
