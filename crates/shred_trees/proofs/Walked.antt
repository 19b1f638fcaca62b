-- Walks of trees, piece by piece.
use Rattle.std.proofs.Common.{◌≡◌, Ok, Err, inl, inr, sym, subst}
use Rattle.shred_table.specs.declared.id.Kind.{Kind}
use Rattle.shred_table.specs.Slots.{slot_held}
use Rattle.shred_world.specs.declared.world.view.View.{View}
use Rattle.shred_world.specs.Views.{view_held}
use Rattle.shred_run.specs.Steps.{Outcome}
use Rattle.shred_run.specs.declared.system.Fault.{Fault}
use Rattle.shred_run.specs.declared.system.Fault.TheVariants.{OutOfMemory}
use Rattle.shred_trees.specs.Parted.{WentBeside}
use Rattle.shred_trees.specs.Pieces.{Pieces, IsWhole, ComesApartInTurn, ComesApartBeside}
use Rattle.shred_trees.specs.TreeViews.{RanOver}
use Rattle.shred_trees.specs.Trees.{Trees, IsRun}
use Rattle.shred_trees.proofs.OverViews.{run-of, ran-of, same-view-again}

module _ {V T E : Type 0} (kind : V → Kind) (trees : Trees V T E) (tree : T) where
  pub leaf-ran : (piece new : T) (o : Outcome E) (before after : View V) → IsWhole kind trees tree piece → RanOver kind trees piece before o new after → RanOver kind trees tree before o new after
  leaf-ran piece new o before after whole ran = ran-of kind trees tree new o before after (whole.ran (view_held kind before) (view_held kind after) o new (run-of kind trees piece new o before after ran)) ran.view

  module _ (pieces : Pieces T) (a b a' b' : T) (x y z : View V) where
    pub turn-done : ComesApartInTurn kind trees pieces tree a b → (one o : Outcome E) → one ≡ Ok tt → RanOver kind trees a x one a' y → RanOver kind trees b y o b' z
        → pieces.fits a' b' × ((c : T) → pieces.joins a' b' c → RanOver kind trees tree x o c z)
    turn-done law one o done head tail =
        let h = subst (λ w. IsRun kind trees a (view_held kind x) w a' (view_held kind y)) done (run-of kind trees a a' one x y head) in
        let ran = law.done (view_held kind x) (view_held kind y) (view_held kind z) o a' b' h (run-of kind trees b b' o y z tail) in
        (ran.0, λ c j. ran-of kind trees tree c o x z (ran.1 c j) (same-view-again x y z head.view tail.view))

    pub turn-failed : ComesApartInTurn kind trees pieces tree a b → (one : Outcome E) (fault : Fault E) → one ≡ Err fault → RanOver kind trees a x one a' y
        → pieces.fits a' b × ((c : T) → pieces.joins a' b c → RanOver kind trees tree x (Err fault) c y)
    turn-failed law one fault failed head =
        let h = subst (λ w. IsRun kind trees a (view_held kind x) w a' (view_held kind y)) failed (run-of kind trees a a' one x y head) in
        let ran = law.failed (view_held kind x) (view_held kind y) fault a' h in
        (ran.0, λ c j. ran-of kind trees tree c (Err fault) x y (ran.1 c j) head.view)

    pub beside-done : ComesApartBeside kind trees pieces tree a b → (o : Outcome E) → WentBeside kind trees a b x o a' b' z
        → pieces.fits a' b' × ((c : T) → pieces.joins a' b' c → RanOver kind trees tree x o c z)
    beside-done law o (inl went) =
        let r = went.both in
        let ran = law.both (view_held kind x) r.between (view_held kind z) r.head_outcome r.tail_outcome a' b' r.head_ran r.tail_ran in (
          ran.0,
          λ c j. ran-of kind trees tree c o x z (subst (λ w. IsRun kind trees tree (view_held kind x) w c (view_held kind z)) (sym r.answer) (ran.1 c j)) went.view,
        )
    beside-done law o (inr refused) =
        let shown : view_held kind z ≡ view_held kind x = (λ i q. slot_held kind q (refused.shown q i)) in (
          subst (λ u. pieces.fits u b') (sym refused.first) (subst (λ u. pieces.fits a u) (sym refused.second) law.halves.fit),
          λ c j. ran-of kind trees tree c o x z
              (subst (λ w. IsRun kind trees tree (view_held kind x) w c (view_held kind z)) (sym refused.told)
              (subst (λ l. IsRun kind trees tree (view_held kind x) (Err OutOfMemory) c l) (sym shown)
              (law.no_room (view_held kind x) c (subst (λ u. pieces.joins a u c) refused.second (subst (λ u. pieces.joins u b' c) refused.first j)))))
              refused.view,
        )
