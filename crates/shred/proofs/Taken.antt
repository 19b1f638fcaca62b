-- What a view shows out of which resources were moved by their types.
use Rattle.std.proofs.Common.{◌≡◌, Bool, true, false, not, ◌&&◌, ◌||◌, None, cond, List, [], ◌∷◌, refl, sym, ◌∙◌, ap}
use Rattle.shred_table.specs.declared.id.Kind.{Kind}
use Rattle.shred_table.specs.declared.id.ResourceId.{ResourceId}
use Rattle.shred_table.specs.Id.{same_id}
use Rattle.shred_table.specs.Slots.{among}
use Rattle.shred_table.proofs.Tables.Slots.{same_id-true}
use Rattle.shred_world.specs.declared.world.view.View.{View}
use Rattle.shred_world.specs.Bundles.{AreOut, ids_of}
use Rattle.shred_world.specs.Grants.{Grant, Moved, given_back, grant_of}
use Rattle.shred_world.specs.OwnViews.{IsLent}
use Rattle.shred_world.specs.Views.{declared_held, is_out, may_read}
use Rattle.shred.specs.Typed.{held_with}

module _ {V : Type 0} (g : Grant V) where
  -- values that are given back leave what may be read
  back-reads : (ms : Moved V) → (given_back g ms).reads ≡ g.reads
  back-reads [] = refl
  back-reads (m ∷ ms) = back-reads ms

  -- and all other ids as out as they were
  back-away : (ms : Moved V) (q : ResourceId) → among (ids_of ms) q ≡ false → (given_back g ms).out q ≡ g.out q
  back-away [] q away = refl
  back-away (m ∷ ms) q away = at (same_id m.0 q) (back-away ms q) away where
    at : (b : Bool) → (among (ids_of ms) q ≡ false → (given_back g ms).out q ≡ g.out q) → (b || among (ids_of ms) q) ≡ false → (not b && (given_back g ms).out q) ≡ g.out q
    at true rest away = absurd (cc)
    at false rest away = rest away

-- each of ids that are out is out
listed-out : (out : ResourceId → Bool) (ids : List ResourceId) (q : ResourceId) → AreOut out ids → among ids q ≡ true → out q ≡ true
listed-out out [] q are listed = absurd (cc)
listed-out out (id ∷ ids) q are listed = at (same_id id q) refl (listed-out out ids q are.2) listed where
  at : (b : Bool) → same_id id q ≡ b → (among ids q ≡ true → out q ≡ true) → (b || among ids q) ≡ true → out q ≡ true
  at true same rest listed = ap out (sym (same_id-true id q same)) ∙ are.0
  at false same rest listed = rest listed

-- views that grant the same show the same
pub same-held : {V : Type 0} (kind : V → Kind) (old new : View V) → grant_of kind new ≡ grant_of kind old → declared_held kind new ≡ declared_held kind old
same-held kind old new same = λ i q. cond ((same i).reads q) ((same i).held q) None

module _ {V : Type 0} (kind : V → Kind) (old middle : View V) (reads writes : List ResourceId) (lent : IsLent old reads writes) (taken : Moved V) (undone : given_back (grant_of kind middle) taken ≡ grant_of kind old) where
  -- what is declared may still be read
  pub declared-still : (q : ResourceId) → may_read middle q ≡ (among reads q || among writes q)
  declared-still q = sym (ap (λ (f : ResourceId → Bool). f q) (back-reads (grant_of kind middle) taken)) ∙ ap (λ (g : Grant V). g.reads q) undone ∙ lent.may_read q

  -- what was moved out is out, and nothing else
  pub out-alone : AreOut (is_out middle) (ids_of taken) → (q : ResourceId) → is_out middle q ≡ among (ids_of taken) q
  out-alone are q = at (among (ids_of taken) q) refl where
    at : (b : Bool) → among (ids_of taken) q ≡ b → is_out middle q ≡ b
    at true listed = listed-out (is_out middle) (ids_of taken) q are listed
    at false away = sym (back-away (grant_of kind middle) taken q away) ∙ ap (λ (g : Grant V). g.out q) undone ∙ lent.nothing_out q

  -- with what was moved out the view shows what it showed
  pub seen-whole : held_with kind reads writes middle taken ≡ declared_held kind old
  seen-whole = λ i q. cond (sym (lent.may_read q) i) ((undone i).held q) None

  -- with what was given back it shows what it shows then
  pub left-whole : (new : View V) (given : Moved V) → grant_of kind new ≡ given_back (grant_of kind middle) given → held_with kind reads writes middle given ≡ declared_held kind new
  left-whole new given returned = λ i q. cond (declared q i) ((sym returned i).held q) None where
    declared : (q : ResourceId) → (among reads q || among writes q) ≡ may_read new q
    declared q = sym (declared-still q) ∙ sym (ap (λ (f : ResourceId → Bool). f q) (back-reads (grant_of kind middle) given)) ∙ sym (ap (λ (g : Grant V). g.reads q) returned)
