-- Maps that were filled at an id.
use Rattle.std.proofs.Common.{◌≡◌, Bool, true, false, Option, Some, None, Result, Ok, Err, cond, refl, sym, ◌∙◌, ap, subst}
use Rattle.std.specs.Prelude.{is_some, IfErr, OnErr, MatchOption}
use Rattle.shred_table.specs.declared.id.ResourceId.{ResourceId}
use Rattle.shred_table.specs.Id.{same_id}
use Rattle.shred_table.specs.Slots.{with_at}
use Rattle.shred_table.proofs.Tables.Slots.{same_id-refl}
use Rattle.shred_world.specs.Worlds.{IsFilled, IsKeptOrMade}

-- none is there
pub none_is : {X : Type 0} (o : Option X) → is_some o ≡ false → o ≡ None
none_is (Some x) e = absurd (cc)
none_is None e = refl

module _ {V R : Type 0} (wrapped : R → V) (Made : R → Type 0) (id : ResourceId) (before after : ResourceId → Option V) where
  -- what was made is held where nothing was
  pub filled-none : before id ≡ None → (r : R) → Made r → ((q : ResourceId) → after q ≡ with_at before id (Some (wrapped r)) q) → IsFilled wrapped Made id before after
  filled-none none r made is = subst (λ (o : Option V). MatchOption o ((r : R) × Made r × ((q : ResourceId) → after q ≡ with_at before id (Some (wrapped r)) q)) (λ v. (q : ResourceId) → after q ≡ before q)) (sym none) (r, made, is)

module _ {V R : Type 0} (wrapped : R → V) (Made : R → Type 0) (id : ResourceId) (before after : ResourceId → Option V) where
  abbrev Filled : Option V → Type 0
  Filled o = MatchOption o ((r : R) × Made r × ((q : ResourceId) → after q ≡ with_at before id (Some (wrapped r)) q)) (λ v. (q : ResourceId) → after q ≡ before q)

  -- something is held then
  pub filled-some : IsFilled wrapped Made id before after → is_some (after id) ≡ true
  filled-some filled = told (before id) refl filled where
    told : (o : Option V) → before id ≡ o → Filled o → is_some (after id) ≡ true
    told None e (r, made, is) = ap is_some (is id) ∙ rw (same_id-refl id) refl
    told (Some v) e is = ap is_some (is id ∙ e)

  -- a value written at the id overwrites what was filled
  pub filled-with : IsFilled wrapped Made id before after → (x : Option V) (q : ResourceId) → with_at after id x q ≡ with_at before id x q
  filled-with filled x q = told (before id) filled where
    at : (w : Option V) (b : Bool) → same_id id q ≡ b → after q ≡ cond (same_id id q) w (before q) → cond b x (after q) ≡ cond b x (before q)
    at w true e is = refl
    at w false e is = is ∙ (λ i. cond (e i) w (before q))

    kept : (b : Bool) → after q ≡ before q → cond b x (after q) ≡ cond b x (before q)
    kept true is = refl
    kept false is = is

    told : (o : Option V) → Filled o → with_at after id x q ≡ with_at before id x q
    told None (r, made, is) = at (Some (wrapped r)) (same_id id q) refl (is q)
    told (Some v) is = kept (same_id id q) (is q)

  -- what is held is what was held, or what was made
  pub kept-or-made : ((r s : R) → wrapped r ≡ wrapped s → r ≡ s) → IsFilled wrapped Made id before after → (r : R) → after id ≡ Some (wrapped r) → IsKeptOrMade wrapped (before id) Made r
  kept-or-made once filled r there = told (before id) refl filled where
    told : (o : Option V) → before id ≡ o → Filled o → IsKeptOrMade wrapped o Made r
    told None e (s, made, is) =
        let same : wrapped s ≡ wrapped r = (let both : Some (wrapped s) ≡ Some (wrapped r) = sym (is id ∙ rw (same_id-refl id) refl) ∙ there in cc) in
        subst Made (once s r same) made
    told (Some v) e is = let both : Some v ≡ Some (wrapped r) = sym (is id ∙ e) ∙ there in cc

-- where something is held, the call is not refused because nothing is
pub never-missing : {X V E : Type 0} (Q : Type 0) (A : E → Type 0) (r : Result X E) (o : Option V) → is_some o ≡ true → IfErr r (λ e. A e × (o ≡ None)) → OnErr r Q
never-missing Q A (Ok x) o some missing = tt
never-missing Q A (Err e) o some missing = absurd (let no : true ≡ false = sym some ∙ ap is_some missing.1 in cc)

pub never-refused : {X V E : Type 0} (Q A : E → Type 0) (r : Result X E) (o : Option V) → is_some o ≡ true → IfErr r (λ e. A e × (o ≡ None)) → IfErr r Q
never-refused Q A (Ok x) o some missing = tt
never-refused Q A (Err e) o some missing = absurd (let no : true ≡ false = sym some ∙ ap is_some missing.1 in cc)
