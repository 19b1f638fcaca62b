-- What every list of a builder's calls keeps.
use Rattle.std.proofs.Common.{◌≡◌, ◌≢◌, ℕ, ◌<◌, ◌+◌, ◌⊎◌, inl, inr, ⊎_elim, Bool, true, false, cond, List, [], ◌∷◌, Some, None, refl, sym, ◌∙◌, ap, subst, arith}
use Rattle.std.proofs.lemmas.Slice.Eq.{bytes_eq-Decides}
use Rattle.std.specs.Str.{bytes_eq}
use Rattle.shred_model.specs.Plan.{PlanEntry, Plan, entry_at}
use Rattle.shred_model.specs.Record.{Agent}
use Rattle.shred_stage.specs.Added.{IsNewAt}
use Rattle.shred.specs.Built.{Built, IsConsistent}
use Rattle.shred_stage.specs.Earlier.{HasIdAt}
use Rattle.shred_stage.specs.Known.{Known, with_name}
use Rattle.shred_table.specs.declared.id.ResourceId.{ResourceId}

path-cases : (path place : List ℕ) → (path ≡ place) ⊎ (path ≢ place)
path-cases path place = told (bytes_eq path place) refl where
  told : (b : Bool) → bytes_eq path place ≡ b → (path ≡ place) ⊎ (path ≢ place)
  told true is = inl ((bytes_eq-Decides path place).0 is)
  told false is = inr (λ e. absurd (let f : false ≡ true = sym is ∙ (bytes_eq-Decides path place).1 e in cc))

-- where one more stands in a plan, an id stands at its place and is its own, or stands where it stood
placed-cases : {I : Type 0} (plan placed : Plan I) (place : Agent) (entry : PlanEntry I) → IsNewAt place (entry_at plan) (entry_at placed) entry → (path : Agent) (id : ℕ) → HasIdAt placed path id → ((path ≡ place) × (id ≡ entry.id)) ⊎ HasIdAt plan path id
placed-cases plan placed place entry new path id (found, at, is) =
    ⊎_elim
    (λ e. inl (e, (let f : Some found ≡ Some entry = sym at ∙ ap (entry_at placed) e ∙ new.stands in let same : found ≡ entry = cc in sym is ∙ ap (λ e. e.id) same)))
    (λ ne. inr (found, sym (new.others path ne) ∙ at, is))
    (path-cases path place)

-- where one more name is known, a name is the new one and stands for its id, or stands for what it stood for
known-cases : (known : Known) (name : List ℕ) (next : ℕ) (q : List ℕ) (id : ℕ) → with_name known name next q ≡ Some id → ((name ≡ q) × (id ≡ next)) ⊎ (known q ≡ Some id)
known-cases known [] next q id e = inr e
known-cases known (b ∷ bs) next q id e = told (bytes_eq (b ∷ bs) q) refl e where
  told : (t : Bool) → bytes_eq (b ∷ bs) q ≡ t → cond t (Some next) (known q) ≡ Some id → ((b ∷ bs ≡ q) × (id ≡ next)) ⊎ (known q ≡ Some id)
  told true is e = inl ((bytes_eq-Decides (b ∷ bs) q).0 is, (let f : Some next ≡ Some id = e in let same : id ≡ next = cc in same))
  told false is e = inr e

empty-stays : (known : Known) (name : List ℕ) (next : ℕ) → known [] ≡ None → with_name known name next [] ≡ None
empty-stays known [] next e = e
empty-stays known (b ∷ bs) next e = e

other-stays : (known : Known) (name : List ℕ) (next : ℕ) (q : List ℕ) → bytes_eq name q ≡ false → with_name known name next q ≡ known q
other-stays known [] next q is = refl
other-stays known (b ∷ bs) next q is = ap (λ t. cond t (Some next) (known q)) is

-- a new name was entered and taken away again
pub known-again : (known entered left : Known) (name : List ℕ) (next : ℕ) → known name ≡ None → ((q : List ℕ) → entered q ≡ with_name known name next q) → ((q : List ℕ) → left q ≡ cond (bytes_eq name q) None (entered q)) → (q : List ℕ) → left q ≡ known q
known-again known entered left name next is_new enters forgets q = forgets q ∙ told (bytes_eq name q) refl where
  told : (t : Bool) → bytes_eq name q ≡ t → cond t None (entered q) ≡ known q
  told true is = sym is_new ∙ ap known ((bytes_eq-Decides name q).0 is)
  told false is = enters q ∙ other-stays known name next q is

module _ {S L : Type 0} where
  -- without a plan and without names
  pub empty-consistent : (new : Built S L) → new.plan ≡ [] → ((name : List ℕ) → new.known name ≡ None) → IsConsistent new
  empty-consistent new empty unknown = record {
    below = λ place id there. absurd (nowhere place id there);
    one_place = λ place other id there here. absurd (nowhere place id there);
    names_below = λ name id e. absurd (let f : Some id ≡ None = sym e ∙ unknown name in cc);
    one_name = λ name other id e d. absurd (let f : Some id ≡ None = sym e ∙ unknown name in cc);
    empty_unknown = unknown [];
  } where
    nowhere-empty : (place : Agent) (found : PlanEntry ResourceId) → entry_at [] place ≡ Some found → ⊥
    nowhere-empty [] found at = absurd (let f : None ≡ Some found = at in cc)
    nowhere-empty (k ∷ rest) found at = absurd (let f : None ≡ Some found = at in cc)

    nowhere : (place : Agent) (id : ℕ) → HasIdAt new.plan place id → ⊥
    nowhere place id (found, at, same) = nowhere-empty place found (sym (ap (λ plan. entry_at plan place) empty) ∙ at)

  -- with the same plan, names and next id
  pub still-consistent : (old new : Built S L) → new.plan ≡ old.plan → ((name : List ℕ) → new.known name ≡ old.known name) → new.next ≡ old.next → IsConsistent old → IsConsistent new
  still-consistent old new plan known next before = record {
    below = λ place id there. subst (λ n. id < n) (sym next) (before.below place id (stood place id there));
    one_place = λ place other id there here. before.one_place place other id (stood place id there) (stood other id here);
    names_below = λ name id e. subst (λ n. id < n) (sym next) (before.names_below name id (sym (known name) ∙ e));
    one_name = λ name other id e d. before.one_name name other id (sym (known name) ∙ e) (sym (known other) ∙ d);
    empty_unknown = known [] ∙ before.empty_unknown;
  } where
    stood : (place : Agent) (id : ℕ) → HasIdAt new.plan place id → HasIdAt old.plan place id
    stood place id there = subst (λ p. HasIdAt p place id) plan there

  -- with one more entry of the next id, and its name
  pub entered-consistent : (old new : Built S L) (at : Agent) (entry : PlanEntry ResourceId) (name : List ℕ) → entry.id ≡ old.next → IsNewAt at (entry_at old.plan) (entry_at new.plan) entry
      → ((q : List ℕ) → new.known q ≡ with_name old.known name old.next q) → new.next ≡ old.next + 1 → IsConsistent old → IsConsistent new
  entered-consistent old new at entry name same_id is_new enters next before = record {
    below = λ place id there. below-next id (⊎_elim (λ here. inr (here.1 ∙ same_id)) (λ stood. inl (before.below place id stood)) (cases place id there));
    one_place = λ place other id there here. ⊎_elim
        (λ p. ⊎_elim (λ q. p.0 ∙ sym q.0) (λ stood. absurd (not-both id (p.1 ∙ same_id) (before.below other id stood))) (cases other id here))
        (λ stands. ⊎_elim (λ q. absurd (not-both id (q.1 ∙ same_id) (before.below place id stands))) (λ stood. before.one_place place other id stands stood) (cases other id here))
        (cases place id there);
    names_below = λ q id e. below-next id (⊎_elim (λ here. inr here.1) (λ stood. inl (before.names_below q id stood)) (names q id e));
    one_name = λ q r id e d. ⊎_elim
        (λ p. ⊎_elim (λ s. sym p.0 ∙ s.0) (λ stood. absurd (not-both id p.1 (before.names_below r id stood))) (names r id d))
        (λ stands. ⊎_elim (λ s. absurd (not-both id s.1 (before.names_below q id stands))) (λ stood. before.one_name q r id stands stood) (names r id d))
        (names q id e);
    empty_unknown = enters [] ∙ empty-stays old.known name old.next before.empty_unknown;
  } where
    cases : (place : Agent) (id : ℕ) → HasIdAt new.plan place id → ((place ≡ at) × (id ≡ entry.id)) ⊎ HasIdAt old.plan place id
    cases place id there = placed-cases old.plan new.plan at entry is_new place id there

    names : (q : List ℕ) (id : ℕ) → new.known q ≡ Some id → ((name ≡ q) × (id ≡ old.next)) ⊎ (old.known q ≡ Some id)
    names q id e = known-cases old.known name old.next q id (sym (enters q) ∙ e)

    below-next : (id : ℕ) → (id < old.next) ⊎ (id ≡ old.next) → id < new.next
    below-next id h = ⊎_elim (λ lt. omega (arith, lt, next)) (λ e. omega (arith, e, next)) h

    not-both : (id : ℕ) → id ≡ old.next → id < old.next → ⊥
    not-both id e lt = omega (arith, e, lt)
