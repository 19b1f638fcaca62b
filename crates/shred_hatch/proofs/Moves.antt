-- Each step of an end keeps the rule of a hatch.
use Rattle.std.proofs.Common.{◌≡◌, ℕ, zero, suc, List, [], ◌∷◌, ◌++◌, get_or, set, sym, refl, ap, ◌∙◌, subst, arith}
use Rattle.std.specs.Prelude.{Option, Some, None}
use mathlib.Core.Option.{some}
use lib.ListN.{get_elem?}
use Rattle.atomic_table.specs.Table.{State, Me, Act, keeps, takes, gives, Valid, stepped, carried_after, Allows, Splits, opening}
use Rattle.shred_hatch.specs.declared.view.View.{View}
use Rattle.shred_hatch.specs.declared.view.View.TheVariants.{Fresh, Paired, Holding, Sent, Ended, Idle, Working}
use Rattle.shred_hatch.specs.Phases.{Phase, alone, paired, free, sent, taken, done, ended, word_at, home_at, views_at, standing, holding, sending, working, handed_over, finished, Fact, Stands, collected, looked}

module _ {J : Type 0} (ready : J → Type 0) (ran : J → J → Type 0) where
  abbrev M : Type 0
  M = Me (Option J) (View J)

  abbrev Steps : ℕ → M → (ℕ → ℕ) → (ℕ → M → Type 0) → Phase J → Type 0
  Steps id me f then p = (w : View J) × (a : Act (Option J)) × Valid (home_at p ∷ []) me.1 a × Stands ready ran (stepped (standing p) 0 (f (word_at p)) id me.1 w a) × then (word_at p) (w, carried_after me.1 a)

  -- a step may be shown phase by phase
  by_phase : (slots id : ℕ) (me : M) (f : ℕ → ℕ) (then : ℕ → M → Type 0)
      → ((p : Phase J) → Fact ready ran p → get_elem? (views_at p) id ≡ some me.0 → Steps id me f then p)
      → Allows (Stands ready ran) slots id me 0 f then
  by_phase slots id me f then go s r _ at _ =
      let is : s ≡ standing r.0 = r.1 in
      let Next : State (Option J) (View J) → Type 0 = λ z. (w : View J) × (a : Act (Option J)) × Valid z.homes me.1 a × Stands ready ran (stepped z 0 (f (get_or z.words 0 0)) id me.1 w a) × then (get_or z.words 0 0) (w, carried_after me.1 a) in
      subst Next (sym is) (go r.0 r.2 (subst (λ (z : State (Option J) (View J)). get_elem? z.views id ≡ some me.0) is at))

  pub starts : Stands ready ran (opening (0 ∷ []) (None ∷ []) Fresh)
  starts = (alone, refl, tt)

  pub pairs : (id : ℕ) (v : View J) → v ≡ Fresh → Splits (Stands ready ran) id v Paired Idle
  pairs id v fresh s r there = let at : get_elem? s.views id ≡ some Fresh = there ∙ ap (λ (u : View J). some u) fresh in let is : s ≡ standing r.0 = r.1 in
      let Next : State (Option J) (View J) → Type 0 = λ z. Stands ready ran record { words = z.words; homes = z.homes; views = set z.views id Paired ++ Idle ∷ [] } in
      subst Next (sym is) (go id r.0 (subst (λ (z : State (Option J) (View J)). get_elem? z.views id ≡ some Fresh) is at))
    where
      go : (i : ℕ) (p : Phase J) → get_elem? (views_at p) i ≡ some Fresh → Stands ready ran record { words = word_at p ∷ []; homes = home_at p ∷ []; views = set (views_at p) i Paired ++ Idle ∷ [] }
      go zero alone e = (paired, refl, tt)
      go zero _ e = absurd (cc)
      go (suc zero) alone e = absurd (cc)
      go (suc zero) _ e = absurd (cc)
      go (suc (suc n)) alone e = absurd (cc)
      go (suc (suc n)) _ e = absurd (cc)

  pub picks_up : (slots id : ℕ) (me : M) → me ≡ (Paired, []) → Allows (Stands ready ran) slots id me 0 (λ n. n) (λ _ m. m ≡ holding None)
  picks_up slots id me at = subst (λ (v : M). Allows (Stands ready ran) slots id v 0 (λ n. n) (λ _ m. m ≡ holding None)) (sym at) (by_phase slots id (Paired, []) (λ n. n) (λ _ m. m ≡ holding None) (go id))
    where
      go : (i : ℕ) (p : Phase J) → Fact ready ran p → get_elem? (views_at p) i ≡ some Paired → Steps i (Paired, []) (λ n. n) (λ _ m. m ≡ holding None) p
      go zero paired _ e = (Holding, takes 0 None, refl, (free, refl, tt), refl)
      go zero _ _ e = absurd (cc)
      go (suc zero) alone _ e = absurd (cc)
      go (suc zero) _ _ e = absurd (cc)
      go (suc (suc n)) alone _ e = absurd (cc)
      go (suc (suc n)) _ _ e = absurd (cc)

  abbrev either_or : J → Option J → J
  either_or d None = d
  either_or d (Some z) = z

  abbrev first_of : J → List (ℕ × Option J) → J
  first_of d [] = d
  first_of d (c ∷ cs) = either_or d c.1

  pub hands_over : (slots id : ℕ) (me : M) (x : J) → me ≡ holding (Some x) → ready x → Allows (Stands ready ran) slots id me 0 (λ _. 1) (λ _ m. handed_over me m)
  hands_over slots id me x at may = subst (λ (v : M). Allows (Stands ready ran) slots id v 0 (λ _. 1) (λ _ m. handed_over v m)) (sym at) (by_phase slots id (holding (Some x)) (λ _. 1) (λ _ m. handed_over (holding (Some x)) m) (go id))
    where
      go : (i : ℕ) (p : Phase J) → Fact ready ran p → get_elem? (views_at p) i ≡ some Holding → Steps i (holding (Some x)) (λ _. 1) (λ _ m. handed_over (holding (Some x)) m) p
      go zero free _ e = (Sent x, gives, tt, (sent x, refl, may), λ y is. let same : x ≡ y = ap (λ (m : M). first_of x m.1) is in ap (λ (z : J). sending z) same)
      go zero _ _ e = absurd (cc)
      go (suc zero) alone _ e = absurd (cc)
      go (suc zero) _ _ e = absurd (cc)
      go (suc (suc n)) alone _ e = absurd (cc)
      go (suc (suc n)) _ _ e = absurd (cc)

  pub ends : (slots id : ℕ) (me : M) → me ≡ holding None → Allows (Stands ready ran) slots id me 0 (λ _. 2) (λ _ m. m.0 ≡ Ended)
  ends slots id me at = subst (λ (v : M). Allows (Stands ready ran) slots id v 0 (λ _. 2) (λ _ m. m.0 ≡ Ended)) (sym at) (by_phase slots id (holding None) (λ _. 2) (λ _ m. m.0 ≡ Ended) (go id))
    where
      go : (i : ℕ) (p : Phase J) → Fact ready ran p → get_elem? (views_at p) i ≡ some Holding → Steps i (holding None) (λ _. 2) (λ _ m. m.0 ≡ Ended) p
      go zero free _ e = (Ended, keeps, tt, (ended, refl, tt), refl)
      go zero _ _ e = absurd (cc)
      go (suc zero) alone _ e = absurd (cc)
      go (suc zero) _ _ e = absurd (cc)
      go (suc (suc n)) alone _ e = absurd (cc)
      go (suc (suc n)) _ _ e = absurd (cc)

  pub collects : (slots id : ℕ) (me : M) (x : J) → me ≡ sending x → Allows (Stands ready ran) slots id me 0 (λ n. n) (collected ran me)
  collects slots id me x at = subst (λ (v : M). Allows (Stands ready ran) slots id v 0 (λ n. n) (collected ran v)) (sym at) (by_phase slots id (sending x) (λ n. n) (λ r m. collected ran (sending x) r m) (go id))
    where
      go : (i : ℕ) (p : Phase J) → Fact ready ran p → get_elem? (views_at p) i ≡ some (Sent x) → Steps i (sending x) (λ n. n) (λ r m. collected ran (sending x) r m) p
      go zero (sent z) fact e = (Sent z, keeps, tt, (sent z, refl, fact), λ y is. ((λ no. absurd (omega arith)), λ _. let v : Sent x ≡ Sent y = ap (λ (m : M). m.0) is in let same : z ≡ y = cc in ap (λ (q : J). sending q) same))
      go zero (taken z) fact e = (Sent z, keeps, tt, (taken z, refl, fact), λ y is. ((λ no. absurd (omega arith)), λ _. let v : Sent x ≡ Sent y = ap (λ (m : M). m.0) is in let same : z ≡ y = cc in ap (λ (q : J). sending q) same))
      go zero (done z u) fact e = (Holding, takes 0 (Some u), refl, (free, refl, tt), λ y is. ((λ _. let v : Sent x ≡ Sent y = ap (λ (m : M). m.0) is in let same : z ≡ y = cc in (u, refl, subst (λ v. ran v u) same fact)), λ no. absurd (no refl)))
      go zero _ _ e = absurd (cc)
      go (suc zero) alone _ e = absurd (cc)
      go (suc zero) _ _ e = absurd (cc)
      go (suc (suc n)) alone _ e = absurd (cc)
      go (suc (suc n)) _ _ e = absurd (cc)

  pub fetches : (slots id : ℕ) (me : M) → finished me → Allows (Stands ready ran) slots id me 0 (λ n. n) (looked ready me)
  fetches slots id me at = subst (λ (v : M). Allows (Stands ready ran) slots id v 0 (λ n. n) (looked ready v)) (sym at) (by_phase slots id (Idle, []) (λ n. n) (λ r m. looked ready (Idle, []) r m) (go id))
    where
      go : (i : ℕ) (p : Phase J) → Fact ready ran p → get_elem? (views_at p) i ≡ some Idle → Steps i (Idle, []) (λ n. n) (λ r m. looked ready (Idle, []) r m) p
      go zero alone _ e = absurd (cc)
      go zero _ _ e = absurd (cc)
      go (suc zero) paired fact e = (Idle, keeps, tt, (paired, refl, tt), ((λ no. absurd (omega arith)), λ _. refl))
      go (suc zero) free fact e = (Idle, keeps, tt, (free, refl, tt), ((λ no. absurd (omega arith)), λ _. refl))
      go (suc zero) (sent z) fact e = (Working z, takes 0 (Some z), refl, (taken z, refl, tt), ((λ _. (z, refl, fact)), λ no. absurd (no refl)))
      go (suc zero) (done z u) fact e = (Idle, keeps, tt, (done z u, refl, fact), ((λ no. absurd (omega arith)), λ _. refl))
      go (suc zero) ended fact e = (Idle, keeps, tt, (ended, refl, tt), ((λ no. absurd (omega arith)), λ _. refl))
      go (suc zero) _ _ e = absurd (cc)
      go (suc (suc n)) alone _ e = absurd (cc)
      go (suc (suc n)) _ _ e = absurd (cc)

  pub finishes : (slots id : ℕ) (me : M) (x y : J) → me ≡ working x y → ran x y → Allows (Stands ready ran) slots id me 0 (λ _. 0) (λ _ m. finished m)
  finishes slots id me x y at did = subst (λ (v : M). Allows (Stands ready ran) slots id v 0 (λ _. 0) (λ _ m. finished m)) (sym at) (by_phase slots id (working x y) (λ _. 0) (λ _ m. finished m) (go id))
    where
      go : (i : ℕ) (p : Phase J) → Fact ready ran p → get_elem? (views_at p) i ≡ some (Working x) → Steps i (working x y) (λ _. 0) (λ _ m. finished m) p
      go zero alone _ e = absurd (cc)
      go zero _ _ e = absurd (cc)
      go (suc zero) (taken z) _ e = let same : x ≡ z = cc in (Idle, gives, tt, (done z y, refl, subst (λ v. ran v y) same did), refl)
      go (suc zero) _ _ e = absurd (cc)
      go (suc (suc n)) alone _ e = absurd (cc)
      go (suc (suc n)) _ _ e = absurd (cc)
