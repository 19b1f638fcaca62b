-- A value that some records step on, and the others leave.
use Rattle.std.proofs.Common.{◌≡◌, ◌≢◌, ℕ, zero, suc, ◌+◌, Bool, true, false, ◌==◌, cond, List, [], ◌∷◌, Some, inl, inr, ◌⊎◌, sym, ap, subst, refl, ◌∙◌, arith}
use Rattle.std.specs.List.{AllZip}
use Rattle.std.proofs.lemmas.Bool.Decides.{nat_tests}
use Rattle.shred_model.specs.Access.{Declares}
use Rattle.shred_model.specs.Record.{Record}
use Rattle.shred_model.specs.Replay.{Configuration, Goes, Replays}
use Rattle.shredmeasure.specs.Adders.{occurrences}

-- so many steps on
abbrev pub steps_on : {V : Type 0} → (V → V) → ℕ → V → V
steps_on next zero v = v
steps_on next (suc n) v = steps_on next n (next v)

module _ {A I V S O : Type 0} (Made : ℕ → Record A I V S O → Type 0) (next : V → V) (id : I) (k : ℕ)
    (hit : (r : Record A I V S O) → Made k r → Declares r.access id × ((v : V) → r.seen id ≡ Some v → r.left id ≡ Some (next v)))
    (miss : (n : ℕ) (r : Record A I V S O) → n ≢ k → Made n r → Declares r.access id → r.left id ≡ r.seen id)
    (decide : (r : Record A I V S O) → Declares r.access id ⊎ (Declares r.access id → ⊥)) where
  gone_hit : (r : Record A I V S O) (x y : Configuration A I V S) (v : V) → Made k r → Goes r x y → x.values id ≡ Some v → y.values id ≡ Some (next v)
  gone_hit r x y v made goes here = let h = hit r made in goes.puts id h.0 ∙ h.1 v (sym (goes.finds id h.0) ∙ here)

  gone_miss : (n : ℕ) (r : Record A I V S O) (x y : Configuration A I V S) → n ≢ k → Made n r → Goes r x y → y.values id ≡ x.values id
  gone_miss n r x y other made goes = elim (decide r) [
    | inl declared ↦ goes.puts id declared ∙ miss n r other made declared ∙ sym (goes.finds id declared)
    | inr out ↦ goes.other_values id out
  ]

  -- one record, and then what the others make of any value
  turn : (t : Bool) (n c : ℕ) (r : Record A I V S O) (x mid y : Configuration A I V S) (v : V) → (n == k) ≡ t → Made n r → Goes r x mid → x.values id ≡ Some v
      → ((w : V) → mid.values id ≡ Some w → y.values id ≡ Some (steps_on next c w)) → y.values id ≡ Some (steps_on next (cond t 1 0 + c) v)
  turn true n c r x mid y v same made goes here more =
      let is : n ≡ k = grind (arith, nat_tests) in
      let one : suc c ≡ 1 + c = omega arith in
      more (next v) (gone_hit r x mid v (subst (λ (m : ℕ). Made m r) is made) goes here) ∙ ap (λ m. Some (steps_on next m v)) one
  turn false n c r x mid y v other made goes here more =
      let ne : n ≢ k = λ e. absurd (grind (arith, nat_tests)) in
      let none : c ≡ 0 + c = omega arith in
      more v (gone_miss n r x mid ne made goes ∙ here) ∙ ap (λ m. Some (steps_on next m v)) none

  -- the value ends as many steps on as there are records of this number
  pub counted : (ns : List ℕ) (rs : List (Record A I V S O)) (x y : Configuration A I V S) (v : V) → AllZip Made ns rs → Replays x rs y → x.values id ≡ Some v → y.values id ≡ Some (steps_on next (occurrences k ns) v)
  counted [] [] x y v made like here = like.values id ∙ here
  counted [] (r ∷ rs) x y v made gone here = absurd made
  counted (n ∷ ns) [] x y v made gone here = absurd made
  counted (n ∷ ns) (r ∷ rs) x y v made (mid, goes, more) here =
      turn (n == k) n (occurrences k ns) r x mid y v refl made.0 goes here (λ w there. counted ns rs mid y w made.1 more there)
