-- What lies in the slot that an end has.
use Rattle.std.proofs.Common.{◌≡◌, ℕ, List, [], ◌∷◌, sym, ap, ◌∙◌}
use Rattle.std.specs.Prelude.{Option}
use Rattle.atomic_table.specs.Table.{Me, rest}
use Rattle.shred_hatch.specs.declared.view.View.{View}
use Rattle.shred_hatch.specs.declared.view.View.TheVariants.{Sent}
use Rattle.shred_hatch.specs.Phases.{sending}

module _ {J : Type 0} where
  abbrev first_or : Option J → List (ℕ × Option J) → Option J
  first_or d [] = d
  first_or d (c ∷ cs) = c.1

  pub has_slot : (me : Me (Option J) (View J)) (v : View J) (z : Option J) → me ≡ (v, (0, z) ∷ []) → me.1 ≡ (0, z) ∷ rest me.1
  has_slot me v z is = ap (λ (m : Me (Option J) (View J)). m.1) is ∙ ap (λ (m : Me (Option J) (View J)). (0, z) ∷ rest m.1) (sym is)

  pub in_slot : (me : Me (Option J) (View J)) (v : View J) (z r : Option J) → me ≡ (v, (0, z) ∷ []) → me.1 ≡ (0, r) ∷ rest me.1 → r ≡ z
  in_slot me v z r is at = ap (λ (l : List (ℕ × Option J)). first_or z l) (sym at ∙ ap (λ (m : Me (Option J) (View J)). m.1) is)

  pub now_in_slot : (me new : Me (Option J) (View J)) (v : View J) (z n : Option J) → me ≡ (v, (0, z) ∷ []) → new ≡ (me.0, (0, n) ∷ rest me.1) → new ≡ (v, (0, n) ∷ [])
  now_in_slot me new v z n is to = to ∙ ap (λ (m : Me (Option J) (View J)). (m.0, (0, n) ∷ rest m.1)) is

  pub one_sent : (me : Me (Option J) (View J)) (x y : J) → me ≡ sending x → me ≡ sending y → x ≡ y
  one_sent me x y a b = let v : Sent x ≡ Sent y = ap (λ (m : Me (Option J) (View J)). m.0) (sym a ∙ b) in cc
