-- What a system leaves that adds 1 to the number which its setup holds.
use Rattle.std.proofs.Common.{◌≡◌, ℤ, pos, Option, Some, None, Ok, refl, sym, ◌∙◌, ap}
use Rattle.std.specs.Int.{w64, int_wrapping_add}
use Rattle.std.specs.Option.{IfSome, MatchOption, option_map}
use Rattle.shred_table.specs.Slots.{with_at}
use Rattle.shred_table.specs.declared.id.ResourceId.{ResourceId}
use Rattle.shred_table.specs.declared.only.Only.{Only}
use Rattle.shred_world.specs.Worked.{Held}
use Rattle.example_systems.specs.Numbers.{number_id, number_value}
use Rattle.example_systems.specs.SetUp.{HoldsNumber, number_or_zero, one_more}
use Rattle.example_systems.specs.declared.set_up.CountUp.{CountUp}

module _ (before left : CountUp) (seen values : Held (Only ℤ)) where
  -- after a setup that is Done the number is held that was, or 0
  holds : HoldsNumber before seen (Ok tt) left values → values (number_id 0) ≡ Some (number_value (number_or_zero (seen (number_id 0))))
  holds filled = at (seen (number_id 0)) refl filled where
    at : (held : Option (Only ℤ)) → seen (number_id 0) ≡ held → MatchOption held
        ((made : ℤ) × (made ≡ pos 0) × ((q : ResourceId) → values q ≡ with_at seen (number_id 0) (Some (number_value made)) q))
        (λ value. (q : ResourceId) → values q ≡ seen q)
        → values (number_id 0) ≡ Some (number_value (number_or_zero (seen (number_id 0))))
    at None was (made, zero, put) = put (number_id 0) ∙ ap (λ (n : ℤ). Some (number_value n)) (zero ∙ sym (ap number_or_zero was))
    at (Some value) was same = same (number_id 0) ∙ was ∙ ap (λ (n : ℤ). Some (number_value n)) (sym (ap number_or_zero was))

  -- and after a step that is Done one more
  pub counted-up : (last : Held (Only ℤ)) (number : Option ℤ) → HoldsNumber before seen (Ok tt) left values → last (number_id 0) ≡ option_map one_more (values (number_id 0)) → option_map number_value number ≡ last (number_id 0)
      → IfSome number (λ counted. counted ≡ int_wrapping_add w64 (number_or_zero (seen (number_id 0))) (pos 1))
  counted-up last None filled added held = tt
  counted-up last (Some counted) filled added held = ap number_or_zero (held ∙ added ∙ ap (option_map one_more) (holds filled))
