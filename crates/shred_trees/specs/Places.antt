-- Calls with a value that is lent to be written.
use Rattle.std.specs.Prelude.{◌≡◌}
use Rattle.std.specs.Borrow.{MutBor}

-- the call may be made while this value is lent
abbrev pub AcceptsBeside : {T W : Type 0} → (T → MutBor W → Type 0) → T → W → Type 0
AcceptsBeside {W = W} pre x w = (lent : MutBor W) → lent.now ≡ w → pre x lent

-- the call was made while the first value was lent, and left the second
pub record CallsBeside {T W R : Type 0} (post : T → MutBor W → R → MutBor W → Type 0) (x : T) (before : W) (result : R) (after : W) : Type 0 where
  pub lent : MutBor W
  pub lent_is : lent.now ≡ before
  pub left : MutBor W
  pub left_is : left.now ≡ after
  pub call : post x lent result left
