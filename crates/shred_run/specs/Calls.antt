-- What a clause says of a call of a closure with an element that it may write.
use Rattle.std.specs.Prelude.{◌≡◌}
use Rattle.std.specs.Fn.{Shared}
use denote.Ref.{MutBor}
use Rattle.shred_model.specs.Runs.{Answer}

module _ {G X F : Type 0} (calls : Shared G (MutBor X × Unit {0}) (Answer F × (MutBor X × Unit {0}))) (run : G) where
  -- the closure may be called with the element
  abbrev pub Accepts : X → Type 0
  Accepts x = (lane : MutBor X) → lane.now ≡ x → calls.pre run (lane, tt)

  -- A call of the closure with the element may answer so, and leave that.
  pub record Calls (x : X) (answer : Answer F) (y : X) : Type 0 where
    pub lane : MutBor X
    pub lane_is : lane.now ≡ x
    pub after_call : MutBor X
    pub call : calls.post run (lane, tt) (answer, (after_call, tt))
    pub left : after_call.now ≡ y
