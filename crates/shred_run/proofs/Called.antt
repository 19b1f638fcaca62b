-- Elements that a closure was called with.
use Rattle.std.proofs.Common.{List, [], ◌∷◌, subst}
use Rattle.std.specs.Fn.{Shared}
use denote.Ref.{MutBor}
use Rattle.shred_model.specs.Beside.{AllWent}
use Rattle.shred_model.specs.Runs.{Answer}
use Rattle.shred_run.specs.Calls.{Calls}

-- they went in each relation in which its clauses say that a call lies
pub AllWent-called : {G X F : Type 0} (calls : Shared G (MutBor X × Unit {0}) (Answer F × (MutBor X × Unit {0}))) (run : G) (Went : X → Answer F → X → Type 0)
    → ((lane after : MutBor X) (a : Answer F) → calls.post run (lane, tt) (a, (after, tt)) → Went lane.now a after.now) → (xs : List X) (a : Answer F) (ys : List X) → AllWent (Calls calls run) xs a ys → AllWent Went xs a ys
AllWent-called calls run Went says [] a [] went = went
AllWent-called calls run Went says [] a (y ∷ ys) went = absurd went
AllWent-called calls run Went says (x ∷ xs) a [] went = absurd went
AllWent-called {X = X} calls run Went says (x ∷ xs) a (y ∷ ys) (b, c, one, rest, is) =
    let from : Went x b one.after_call.now = subst (λ (z : X). Went z b one.after_call.now) one.lane_is (says one.lane one.after_call b one.call) in
    (b, c, subst (λ (z : X). Went x b z) one.left from, AllWent-called calls run Went says xs c ys rest, is)
