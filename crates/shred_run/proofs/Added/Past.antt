-- A list of records may go before another one of which each record is independent of each of its own.
use Rattle.std.proofs.Common.{List, [], ◌∷◌, ◌++◌}
use Rattle.std.specs.List.{AllByRecursion}
use Rattle.shred_model.specs.Record.{Record, Independent, IsFramed}
use Rattle.shred_model.specs.Replay.{Configuration, Replays}
use Rattle.shred_model.proofs.Orders.ReplaySteps.{AreAlike-refl}
use Rattle.shred_model.proofs.Orders.Swap.{swapped}
use Rattle.shred_model.proofs.Records.Framed.{AllFramed}
use Rattle.shred_model.proofs.Records.Telling.{Tells}

-- a replay of joined lists comes by what the first leaves
pub Replays-split : {A I V S O : Type 0} (x y : Configuration A I V S) (list more : List (Record A I V S O)) → Replays x (list ++ more) y → (m : Configuration A I V S) × Replays x list m × Replays m more y
Replays-split x y [] more then = (x, AreAlike-refl x, then)
Replays-split x y (r ∷ list) more (m, goes, then) = let rest = Replays-split m y list more then in (rest.0, (m, goes, rest.1), rest.2)

module _ {A I V S O : Type 0} (tell_agents : Tells A) (tell_ids : Tells I) where
  -- one record, past a list
  record_past : (r : Record A I V S O) (list more : List (Record A I V S O)) (x y : Configuration A I V S) → AllByRecursion (Independent r) list → IsFramed r → AllFramed list → Replays x (r ∷ (list ++ more)) y → Replays x (list ++ r ∷ more) y
  record_past r [] more x y free framed all then = then
  record_past r (q ∷ list) more x y free framed all (m, goes, (n, next, then)) =
      let change = swapped tell_agents tell_ids r q free.0 framed all.0 x m n goes next in
      (change.0, change.1, record_past r list more change.0 y free.1 framed all.1 (n, change.2, then))

  -- a list, past another one
  pub list_past : (first second more : List (Record A I V S O)) (x y : Configuration A I V S) → AllByRecursion (λ r. AllByRecursion (Independent r) second) first → AllFramed first → AllFramed second
      → Replays x (first ++ (second ++ more)) y → Replays x (second ++ (first ++ more)) y
  list_past [] second more x y free framed all then = then
  list_past (r ∷ first) second more x y free framed all (m, goes, then) =
      record_past r second (first ++ more) x y free.0 framed.0 all (m, goes, list_past first second more m y free.1 framed.1 all then)
