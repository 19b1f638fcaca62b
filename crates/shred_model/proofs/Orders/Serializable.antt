-- A run of framed records leaves what one thread leaves.
use Rattle.std.proofs.Common.{List}
use Rattle.shred_model.specs.Record.{Record, Agent}
use Rattle.shred_model.specs.Replay.{Configuration, Replays}
use Rattle.shred_model.specs.Runs.{Answer, Ran}
use Rattle.shred_model.specs.Serializable.{IsSerializable}
use Rattle.shred_model.proofs.Records.Telling.{Tells, tell_agents}
use Rattle.shred_model.proofs.Orders.Reorder.{reordered}
use Rattle.shred_model.proofs.Records.Framed.{AllFramed}

module _ {I V S O : Type 0} (tell_ids : Tells I) where
  pub as_one_thread : (IsRun : List (Record Agent I V S O) → Type 0) (list : List (Record Agent I V S O)) (x y : Configuration Agent I V S)
      → IsRun list → AllFramed list → Replays x list y → IsSerializable IsRun x y
  as_one_thread IsRun list x y run framed replays = record {
    list = list;
    run = run;
    replays = replays;
    any_order = λ moved from kept. reordered tell_agents tell_ids moved list from x y kept framed replays;
  }

  -- the same, of a kind of run whose records are framed
  pub Ran-as_one_thread : {F : Type 0} (Run : List (Record Agent I V S O) → Answer F → Type 0) (x : Configuration Agent I V S) (answer : Answer F) (y : Configuration Agent I V S)
      → ((list : List (Record Agent I V S O)) (a : Answer F) → Run list a → AllFramed list) → Ran Run x answer y → IsSerializable (λ list. Run list answer) x y
  Ran-as_one_thread Run x answer y framed ran = as_one_thread (λ list. Run list answer) ran.list x y ran.run (framed ran.list answer ran.run) ran.replays
