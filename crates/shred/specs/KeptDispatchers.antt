-- Dispatchers with workers that are kept.
use Rattle.std.specs.Prelude.{◌≡◌}
use Rattle.shred.specs.Dispatchers.{dispatcher_locals, dispatcher_workers}
use Rattle.shred.specs.declared.dispatch.dispatcher.Dispatcher.{Dispatcher}
use Rattle.shred.specs.declared.dispatch.kept_dispatcher.KeptDispatcher.{KeptDispatcher}

-- the dispatcher whose workers are kept
abbrev pub dispatcher_of : {R V S C L N A B : Type 0} {vd : _} {sd : _} {ad : _} {cd : _} {bd : _} → KeptDispatcher R V S C L N A B vd sd ad cd bd → Dispatcher V S C L N A N B vd sd ad cd bd
dispatcher_of kept = kept.dispatcher

module _ {R V S C L N A B : Type 0} {vd : _} {sd : _} {ad : _} {cd : _} {bd : _} where
  -- the thread-local systems stay
  abbrev pub KeepsLocals : (old new : KeptDispatcher R V S C L N A B vd sd ad cd bd) → Type 0
  KeepsLocals old new = dispatcher_locals new.dispatcher ≡ dispatcher_locals old.dispatcher

  -- the number of workers that a dispatch without kept ones starts stays
  abbrev pub KeepsWorkers : (old new : KeptDispatcher R V S C L N A B vd sd ad cd bd) → Type 0
  KeepsWorkers old new = dispatcher_workers new.dispatcher ≡ dispatcher_workers old.dispatcher
