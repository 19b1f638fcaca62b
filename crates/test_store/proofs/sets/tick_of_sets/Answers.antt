use Rattle.shredstore.specs.Stores.{rules_of}
use Rattle.test_store.proofs.OnlySets.{tells-none}
use Rattle.test_store.proofs.sets.tick_of_sets.Goals as goal

pub returns : goal.returns
returns c = tells-none (rules_of c.args.store.now) c.requires _ _ c.tick_seq.result c.tick_seq.ensures.dispatched
