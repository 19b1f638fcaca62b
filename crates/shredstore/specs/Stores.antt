-- What a store has, and where it stands.
use Rattle.std.specs.Prelude.{ℕ, List}
use Rattle.shred.specs.Dispatchers.{dispatcher_over, dispatcher_workers}
use Rattle.shred.specs.KeptDispatchers.{dispatcher_of}
use Rattle.shred.specs.declared.dispatch.dispatcher.Dispatcher.{Dispatcher}
use Rattle.shred.specs.declared.dispatch.kept_dispatcher.KeptDispatcher.{KeptDispatcher}
use Rattle.shred_run.specs.declared.no_batch.NoBatch.{NoBatch}
use Rattle.shred_run.specs.declared.now.Now.{Now}
use Rattle.shred_table.specs.declared.only.Only.{Only}
use Rattle.shredstore.specs.declared.rule.Overflow.{Overflow}
use Rattle.shredstore.specs.declared.store.StoreOver.{StoreOver}
use Rattle.shredstore.specs.Contents as contents
use Rattle.shredstore.specs.EntityFacts as entities
use Rattle.shredstore.specs.Plans.{RuleState}
use Rattle.shredstore.specs.Rows.{Pairs}
use Rattle.shredstore.specs.Tables.{table_kind}
use Rattle.shredstore.specs.Ticks.{StoreState}

-- its facts, the number of the next entity, and how many tables there are
abbrev pub contents_of : {R D : Type 0} {dd : _} → StoreOver R D dd → contents.Contents
contents_of store = entities.contents_in store.entities

-- its rules, in order
abbrev pub rules_of : {R D : Type 0} {dd : _} → StoreOver R D dd → List R
rules_of store = store.rules.items

-- its rules, what it has, and the plan of its rules over its tables
abbrev pub store_state : {R N A M B : Type 0} {vd : _} {sd : _} {ad : _} {cd : _} {bd : _} {dd : _} → StoreOver R (Dispatcher (Only Pairs) (RuleState R) (NoBatch Overflow) (Now (RuleState R)) N A M B vd sd ad cd bd) dd → StoreState R
store_state store = record { rules = rules_of store; contents = contents_of store; situation = dispatcher_over table_kind store.runner store.entities.world }

-- the same, where it runs on workers that are kept
abbrev pub kept_store_state : {T R N A B : Type 0} {vd : _} {sd : _} {ad : _} {cd : _} {bd : _} {dd : _} → StoreOver R (KeptDispatcher T (Only Pairs) (RuleState R) (NoBatch Overflow) (Now (RuleState R)) N A B vd sd ad cd bd) dd → StoreState R
kept_store_state store = record { rules = rules_of store; contents = contents_of store; situation = dispatcher_over table_kind (dispatcher_of store.runner) store.entities.world }

-- on how many threads it runs its rules at most
abbrev pub threads_of : {T R N A B : Type 0} {vd : _} {sd : _} {ad : _} {cd : _} {bd : _} {dd : _} → StoreOver R (KeptDispatcher T (Only Pairs) (RuleState R) (NoBatch Overflow) (Now (RuleState R)) N A B vd sd ad cd bd) dd → ℕ
threads_of store = dispatcher_workers (dispatcher_of store.runner)
