-- What a rule reads and writes, and what one run of it does.
use Rattle.std.specs.Prelude.{◌≡◌, ◌↔◌, ℕ, List, [], ◌∷◌, Contains, MatchResult}
use Rattle.shred_model.specs.Access.{Access}
use Rattle.shred_run.specs.Steps.{Step}
use Rattle.shred_run.specs.declared.system.Fault.{Fault}
use Rattle.shred_run.specs.declared.system.Fault.TheVariants.{OutOfMemory, Refused}
use Rattle.shred_table.specs.declared.id.ResourceId.{ResourceId}
use Rattle.shred_table.specs.declared.only.Only.{Only}
use Rattle.shredstore.specs.declared.rule.Overflow.{Overflow}
use Rattle.shredstore.specs.Facts.{Values}
use Rattle.shredstore.specs.Meaning.{Meaning}
use Rattle.shredstore.specs.Rows.{Pairs}
use Rattle.shredstore.specs.Rules.{RefusesNone, IsFirstRefused, applied}
use Rattle.shredstore.specs.Tables.{table_id, values_in}

-- the table that it reads
abbrev pub rule_reads : Meaning → List ResourceId
rule_reads rule = table_id rule.read ∷ []

-- and the one that it writes
abbrev pub rule_writes : Meaning → List ResourceId
rule_writes rule = table_id rule.written ∷ []

-- These lists are kept of the rule.
pub record HasListsOf (rule : Meaning) (access : Access ResourceId) : Type 0 where
  pub same_reads : (id : ResourceId) → Contains access.reads id ↔ Contains (rule_reads rule) id
  pub same_writes : access.writes ≡ rule_writes rule

-- a rule is refused for the first entity whose values are refused, and never for want of memory
abbrev pub IsRuleFault : Meaning → Values → Fault Overflow → Type 0
IsRuleFault rule value (Refused overflow) = IsFirstRefused rule value overflow.entity
IsRuleFault rule value OutOfMemory = ⊥

-- A run keeps the rule. Where it is Done, it is refused for no entity, and the entities have what the rule makes of their values; where it is refused, nothing changes.
abbrev pub AppliesRule : {S : Type 0} → (S → Meaning) → Step (Only Pairs) S Overflow
AppliesRule meaning rule seen outcome after left = (after ≡ rule) × MatchResult outcome
    (λ done. RefusesNone (meaning rule) (values_in seen) × ((entity table : ℕ) → values_in left entity table ≡ applied (meaning rule) (values_in seen) entity table))
    (λ fault. IsRuleFault (meaning rule) (values_in seen) fault × ((id : ResourceId) → left id ≡ seen id))
