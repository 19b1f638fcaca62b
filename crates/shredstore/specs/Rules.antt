-- What rules make of the values of entities.
use Rattle.std.specs.Prelude.{ℕ, ℤ, ◌==◌, nat_lt, cond, List, [], ◌∷◌, Option, Some, None, ◌≡◌}
use Rattle.shredstore.specs.Facts.{Values}
use Rattle.shredstore.specs.Meaning.{Meaning}
use Rattle.shredstore.specs.Rows.{IsLeastRefused, NoneRefused, made_beside}
use Rattle.shredstore.specs.Contents.{Contents}

-- what the entities have in one table
abbrev pub in_table : Values → ℕ → ℕ → Option ℤ
in_table value table entity = value entity table

-- these in the table, and in each other table what was there
abbrev pub with_table : Values → ℕ → (ℕ → Option ℤ) → Values
with_table value table column entity other = cond (table == other) (column entity) (value entity other)

-- each entity with a value in both tables of the rule has in the one that it writes what it makes of the two
abbrev pub applied : Meaning → Values → Values
applied rule value = with_table value rule.written (λ entity. made_beside rule (value entity rule.written) (value entity rule.read))

-- the rule is refused for no entity's values
abbrev pub RefusesNone : Meaning → Values → Type 0
RefusesNone rule value = NoneRefused rule (in_table value rule.written) (in_table value rule.read)

-- it is refused for those of this entity, which is the least such one
abbrev pub IsFirstRefused : Meaning → Values → ℕ → Type 0
IsFirstRefused rule value entity = IsLeastRefused rule (in_table value rule.written) (in_table value rule.read) entity

-- the first table of the rule that is not among so many
abbrev pub missing : ℕ → Meaning → Option ℕ
missing tables rule = cond (nat_lt rule.written tables) (cond (nat_lt rule.read tables) None (Some rule.read)) (Some rule.written)

-- the first one, or else the second
abbrev pub first_of : Option ℕ → Option ℕ → Option ℕ
first_of (Some table) other = Some table
first_of None other = other

module _ {R : Type 0} (meaning : R → Meaning) where
  -- the rules, applied one after the other in this order
  abbrev pub applied_all : List R → Values → Values
  applied_all [] value = value
  applied_all (rule ∷ rules) value = applied_all rules (applied (meaning rule) value)

  -- the first table that is not among so many, of the first rule that has one
  abbrev pub first_missing : ℕ → List R → Option ℕ
  first_missing tables [] = None
  first_missing tables (rule ∷ rules) = first_of (missing tables (meaning rule)) (first_missing tables rules)

  -- the store has after what the rules, applied in this order, make of what it had
  abbrev pub AppliesAll : List R → (old new : Contents) → Type 0
  AppliesAll rules old new = (entity table : ℕ) → new.facts.value entity table ≡ applied_all rules old.facts.value entity table
