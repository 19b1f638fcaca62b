-- What is held, and which values entities have, where the rows of one table are made anew.
use Rattle.std.proofs.Common.{◌≡◌, ℕ, ℤ, ◌+◌, ◌==◌, ◌&&◌, Bool, true, false, cond, nat_lt, Option, Some, None, refl, sym, ◌∙◌, ap, subst, arith}
use Rattle.std.specs.Prelude.{MatchOption, is_some}
use Rattle.std.proofs.lemmas.Bool.Decides.{nat_tests}
use Rattle.shred_table.specs.declared.id.ResourceId.{ResourceId}
use Rattle.shred_table.specs.declared.only.Only.{Only}
use Rattle.shred_table.specs.Id.{same_id}
use Rattle.shred_table.specs.Slots.{with_at}
use Rattle.shred_world.specs.Worked.{Held}
use Rattle.shredstore.specs.Rows.{IsChangedAt, Pairs, value_at}
use Rattle.shredstore.specs.Tables.{IsRemade, table_id, table_of, value_in, values_in}
use Rattle.shredstore.proofs.Told.{same_id-true}

module _ (made : ℕ → Option ℤ → Option ℤ) (table : ℕ) (before after : Held (Only Pairs)) where
  -- what is said where the table is, and where it is not
  abbrev Remade : Option (Only Pairs) → Type 0
  Remade there = MatchOption there
      ((id : ResourceId) → after id ≡ before id)
      (λ old. (rows : Pairs) × ((entity : ℕ) → value_at rows entity ≡ made entity (value_at old.0 entity)) × ((id : ResourceId) → after id ≡ with_at before (table_id table) (Some (table_of rows)) id))

  -- the entities have there what was made, and elsewhere what they had
  pub remade-values : ((entity : ℕ) → before (table_id table) ≡ None → made entity None ≡ None) → IsRemade made table before after
      → (entity other : ℕ) → values_in after entity other ≡ cond (table == other) (made entity (values_in before entity table)) (values_in before entity other)
  remade-values nothing remade entity other = told (before (table_id table)) refl remade where
    in_table : (there : Option (Only Pairs)) → before (table_id table) ≡ there → (b : Bool) → (table == other) ≡ b → values_in before entity other ≡ cond b (value_in there entity) (values_in before entity other)
    in_table there is true e = let same : other ≡ table = grind (arith, nat_tests) in ap (λ t. value_in (before (table_id t)) entity) same ∙ ap (λ o. value_in o entity) is
    in_table there is false e = refl

    with_rows : (old : Only Pairs) (rows : Pairs) → value_at rows entity ≡ made entity (value_at old.0 entity) → before (table_id table) ≡ Some old
        → (b : Bool) → value_in (cond b (Some (table_of rows)) (before (table_id other))) entity ≡ cond b (made entity (values_in before entity table)) (values_in before entity other)
    with_rows old rows is there true = is ∙ ap (λ o. made entity (value_in o entity)) (sym there)
    with_rows old rows is there false = refl

    told : (there : Option (Only Pairs)) → before (table_id table) ≡ there → Remade there → values_in after entity other ≡ cond (table == other) (made entity (values_in before entity table)) (values_in before entity other)
    told None is same = ap (λ o. value_in o entity) (same (table_id other)) ∙ in_table None is (table == other) refl ∙ ap (λ v. cond (table == other) v (values_in before entity other)) (sym (nothing entity is) ∙ ap (λ o. made entity (value_in o entity)) (sym is))
    told (Some old) is (rows, each, put) = ap (λ o. value_in o entity) (put (table_id other)) ∙ with_rows old rows (each entity) is (table == other)

  -- the same tables are held
  pub remade-held : IsRemade made table before after → (id : ResourceId) → is_some (after id) ≡ is_some (before id)
  remade-held remade id = told (before (table_id table)) refl remade where
    with_rows : (old : Only Pairs) (rows : Pairs) → before (table_id table) ≡ Some old → (b : Bool) → same_id (table_id table) id ≡ b → is_some (cond b (Some (table_of rows)) (before id)) ≡ is_some (before id)
    with_rows old rows there true e = sym (ap is_some (ap before (sym (same_id-true (table_id table) id e)) ∙ there))
    with_rows old rows there false e = refl

    told : (there : Option (Only Pairs)) → before (table_id table) ≡ there → Remade there → is_some (after id) ≡ is_some (before id)
    told None is same = ap is_some (same id)
    told (Some old) is (rows, each, put) = ap is_some (put id) ∙ with_rows old rows is (same_id (table_id table) id) refl

  -- what is held under another id stays
  pub remade-others : IsRemade made table before after → (id : ResourceId) → same_id (table_id table) id ≡ false → after id ≡ before id
  remade-others remade id other = told (before (table_id table)) remade where
    told : (there : Option (Only Pairs)) → Remade there → after id ≡ before id
    told None same = same id
    told (Some old) (rows, each, put) = put id ∙ ap (λ b. cond b (Some (table_of rows)) (before id)) other

  -- where these rows are put into a table that is there, it is made anew
  pub remade : (old rows : Pairs) → before (table_id table) ≡ Some (table_of old) → ((entity : ℕ) → value_at rows entity ≡ made entity (value_at old entity)) → ((id : ResourceId) → after id ≡ with_at before (table_id table) (Some (table_of rows)) id) → IsRemade made table before after
  remade old rows there each put = subst Remade (sym there) (rows, each, put)

  -- where there is none, nothing is
  pub not-remade : before (table_id table) ≡ None → ((id : ResourceId) → after id ≡ before id) → IsRemade made table before after
  not-remade nothing same = subst Remade (sym nothing) same

-- where an entity's value is taken from the first tables, or none is, and now so from the next one too, it is so of one table more
pub taken-more : (its : Bool) (from table : ℕ) (was before after : ℕ → Option ℤ) → ((t : ℕ) → before t ≡ cond (nat_lt t from && its) None (was t)) → after table ≡ cond (from == table) (cond its None (before from)) (before table)
    → after table ≡ cond (nat_lt table (from + 1) && its) None (was table)
taken-more its from table was before after gone now = now ∙ told (from == table) refl where
  unless_false : (b : Bool) (value : Option ℤ) → cond (b && false) None value ≡ value
  unless_false true value = refl
  unless_false false value = refl

  here : (b : Bool) → ((t : ℕ) → before t ≡ cond (nat_lt t from && b) None (was t)) → from ≡ table → nat_lt table (from + 1) ≡ true → cond b None (before from) ≡ cond (nat_lt table (from + 1) && b) None (was table)
  here true gone same below = sym (ap (λ b. cond (b && true) None (was table)) below)
  here false gone same below = gone from ∙ unless_false (nat_lt from from) (was from) ∙ ap was same ∙ sym (unless_false (nat_lt table (from + 1)) (was table))

  told : (b : Bool) → (from == table) ≡ b → cond b (cond its None (before from)) (before table) ≡ cond (nat_lt table (from + 1) && its) None (was table)
  told true e = here its gone (grind (arith, nat_tests)) (grind (arith, nat_tests))
  told false e = let same : nat_lt table from ≡ nat_lt table (from + 1) = grind (arith, nat_tests) in gone table ∙ ap (λ b. cond (b && its) None (was table)) same

-- a change at one entity, for every entity
pub changed-each : (old new : Pairs) (entity : ℕ) (value : Option ℤ) → IsChangedAt old new entity value → (other : ℕ) → value_at new other ≡ cond (entity == other) value (value_at old other)
changed-each old new entity value changed other = told (entity == other) refl where
  told : (b : Bool) → (entity == other) ≡ b → value_at new other ≡ cond b value (value_at old other)
  told true e = let same : other ≡ entity = grind (arith, nat_tests) in ap (value_at new) same ∙ changed.its
  told false e = changed.others other (λ same. grind (arith, nat_tests))
