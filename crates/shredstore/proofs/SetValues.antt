-- What stays so where a live entity is given a value in a table that is there, or is refused it.
use Rattle.std.proofs.Common.{◌≡◌, ℕ, ℤ, ◌==◌, Bool, true, false, cond, Option, Some, None, Result, Ok, Err, refl, sym, ◌∙◌, ap, subst, arith}
use Rattle.std.specs.Prelude.{IsSome, OnErr, OnOk, is_some}
use Rattle.std.proofs.lemmas.Bool.Decides.{nat_tests}
use Rattle.shred_table.specs.declared.id.ResourceId.{ResourceId}
use Rattle.shred_table.specs.declared.only.Only.{Only}
use Rattle.shred_world.specs.Worked.{Held}
use Rattle.shredstore.specs.Facts.{OnlyLive}
use Rattle.shredstore.specs.Rows.{Pairs}
use Rattle.shredstore.specs.Tables.{IsRemade, giving, table_id, value_in, values_in}
use Rattle.shredstore.proofs.RemadeTables.{remade-held, remade-values}

module _ (entity table : ℕ) (value : ℤ) (before after : Held (Only Pairs)) where
  -- the same tables are held
  pub kept-tables : {A E : Type 0} (result : Result A E) → OnOk result (IsRemade (giving entity (Some value)) table before after) → OnErr result ((id : ResourceId) → after id ≡ before id) → (id : ResourceId) → is_some (after id) ≡ is_some (before id)
  kept-tables (Ok had) remade unchanged id = remade-held (giving entity (Some value)) table before after remade id
  kept-tables (Err error) remade unchanged id = ap is_some (unchanged id)

  module _ (live : ℕ → Bool) (is_live : live entity ≡ true) (there : is_some (before (table_id table)) ≡ true) (only : OnlyLive live (values_in before)) where
    -- and live entities alone have values
    pub kept-live : {A E : Type 0} (result : Result A E) → OnOk result (IsRemade (giving entity (Some value)) table before after) → OnErr result ((id : ResourceId) → after id ≡ before id) → OnlyLive live (values_in after)
    kept-live (Ok had) remade unchanged other column some = told (table == column) refl (entity == other) refl some where
      nothing : (e : ℕ) → before (table_id table) ≡ None → giving entity (Some value) e None ≡ None
      nothing e is = absurd (let no : true ≡ false = sym there ∙ ap is_some is in cc)

      told : (b : Bool) → (table == column) ≡ b → (c : Bool) → (entity == other) ≡ c → IsSome (values_in after other column) → live other ≡ true
      told true e true f some = let same : other ≡ entity = grind (arith, nat_tests) in ap live same ∙ is_live
      told true e false f some = only other table (sym (ap is_some (remade-values (giving entity (Some value)) table before after nothing remade other column ∙ (λ i. cond (e i) (cond (f i) (Some value) (values_in before other table)) (values_in before other column)))) ∙ some)
      told false e c f some = only other column (sym (ap is_some (remade-values (giving entity (Some value)) table before after nothing remade other column ∙ (λ i. cond (e i) (giving entity (Some value) other (values_in before other table)) (values_in before other column)))) ∙ some)
    kept-live (Err error) remade unchanged other column some = only other column (sym (ap is_some (ap (λ o. value_in o other) (unchanged (table_id column)))) ∙ some)

-- a value that is left where those of an entity were taken from a table was there
pub left-was-there : (entity table : ℕ) (before after : Held (Only Pairs)) → IsRemade (giving entity None) table before after → (other column : ℕ) → IsSome (values_in after other column) → IsSome (values_in before other column)
left-was-there entity table before after remade other column some =
    told (table == column) refl (entity == other) (subst IsSome (remade-values (giving entity None) table before after (λ e nothing. none (entity == e)) remade other column) some) where
      none : (b : Bool) → ◌≡◌ {A = Option ℤ} (cond b None None) None
      none true = refl
      none false = refl

      told : (b : Bool) → (table == column) ≡ b → (c : Bool) → IsSome (cond b (cond c None (values_in before other table)) (values_in before other column)) → IsSome (values_in before other column)
      told true e true some = absurd (let no : false ≡ true = some in cc)
      told true e false some = let same : table ≡ column = grind (arith, nat_tests) in subst (λ (t : ℕ). IsSome (values_in before other t)) same some
      told false e c some = some
