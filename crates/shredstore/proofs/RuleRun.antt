-- What a run of a rule makes of the declared values, from what it makes of all that the view shows.
use Rattle.std.proofs.Common.{◌≡◌, ◌==◌, ℕ, ℤ, Bool, true, false, cond, Option, Some, None, refl, sym, ◌∙◌, ap, subst, subst₂}
use Rattle.std.specs.Prelude.{MatchOption}
use Rattle.shred_table.specs.declared.id.ResourceId.{ResourceId}
use Rattle.shred_table.specs.declared.only.Only.{Only}
use Rattle.shred_table.specs.Id.{same_id}
use Rattle.shred_table.specs.Slots.{with_at}
use Rattle.shred_world.specs.declared.world.view.View.{View}
use Rattle.shred_world.specs.Views.{IsSameView, declared_held, may_read, may_write, view_held}
use Rattle.shredstore.specs.declared.rule.Overflow.{Overflow}
use Rattle.shredstore.specs.Meaning.{Meaning}
use Rattle.shredstore.specs.Rows.{IsLeastRefused, NoneRefused, Pairs, made_beside, value_at}
use Rattle.shredstore.specs.Rules.{RefusesNone, IsFirstRefused, applied}
use Rattle.shredstore.specs.Tables.{IsOverflowIn, IsRemade, MakesIn, NoneRefusedIn, table_kind, table_id, table_of, value_in, values_in}
use Rattle.shredstore.proofs.RemadeTables.{not-remade, remade, remade-others, remade-values}
use Rattle.shredstore.proofs.Shown.{may_read-same}
use Rattle.shredstore.proofs.Told.{same_id-true}

-- what may be read is declared
declared : (view : View (Only Pairs)) (id : ResourceId) → may_read view id ≡ true → declared_held table_kind view id ≡ view_held table_kind view id
declared view id may = ap (λ b. cond b (view_held table_kind view id) None) may

module _ (old new : View (Only Pairs)) (same : IsSameView old new) (made : ℕ → Option ℤ → Option ℤ) (table : ℕ) where
  -- what is shown under an id that may not be written stays
  pub unwritten-stays : may_write old (table_id table) ≡ true → IsRemade made table (view_held table_kind old) (view_held table_kind new) → (id : ResourceId) → may_write old id ≡ false → view_held table_kind new id ≡ view_held table_kind old id
  unwritten-stays may done id not = remade-others made table (view_held table_kind old) (view_held table_kind new) done id (told (same_id (table_id table) id) refl) where
    told : (b : Bool) → same_id (table_id table) id ≡ b → same_id (table_id table) id ≡ false
    told true e = absurd (let no : true ≡ false = sym may ∙ ap (may_write old) (same_id-true (table_id table) id e) ∙ not in cc)
    told false e = e

  -- the table is made anew among the declared ones
  declared-remade : may_read old (table_id table) ≡ true → IsRemade made table (view_held table_kind old) (view_held table_kind new) → IsRemade made table (declared_held table_kind old) (declared_held table_kind new)
  declared-remade may done = told (view_held table_kind old (table_id table)) refl done where
    Done : Option (Only Pairs) → Type 0
    Done there = MatchOption there
        ((id : ResourceId) → view_held table_kind new id ≡ view_held table_kind old id)
        (λ was. (rows : Pairs) × ((entity : ℕ) → value_at rows entity ≡ made entity (value_at was.0 entity)) × ((id : ResourceId) → view_held table_kind new id ≡ with_at (view_held table_kind old) (table_id table) (Some (table_of rows)) id))

    put : (rows : Pairs) → ((id : ResourceId) → view_held table_kind new id ≡ with_at (view_held table_kind old) (table_id table) (Some (table_of rows)) id) → (id : ResourceId) → declared_held table_kind new id ≡ with_at (declared_held table_kind old) (table_id table) (Some (table_of rows)) id
    put rows shown id = (λ i. cond (may_read-same old new same id i) (shown id i) None) ∙ at (same_id (table_id table) id) refl where
      at : (b : Bool) → same_id (table_id table) id ≡ b → cond (may_read old id) (cond b (Some (table_of rows)) (view_held table_kind old id)) None ≡ cond b (Some (table_of rows)) (declared_held table_kind old id)
      at true e = ap (λ b. cond b (Some (table_of rows)) None) (ap (may_read old) (sym (same_id-true (table_id table) id e)) ∙ may)
      at false e = refl

    told : (there : Option (Only Pairs)) → view_held table_kind old (table_id table) ≡ there → Done there → IsRemade made table (declared_held table_kind old) (declared_held table_kind new)
    told None is stays = not-remade made table (declared_held table_kind old) (declared_held table_kind new) (declared old (table_id table) may ∙ is) (λ id i. cond (may_read-same old new same id i) (stays id i) None)
    told (Some was) is (rows, each, shown) = remade made table (declared_held table_kind old) (declared_held table_kind new) was.0 rows (declared old (table_id table) may ∙ is) each (put rows shown)

-- where the rule was applied to its tables, and all that it makes fits
pub made-step : (old new : View (Only Pairs)) → IsSameView old new → (rule : Meaning) (x y : ℕ) → x ≡ rule.written → y ≡ rule.read → may_read old (table_id rule.written) ≡ true → may_read old (table_id rule.read) ≡ true → NoneRefusedIn rule x y old → MakesIn rule x y old new
    → RefusesNone rule (values_in (declared_held table_kind old)) × ((entity table : ℕ) → values_in (declared_held table_kind new) entity table ≡ applied rule (values_in (declared_held table_kind old)) entity table)
made-step old new same rule x y written read may_written may_read unfit makes =
    let fit = subst₂ (λ (a b : ℕ). NoneRefusedIn rule a b old) written read unfit in
    let done = subst₂ (λ (a b : ℕ). MakesIn rule a b old new) written read makes in
    let own = declared old (table_id rule.written) may_written in
    let other = declared old (table_id rule.read) may_read in
    let beside = view_held table_kind old (table_id rule.read) in (
      subst (λ (o : Option (Only Pairs)). NoneRefused rule (value_in o) (value_in (declared_held table_kind old (table_id rule.read)))) (sym own) (subst (λ (o : Option (Only Pairs)). NoneRefused rule (value_in (view_held table_kind old (table_id rule.written))) (value_in o)) (sym other) fit),
      λ entity table. remade-values (λ e value. made_beside rule value (value_in beside e)) rule.written (declared_held table_kind old) (declared_held table_kind new) (λ e nothing. refl)
          (declared-remade old new same (λ e value. made_beside rule value (value_in beside e)) rule.written may_written done) entity table
          ∙ ap (λ o. cond (rule.written == table) (made_beside rule (values_in (declared_held table_kind old) entity rule.written) (value_in o entity)) (values_in (declared_held table_kind old) entity table)) (sym other),
    )

-- where it was refused
pub least-step : (old : View (Only Pairs)) (rule : Meaning) (x y : ℕ) (overflow : Overflow) → x ≡ rule.written → y ≡ rule.read → may_read old (table_id rule.written) ≡ true → may_read old (table_id rule.read) ≡ true → IsOverflowIn rule x y old overflow
    → IsFirstRefused rule (values_in (declared_held table_kind old)) overflow.entity
least-step old rule x y overflow written read may_written may_read unfit =
    let least = subst₂ (λ (a b : ℕ). IsOverflowIn rule a b old overflow) written read unfit in
    subst (λ (o : Option (Only Pairs)). IsLeastRefused rule (value_in o) (value_in (declared_held table_kind old (table_id rule.read))) overflow.entity) (sym (declared old (table_id rule.written) may_written))
    (subst (λ (o : Option (Only Pairs)). IsLeastRefused rule (value_in (view_held table_kind old (table_id rule.written))) (value_in o) overflow.entity) (sym (declared old (table_id rule.read) may_read)) least)
