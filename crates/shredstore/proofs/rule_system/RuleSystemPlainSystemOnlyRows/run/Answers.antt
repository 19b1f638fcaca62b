use Rattle.std.proofs.Common.{◌≡◌, ◌||◌, ℕ, Bool, true, false, cond, None, refl, sym, ◌∙◌, subst}
use Rattle.shred_world.specs.Views.{may_read, may_write, view_held}
use Rattle.shredstore.specs.Rows.{made_beside}
use Rattle.shredstore.specs.Tables.{column_in, table_id, table_kind}
use Rattle.shredstore.proofs.RemadeTables.{remade-held}
use Rattle.shredstore.proofs.RuleRun.{least-step, made-step, unwritten-stays}
use Rattle.shredstore.proofs.Shown.{may_read-same}
use Rattle.shredstore.proofs.Told.{same_id-refl}
use Rattle.shredstore.proofs.rule_system.RuleSystemPlainSystemOnlyRows.run.Goals as goal

or_true : (b : Bool) → (b || true) ≡ true
or_true true = refl
or_true false = refl

pub apply-requires-clause-may_x : goal.apply-requires-clause-may_x
apply-requires-clause-may_x g c =
    let rule = g.R.TableRule.meaning c.args.self.now.0 in
    subst (λ (table : ℕ). may_write c.args.view.now (table_id table) ≡ true) (sym c.writes-x.ensures) (c.requires.lent.may_write (table_id rule.written) ∙ rw (same_id-refl (table_id rule.written)) refl)

pub apply-requires-clause-may_y : goal.apply-requires-clause-may_y
apply-requires-clause-may_y g c =
    let rule = g.R.TableRule.meaning c.args.self.now.0 in
    subst (λ (table : ℕ). may_read c.args.view.now (table_id table) ≡ true) (sym c.reads-y.ensures) (c.requires.lent.may_read (table_id rule.read) ∙ rw (same_id-refl (table_id rule.read)) refl)

pub returns-in-Ok-clause-step : goal.returns-in-Ok-clause-step
returns-in-Ok-clause-step g c =
    let rule = g.R.TableRule.meaning c.args.self.now.0 in
    let view = c.args.view.now in
    let may_written : may_read view (table_id rule.written) ≡ true = c.requires.lent.may_read (table_id rule.written) ∙ rw (same_id-refl (table_id rule.written)) (or_true _) in
    let may_beside : may_read view (table_id rule.read) ≡ true = c.requires.lent.may_read (table_id rule.read) ∙ rw (same_id-refl (table_id rule.read)) refl in
    (refl, made-step view c.apply.new.view c.in-Ok.ensures.view rule c.writes-x.result c.reads-y.result c.writes-x.ensures c.reads-y.ensures may_written may_beside c.in-Ok.ensures.taken c.in-Ok.ensures.made)

pub returns-in-Ok-clause-ids : goal.returns-in-Ok-clause-ids
returns-in-Ok-clause-ids g c =
    let rule = g.R.TableRule.meaning c.args.self.now.0 in
    remade-held (λ entity value. made_beside rule value (column_in c.args.view.now c.reads-y.result entity)) c.writes-x.result (view_held table_kind c.args.view.now) (view_held table_kind c.apply.new.view) c.in-Ok.ensures.made

pub returns-in-Ok-clause-frame : goal.returns-in-Ok-clause-frame
returns-in-Ok-clause-frame g c =
    let rule = g.R.TableRule.meaning c.args.self.now.0 in
    let may : may_write c.args.view.now (table_id c.writes-x.result) ≡ true = subst (λ (table : ℕ). may_write c.args.view.now (table_id table) ≡ true) (sym c.writes-x.ensures) (c.requires.lent.may_write (table_id rule.written) ∙ rw (same_id-refl (table_id rule.written)) refl) in
    unwritten-stays c.args.view.now c.apply.new.view c.in-Ok.ensures.view (λ entity value. made_beside rule value (column_in c.args.view.now c.reads-y.result entity)) c.writes-x.result may c.in-Ok.ensures.made

pub returns-in-Err-clause-step : goal.returns-in-Err-clause-step
returns-in-Err-clause-step g c =
    let rule = g.R.TableRule.meaning c.args.self.now.0 in
    let view = c.args.view.now in
    let may_written : may_read view (table_id rule.written) ≡ true = c.requires.lent.may_read (table_id rule.written) ∙ rw (same_id-refl (table_id rule.written)) (or_true _) in
    let may_beside : may_read view (table_id rule.read) ≡ true = c.requires.lent.may_read (table_id rule.read) ∙ rw (same_id-refl (table_id rule.read)) refl in
    (refl, (least-step view rule c.writes-x.result c.reads-y.result c.in-Err.overflow c.writes-x.ensures c.reads-y.ensures may_written may_beside c.in-Err.ensures.least, λ id i. cond (may_read-same view c.apply.new.view c.in-Err.ensures.view id i) (c.in-Err.ensures.unchanged id i) None))
