-- Lines that are taken one after another.
use Rattle.std.proofs.Common.{◌≡◌, ℕ, List, [], ◌∷◌, ◌++◌, OnOk, IfErr, Result, Ok, Err, refl, sym, ◌∙◌, ap, inr, map, subst, append_assoc}
use Rattle.std.proofs.lemmas.List.{map-append}
use Rattle.shred_table.specs.declared.id.ResourceId.{ResourceId}
use Rattle.shred.specs.Batches.{IsBatchAddition}
use Rattle.shred.specs.Built.{IsAddition, IsNewBuilt}
use Rattle.shred_run.specs.declared.system.RunningTime.TheVariants.{VeryLong}
use Rattle.shred_run.specs.declared.work.Work.TheVariants.{System as a_system}
use Rattle.shred_stage.specs.Refusals.{IsBatchRefusal, MayAdd}
use Rattle.shred_stage.specs.declared.add_error.AddError.{AddError}
use Rattle.shred_stage.specs.declared.add_error.AddError.TheVariants.{NoSuchSystem, NameTaken, IdsExhausted, OutOfMemory, ThreadLocalInBatch, RuleTooLate}
use Rattle.script_text.specs.Endings.{add_error}
use Rattle.script_text.specs.declared.error.ScriptError.{ScriptError}
use Rattle.script_text.specs.declared.script.BatchLine.{BatchLine}
use Rattle.script_text.specs.declared.script.PlanLine.{PlanLine}
use Rattle.script_text.specs.declared.script.PlanLine.TheVariants.{End}
use Rattle.script_text.specs.declared.script.SystemLine.{SystemLine}
use Rattle.script_engine.specs.declared.system.ScriptSystem.{ScriptSystem}
use Rattle.script_text.specs.Declares.{read_ids, write_ids}
use Rattle.script_engine.specs.Notes.{AreAllTaken, Noting, TakesLine, begun, builts_of}
use Rattle.script_engine.specs.Lines.{AreBuiltBy, AreTaken, Building, Builts, IsBatchAdded, IsBatchNotAdded, IsBatchNotEnded, IsLineAdded, IsLineTaken, ScriptBuilt, batch_needs, needed, no_access}

-- a system with a line's steps and time was added by what it declares itself
pub added-by : (line : SystemLine) (old new : ScriptBuilt) (system : ScriptSystem) (needs : List (List ℕ)) (reads writes : List ResourceId) → needs ≡ needed line
    → system.steps.items ≡ line.steps.items → system.time ≡ line.time → reads ≡ read_ids system.steps.items → writes ≡ write_ids system.steps.items
    → MayAdd old.known old.next line.name.now needs → IsAddition old new line.name.now needs reads writes system.time (a_system system) → IsLineAdded line old new
added-by line old new system needs reads writes n s t r w allowed h = record {
  system = system;
  steps = s;
  time = t;
  allowed = subst (MayAdd old.known old.next line.name.now) n allowed;
  addition = subst (λ x. IsAddition old new line.name.now (needed line) (read_ids line.steps.items) (write_ids line.steps.items) x (a_system system)) t
      (subst (λ x. IsAddition old new line.name.now (needed line) (read_ids line.steps.items) x system.time (a_system system)) (w ∙ ap write_ids s)
      (subst (λ x. IsAddition old new line.name.now (needed line) x writes system.time (a_system system)) (r ∙ ap read_ids s)
      (subst (λ x. IsAddition old new line.name.now x reads writes system.time (a_system system)) n h)));
}

-- a batch of a line's rounds was added under its names
pub batch-added-by : (batch : BatchLine) (inner old new : ScriptBuilt) (needs : List (List ℕ)) → needs ≡ batch_needs batch → inner.locals ≡ [] → MayAdd old.known old.next batch.name.now needs
    → IsBatchAddition old new batch.name.now needs no_access VeryLong (record { rounds = batch.rounds }) inner → IsBatchAdded batch inner old new
batch-added-by batch inner old new needs n no_local allowed addition = record {
  controller = record { rounds = batch.rounds };
  rounds = refl;
  no_local = no_local;
  allowed = subst (MayAdd old.known old.next batch.name.now) n allowed;
  addition = subst (λ x. IsBatchAddition old new batch.name.now x no_access VeryLong (record { rounds = batch.rounds }) inner) n addition;
}

taken-more : (lines : List PlanLine) (line : PlanLine) (old mid new : Builts) → AreTaken lines old mid → IsLineTaken line mid new → AreTaken (lines ++ line ∷ []) old new
taken-more [] line old mid new e h = (new, subst (λ b. IsLineTaken line b new) e h, refl)
taken-more (x ∷ xs) line old mid new (next, t, rest) h = (next, t, taken-more xs line next mid new rest h)

-- no line is taken yet
pub built-none : (new : ScriptBuilt) (pending : _) → pending ≡ [] → IsNewBuilt new → AreBuiltBy [] (record { current = new; pending = pending })
built-none new pending none is = (new, is, λ i. record { current = new; pending = none i })

-- one more line is taken
pub built-more : (lines : List PlanLine) (line : PlanLine) (mid new : Builts) → AreBuiltBy lines mid → IsLineTaken line mid new → AreBuiltBy (lines ++ line ∷ []) new
built-more lines line mid new (empty, is, taken) h = (empty, is, taken-more lines line (record { current = empty; pending = [] }) mid new taken h)

-- one more line is taken, and noted
pub noted-more : {B : Type 0} (N : Noting B) (lines : List PlanLine) (line : PlanLine) (old mid new : Building B) → AreAllTaken N lines old mid → TakesLine N line mid new → AreAllTaken N (lines ++ line ∷ []) old new
noted-more N [] line old mid new e h = (new, subst (λ b. TakesLine N line b new) e h, refl)
noted-more N (x ∷ xs) line old mid new (next, t, rest) h = (next, t, noted-more N xs line next mid new rest h)

-- the innermost open batch was added to what is around it
pub ended-by : {B X E : Type 0} (N : Noting B) (line : ℕ) (batch : BatchLine) (outer inner around current new : B) (was now : List (BatchLine × B)) (answer : Result X E) → was ≡ now ++ (batch, around) ∷ [] → outer ≡ around → inner ≡ current
    → OnOk answer (IsBatchAdded batch (N.comes_to inner) (N.comes_to outer) (N.comes_to new)) → OnOk answer (N.batch batch inner outer new)
    → OnOk answer (TakesLine N (End line) (record { current = current; pending = was }) (record { current = new; pending = now }))
ended-by N line batch outer inner around current new was now (Ok done) innermost o i added noted = (
  record {
    outer = map (begun N) now;
    batch = batch;
    around = N.comes_to around;
    innermost = ap (map (begun N)) innermost ∙ map-append (begun N) now ((batch, around) ∷ []);
    added = subst (λ x. IsBatchAdded batch (N.comes_to current) (N.comes_to x) (N.comes_to new)) o (subst (λ x. IsBatchAdded batch (N.comes_to x) (N.comes_to outer) (N.comes_to new)) i added);
    rest = refl;
  },
  record {
    outer = now;
    batch = batch;
    around = around;
    innermost = innermost;
    noted = subst (λ x. N.batch batch current x new) o (subst (λ x. N.batch batch x outer new) i noted);
    rest = refl;
  },
)
ended-by N line batch outer inner around current new was now (Err error) innermost o i added noted = tt

-- it was not
pub not-ended-by : {B X : Type 0} (N : Noting B) (line : ℕ) (batch : BatchLine) (outer inner around current : B) (was now : List (BatchLine × B)) (answer : Result X ScriptError) → was ≡ now ++ (batch, around) ∷ [] → outer ≡ around → inner ≡ current
    → IfErr answer (IsBatchNotAdded line batch (N.comes_to outer) (N.comes_to inner)) → IfErr answer (IsBatchNotEnded line (builts_of N (record { current = current; pending = was })))
not-ended-by N line batch outer inner around current was now (Ok done) innermost o i why = tt
not-ended-by N line batch outer inner around current was now (Err error) innermost o i why =
    let here = subst (λ x. IsBatchNotAdded line batch (N.comes_to x) (N.comes_to current) error) o (subst (λ x. IsBatchNotAdded line batch (N.comes_to outer) (N.comes_to x) error) i why) in
    inr (map (begun N) now, batch, N.comes_to around, ap (map (begun N)) innermost ∙ map-append (begun N) now ((batch, around) ∷ []), here)

-- what is done and what is left of a list, with one more done
pub done-more : {X : Type 0} (done left rest all : List X) (x : X) → left ≡ x ∷ rest → done ++ left ≡ all → (done ++ x ∷ []) ++ rest ≡ all
done-more done left rest all x first whole = append_assoc done (x ∷ []) rest ∙ ap (λ l. done ++ l) (sym first) ∙ whole

-- what the builder answers is told at the line that ends the batch
pub not-added-by : (line : ℕ) (batch : BatchLine) (around inner : ScriptBuilt) (error : AddError) (told : ScriptError) → told ≡ add_error line error → IsBatchRefusal inner.locals around.known around.next batch.name.now (batch_needs batch) error → IsBatchNotAdded line batch around inner told
not-added-by line batch around inner (NoSuchSystem place) told is why = subst (IsBatchNotAdded line batch around inner) (sym is) (refl, why)
not-added-by line batch around inner NameTaken told is why = subst (IsBatchNotAdded line batch around inner) (sym is) (refl, why)
not-added-by line batch around inner IdsExhausted told is why = subst (IsBatchNotAdded line batch around inner) (sym is) (refl, why)
not-added-by line batch around inner ThreadLocalInBatch told is why = subst (IsBatchNotAdded line batch around inner) (sym is) (refl, why)
not-added-by line batch around inner RuleTooLate told is why = absurd why
not-added-by line batch around inner OutOfMemory told is why = subst (IsBatchNotAdded line batch around inner) (sym is) tt
