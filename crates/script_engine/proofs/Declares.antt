-- The places that steps declare, one step after another.
use Rattle.std.proofs.Common.{◌≡◌, ℕ, ◌+◌, ◌<◌, Bool, true, false, ◌||◌, ◌==◌, Option, Some, None, cond, List, [], ◌∷◌, ◌++◌, length, get_or, drop, map, All, IsTrue, IfSome, refl, sym, ◌∙◌, ap, subst, arith}
use Rattle.std.specs.List.{AllByRecursion}
use Rattle.std.proofs.lemmas.List.{drop_more}
use Rattle.std.proofs.lemmas.List.Elements.{All-from_recursion, All-head, All-tail}
use Rattle.shred_table.specs.Slots.{among}
use Rattle.script_text.specs.declared.step.Step.{Step}
use Rattle.script_text.specs.Declares.{is_among, with_place, named_place, places_named, places_read, places_written, read_place, write_place}
use Rattle.script_text.specs.Place.{id_at}

-- with one more step, the places so far and those of the rest are still those of all steps
pub read-more : (before after all : List ℕ) (steps : List Step) (i : ℕ) (d : Step) → i < length steps → places_read before (drop i steps) ≡ all
    → after ≡ with_place before (read_place (get_or steps i d)) → places_read after (drop (i + 1) steps) ≡ all
read-more before after all steps i d lt so_far more = ap (λ places. places_read places (drop (i + 1) steps)) more ∙ sym (ap (places_read before) (drop_more steps i d lt)) ∙ so_far

-- the same of what their operands name
pub named-more : (before after all : List ℕ) (steps : List Step) (i : ℕ) (d : Step) → i < length steps → places_named before (drop i steps) ≡ all
    → after ≡ with_place before (named_place (get_or steps i d)) → places_named after (drop (i + 1) steps) ≡ all
named-more before after all steps i d lt so_far more = ap (λ places. places_named places (drop (i + 1) steps)) more ∙ sym (ap (places_named before) (drop_more steps i d lt)) ∙ so_far

-- the same of what they write
pub written-more : (before after all : List ℕ) (steps : List Step) (i : ℕ) (d : Step) → i < length steps → places_written before (drop i steps) ≡ all
    → after ≡ with_place before (write_place (get_or steps i d)) → places_written after (drop (i + 1) steps) ≡ all
written-more before after all steps i d lt so_far more = ap (λ places. places_written places (drop (i + 1) steps)) more ∙ sym (ap (places_written before) (drop_more steps i d lt)) ∙ so_far

or_true : (t : Bool) → (t || true) ≡ true
or_true true = refl
or_true false = refl

same-place : (place : ℕ) → (place == place) ≡ true
same-place place = grind (arith)

has-append : (places : List ℕ) (other place : ℕ) → is_among (places ++ other ∷ []) place ≡ (is_among places place || (other == place))
has-append [] other place = or_false (other == place) where
  or_false : (t : Bool) → (t || false) ≡ t
  or_false true = refl
  or_false false = refl
has-append (first ∷ places) other place = ap (λ t. (first == place) || t) (has-append places other place) ∙ sym (or_assoc (first == place) (is_among places place) (other == place)) where
  or_assoc : (a b c : Bool) → ((a || b) || c) ≡ (a || (b || c))
  or_assoc true b c = refl
  or_assoc false b c = refl

-- what is in the list stays in it
has-still : (places : List ℕ) (more : Option ℕ) (place : ℕ) → IsTrue (is_among places place) → IsTrue (is_among (with_place places more) place)
has-still places None place has = has
has-still places (Some other) place has = chosen (is_among places other) where
  chosen : (b : Bool) → IsTrue (is_among (cond b places (places ++ other ∷ [])) place)
  chosen true = has
  chosen false = has-append places other place ∙ ap (λ t. t || (other == place)) has

-- the place that was put there is in it
has-new : (places : List ℕ) (place : ℕ) → IsTrue (is_among (with_place places (Some place)) place)
has-new places place = chosen (is_among places place) refl where
  chosen : (b : Bool) → is_among places place ≡ b → IsTrue (is_among (cond b places (places ++ place ∷ [])) place)
  chosen true has = has
  chosen false has = has-append places place place ∙ ap (λ t. is_among places place || t) (same-place place) ∙ or_true (is_among places place)

has-all : (places : List ℕ) (steps : List Step) (place : ℕ) → IsTrue (is_among places place) → IsTrue (is_among (places_written places steps) place)
has-all places [] place has = has
has-all places (step ∷ steps) place has = has-all (with_place places (write_place step)) steps place (has-still places (write_place step) place has)

each : (Q : ℕ → Type 0) (places : List ℕ) (steps : List Step) → ((place : ℕ) → IsTrue (is_among (places_written places steps) place) → Q place) → AllByRecursion (λ (step : Step). IfSome (write_place step) Q) steps
each Q places [] h = tt
each Q places (step ∷ steps) h = (told (write_place step) refl, each Q (with_place places (write_place step)) steps h) where
  told : (o : Option ℕ) → write_place step ≡ o → IfSome o Q
  told None e = tt
  told (Some place) e = h place (has-all (with_place places (write_place step)) steps place (subst (λ (o : Option ℕ). IsTrue (is_among (with_place places o) place)) (sym e) (has-new places place)))

-- where something holds of each place that the steps declare to write, it does of what each step writes
pub each-step : (Q : ℕ → Type 0) (steps : List Step) → ((place : ℕ) → IsTrue (is_among (places_written [] steps) place) → Q place) → All (λ (step : Step). IfSome (write_place step) Q) steps
each-step Q steps h = All-from_recursion (λ (step : Step). IfSome (write_place step) Q) steps (each Q [] steps h)

one-more : (Q : ℕ → Type 0) (places : List ℕ) (more : Option ℕ) → ((place : ℕ) → IsTrue (is_among places place) → Q place) → IfSome more Q → (place : ℕ) → IsTrue (is_among (with_place places more) place) → Q place
one-more Q places None h m place has = h place has
one-more Q places (Some other) h m place has = chosen (is_among places other) has where
  same : (b : Bool) → (other == place) ≡ b → IsTrue (is_among places place || b) → Q place
  same true e _ = subst Q (grind (arith, e)) m
  same false e t = h place (sym (or_false (is_among places place)) ∙ t) where
    or_false : (t : Bool) → (t || false) ≡ t
    or_false true = refl
    or_false false = refl

  chosen : (b : Bool) → IsTrue (is_among (cond b places (places ++ other ∷ [])) place) → Q place
  chosen true t = h place t
  chosen false t = same (other == place) refl (sym (has-append places other place) ∙ t)

every : (Q : ℕ → Type 0) (places : List ℕ) (steps : List Step) → ((place : ℕ) → IsTrue (is_among places place) → Q place) → All (λ (step : Step). IfSome (write_place step) Q) steps
    → (place : ℕ) → IsTrue (is_among (places_written places steps) place) → Q place
every Q places [] h all = h
every Q places (step ∷ steps) h all = every Q (with_place places (write_place step)) steps (one-more Q places (write_place step) h (All-head (λ (s : Step). IfSome (write_place s) Q) step steps all)) (All-tail (λ (s : Step). IfSome (write_place s) Q) step steps all)

-- where something holds of what each step writes, it does of each place that the steps declare to write
pub every-place : (Q : ℕ → Type 0) (steps : List Step) → All (λ (step : Step). IfSome (write_place step) Q) steps → (place : ℕ) → IsTrue (is_among (places_written [] steps) place) → Q place
every-place Q steps all = every Q [] steps (λ place none. absurd (cc)) all

-- a place is in a list where its id is among the ids of the list's places
pub among-places : (places : List ℕ) (place : ℕ) → among (map id_at places) (id_at place) ≡ is_among places place
among-places [] place = refl
among-places (other ∷ places) place = ap (λ t. (other == place) || t) (among-places places place)

-- the only place of a list is the one that is in it
pub only-place : (place other : ℕ) → IsTrue (is_among (place ∷ []) other) → place ≡ other
only-place place other has = chosen (place == other) refl has where
  chosen : (b : Bool) → (place == other) ≡ b → IsTrue (b || false) → place ≡ other
  chosen true e _ = grind (arith, e)
  chosen false e none = absurd (cc)
