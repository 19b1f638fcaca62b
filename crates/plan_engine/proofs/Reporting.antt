-- Where something is picked, and where it could be.
use Rattle.std.proofs.Common.{◌≡◌, ◌≢◌, ◌==◌, ◌∙◌, ◌⊎◌, ◌<◌, ℕ, zero, suc, true, false, List, [], ◌∷◌, Vec, Global, Any, length, vec_len, not, inl, inr, refl, ap, sym, subst, arith}
use Rattle.std.proofs.lemmas.Bool.{eq-eqb}
use Rattle.std.proofs.lemmas.Bool.Decides.{nat_tests}
use Rattle.std.specs.List.{AllZip}
use Rattle.plan_engine.specs.declared.choices.Choice.{Choice}
use Rattle.plan_engine.specs.Choices.{IsChoice, Picks, later_pairs}
use Rattle.plan_engine.specs.declared.plans.Plan.{Plan}
use Rattle.plan_engine.specs.Plans.{HasChoice, HasChoices, order_of}

any-behind : {X : Type 0} (P : X → Type 0) (x : X) (xs : List X) → Any P xs → Any P (x ∷ xs)
any-behind P x xs (k, y, within, is, holds) = (suc k, y, omega arith, is, holds)

any-first : {X : Type 0} (P : X → Type 0) (x : X) (xs : List X) → P x → Any P (x ∷ xs)
any-first P x xs holds = (0, x, omega arith, refl, holds)

-- what is picked is one that could be
some-any : {X : Type 0} (P : X → Type 0) (xs picked : List X) → Picks P xs picked → 0 < length picked → Any P xs
some-any P [] picked none some = absurd (omega (arith, ap length none))
some-any P (x ∷ xs) picked (inl (holds, picks)) some = any-first P x xs holds
some-any P (x ∷ xs) picked (inr (fails, picks)) some = any-behind P x xs (some-any P xs picked picks some)

-- where there is one that could be, something is picked
any-some : {X : Type 0} (P : X → Type 0) (xs picked : List X) → Picks P xs picked → Any P xs → 0 < length picked
any-some P [] picked none (k, x, within, is, holds) = absurd (omega arith)
any-some P (x ∷ xs) picked (inl (holds, (rest, is, picks))) any = omega (arith, ap length is)
any-some P (x ∷ xs) picked (inr (fails, picks)) (zero, y, within, is, holds) = absurd (fails (subst P (sym is) holds))
any-some P (x ∷ xs) picked (inr (fails, picks)) (suc k, y, within, is, holds) = any-some P xs picked picks (k, y, omega arith, is, holds)

-- a list that is not empty
abbrev IsFull : Vec Choice Global → Type 0
IsFull choices = not (vec_len choices == 0) ≡ true

full-some : (choices : Vec Choice Global) → IsFull choices → 0 < length choices.items
full-some choices full =
    let counted = choices.ok in
    let some : vec_len choices ≢ 0 = λ none. (let empty = eq-eqb (vec_len choices) 0 none in let no : false ≡ true = sym (ap not empty) ∙ full in cc) in
    omega (arith, counted)

zero_or_more : (n : ℕ) → (n ≡ 0) ⊎ ((n == 0) ≡ false)
zero_or_more zero = inl refl
zero_or_more (suc n) = inr (grind (arith, nat_tests))

some-full : (choices : Vec Choice Global) → 0 < length choices.items → IsFull choices
some-full choices some = elim (zero_or_more (vec_len choices)) [
  | inl none ↦ absurd (let counted = choices.ok in omega (arith, counted))
  | inr more ↦ ap not more
]

-- where a list of choices is not empty, its plan has a choice
pub full-choice : (plans : List Plan) (all : List (Vec Choice Global)) → AllZip HasChoices plans all → Any IsFull all → Any HasChoice plans
full-choice [] [] zipped (k, choices, within, is, full) = absurd (omega arith)
full-choice [] (choices ∷ all) zipped any = absurd zipped
full-choice (plan ∷ plans) [] zipped any = absurd zipped
full-choice (plan ∷ plans) (choices ∷ all) (picks, zipped) (zero, found, within, is, full) =
    any-first HasChoice plan plans (some-any (IsChoice plan.declarations.entries.items) (later_pairs (order_of plan)) choices.items picks (full-some choices (subst IsFull (sym is) full)))
full-choice (plan ∷ plans) (choices ∷ all) (picks, zipped) (suc k, found, within, is, full) =
    any-behind HasChoice plan plans (full-choice plans all zipped (k, found, omega arith, is, full))

-- where a plan has a choice, its list is not empty
pub choice-full : (plans : List Plan) (all : List (Vec Choice Global)) → AllZip HasChoices plans all → Any HasChoice plans → Any IsFull all
choice-full [] all zipped (k, plan, within, is, has) = absurd (omega arith)
choice-full (plan ∷ plans) [] zipped any = absurd zipped
choice-full (plan ∷ plans) (choices ∷ all) (picks, zipped) (zero, found, within, is, has) =
    any-first IsFull choices all (some-full choices (any-some (IsChoice plan.declarations.entries.items) (later_pairs (order_of plan)) choices.items picks (subst HasChoice (sym is) has)))
choice-full (plan ∷ plans) (choices ∷ all) (picks, zipped) (suc k, found, within, is, has) =
    any-behind IsFull choices all (choice-full plans all zipped (k, found, omega arith, is, has))
