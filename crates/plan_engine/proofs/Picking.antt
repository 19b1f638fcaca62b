-- Picking from lists that are put together.
use Rattle.std.proofs.Common.{◌≡◌, ◌<◌, ◌+◌, ℕ, List, [], ◌∷◌, ◌++◌, length, take, drop, get_or, map, inl, inr, refl, ap, sym, ◌∙◌, subst, append-nil}
use Rattle.std.proofs.lemmas.List.{drop_more, map-append, take_more}
use Rattle.plan_engine.specs.declared.choices.Choice.{Choice}
use Rattle.plan_engine.specs.Choices.{Picks, later_pairs, pairs_with}

pub picks-append : {X : Type 0} (P : X → Type 0) (xs ys picked more : List X) → Picks P xs picked → Picks P ys more → Picks P (xs ++ ys) (picked ++ more)
picks-append P [] ys picked more none picks = rw none picks
picks-append P (x ∷ xs) ys picked more (inl (holds, (rest, is, picks))) later = inl (holds, (rest ++ more, ap (λ zs. zs ++ more) is, picks-append P xs ys rest more picks later))
picks-append P (x ∷ xs) ys picked more (inr (fails, picks)) later = inr (fails, picks-append P xs ys picked more picks later)

picks-one : {X : Type 0} (P : X → Type 0) (x : X) → P x → Picks P (x ∷ []) (x ∷ [])
picks-one P x holds = inl (holds, ([], refl, refl))

picks-none : {X : Type 0} (P : X → Type 0) (x : X) → ¬ P x → Picks P (x ∷ []) []
picks-none P x fails = inr (fails, refl)

-- one more of those that stand behind an entry
with-more : (first : ℕ) (rest : List ℕ) (i : ℕ) → i < length rest → pairs_with first (take (i + 1) rest) ≡ pairs_with first (take i rest) ++ record { first = first; second = get_or rest i 0 } ∷ []
with-more first rest i within =
    let pair = λ (second : ℕ). let made : Choice = record { first = first; second = second } in made in
    ap (map pair) (take_more rest i 0 within) ∙ map-append pair (take i rest) (get_or rest i 0 ∷ [])

pub picks-taken : (P : Choice → Type 0) (first : ℕ) (rest : List ℕ) (i : ℕ) (picked : List Choice) → i < length rest → Picks P (pairs_with first (take i rest)) picked → P (record { first = first; second = get_or rest i 0 }) → Picks P (pairs_with first (take (i + 1) rest)) (picked ++ record { first = first; second = get_or rest i 0 } ∷ [])
picks-taken P first rest i picked within picks holds =
    subst (λ (pairs : List Choice). Picks P pairs (picked ++ record { first = first; second = get_or rest i 0 } ∷ [])) (sym (with-more first rest i within)) (picks-append P _ _ picked _ picks (picks-one P _ holds))

pub picks-left : (P : Choice → Type 0) (first : ℕ) (rest : List ℕ) (i : ℕ) (picked : List Choice) → i < length rest → Picks P (pairs_with first (take i rest)) picked → ¬ P (record { first = first; second = get_or rest i 0 }) → Picks P (pairs_with first (take (i + 1) rest)) picked
picks-left P first rest i picked within picks fails =
    let all = picks-append P _ _ picked [] picks (picks-none P (record { first = first; second = get_or rest i 0 }) fails) in
    subst (λ (pairs : List Choice). Picks P pairs picked) (sym (with-more first rest i within)) (subst (λ (all : List Choice). Picks P (pairs_with first (take i rest) ++ record { first = first; second = get_or rest i 0 } ∷ []) all) (append-nil picked) all)

-- what is picked with the next entry stands before what is picked behind it
pub picks-next : (P : Choice → Type 0) (plan : List ℕ) (i : ℕ) (more behind : List Choice) → i < length plan → Picks P (pairs_with (get_or plan i 0) (drop (i + 1) plan)) more → Picks P (later_pairs (drop (i + 1) plan)) behind → Picks P (later_pairs (drop i plan)) (more ++ behind)
picks-next P plan i more behind within picks later =
    subst (λ (entries : List ℕ). Picks P (later_pairs entries) (more ++ behind)) (sym (drop_more plan i 0 within)) (picks-append P _ _ more behind picks later)
