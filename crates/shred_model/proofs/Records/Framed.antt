-- What holds of each record of the elements' runs holds of each record of the joined run.
use Rattle.std.proofs.Common.{◌≡◌, ℕ, suc, List, [], ◌∷◌, ◌++◌, map, Ok, Err, sym, subst}
use Rattle.std.specs.List.{AllByRecursion}
use Rattle.shred_model.specs.Record.{Record, IsFramed, Agent, under}
use Rattle.shred_model.specs.Runs.{Answer, RunsUpToFault, RunsEach}

pub AllByRecursion-append : {X : Type 0} (P : X → Type 0) (xs ys : List X) → AllByRecursion P xs → AllByRecursion P ys → AllByRecursion P (xs ++ ys)
AllByRecursion-append P [] ys h k = k
AllByRecursion-append P (x ∷ xs) ys h k = (h.0, AllByRecursion-append P xs ys h.1 k)

pub AllByRecursion-weaker : {X : Type 0} (P Q : X → Type 0) → ((x : X) → P x → Q x) → (xs : List X) → AllByRecursion P xs → AllByRecursion Q xs
AllByRecursion-weaker P Q f [] h = h
AllByRecursion-weaker P Q f (x ∷ xs) h = (f x h.0, AllByRecursion-weaker P Q f xs h.1)

pub AllByRecursion-same : {X : Type 0} (P : X → Type 0) (xs ys : List X) → xs ≡ ys → AllByRecursion P ys → AllByRecursion P xs
AllByRecursion-same {X} P xs ys e h = subst (λ (w : List X). AllByRecursion P w) (sym e) h

-- each record changes only written values
abbrev pub AllFramed : {A I V S O : Type 0} → List (Record A I V S O) → Type 0
AllFramed list = AllByRecursion IsFramed list

module _ {X I V S O F : Type 0} (Run : ℕ → X → List (Record Agent I V S O) → Answer F → Type 0) (P : Record Agent I V S O → Type 0) where
  pub AllByRecursion-under : (n : ℕ) (list : List (Record Agent I V S O)) → AllByRecursion (λ r. P (under n r)) list → AllByRecursion P (map (under n) list)
  AllByRecursion-under n [] h = tt
  AllByRecursion-under n (r ∷ list) h = (h.0, AllByRecursion-under n list h.1)

  -- whichever records an element's run has, they pass
  abbrev pub EachPasses : List X → Type 0
  EachPasses xs = AllByRecursion (λ (x : X). (n : ℕ) (list : List (Record Agent I V S O)) (a : Answer F) → Run n x list a → AllByRecursion (λ r. P (under n r)) list) xs

  pub RunsUpToFault-all : (n : ℕ) (xs : List X) (list : List (Record Agent I V S O)) (a : Answer F) → EachPasses xs → RunsUpToFault Run n xs list a → AllByRecursion P list
  RunsUpToFault-all n [] list a pass run = AllByRecursion-same P list [] run.0 tt
  RunsUpToFault-all n (x ∷ xs) list a pass (first, Ok done, one, (others, is, more)) =
      AllByRecursion-same P list (map (under n) first ++ others) is
      (AllByRecursion-append P (map (under n) first) others (AllByRecursion-under n first (pass.0 n first (Ok done) one)) (RunsUpToFault-all (suc n) xs others a pass.1 more))
  RunsUpToFault-all n (x ∷ xs) list a pass (first, Err fault, one, (is, same)) = AllByRecursion-same P list (map (under n) first) is (AllByRecursion-under n first (pass.0 n first (Err fault) one))

  pub RunsEach-all : (n : ℕ) (xs : List X) (list : List (Record Agent I V S O)) (a : Answer F) → EachPasses xs → RunsEach Run n xs list a → AllByRecursion P list
  RunsEach-all n [] list a pass run = AllByRecursion-same P list [] run.0 tt
  RunsEach-all n (x ∷ xs) list a pass (first, others, c, d, one, more, is, same) =
      AllByRecursion-same P list (map (under n) first ++ others) is
      (AllByRecursion-append P (map (under n) first) others (AllByRecursion-under n first (pass.0 n first c one)) (RunsEach-all (suc n) xs others d pass.1 more))

module _ {X I V S O F : Type 0} (Run : ℕ → X → List (Record Agent I V S O) → Answer F → Type 0)
    (framed : (n : ℕ) (x : X) (list : List (Record Agent I V S O)) (a : Answer F) → Run n x list a → AllFramed list) where
  each_framed : (xs : List X) → EachPasses Run IsFramed xs
  each_framed [] = tt
  each_framed (x ∷ xs) = ((λ n list a run. framed n x list a run), each_framed xs)

  pub RunsEach-framed : (n : ℕ) (xs : List X) (list : List (Record Agent I V S O)) (a : Answer F) → RunsEach Run n xs list a → AllFramed list
  RunsEach-framed n xs list a run = RunsEach-all Run IsFramed n xs list a (each_framed xs) run
