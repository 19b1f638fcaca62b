-- The element whose run ended a run of all with its fault.
use Rattle.std.proofs.Common.{◌≡◌, ℕ, zero, suc, ◌+◌, List, [], ◌∷◌, ◌++◌, map, Option, Some, Ok, Err, slice_get, Contains, refl, sym, ◌∙◌, ap, subst, append-nil, arith}
use Rattle.std.proofs.lemmas.List.Elements.{Contains-append_left, Contains-append_right}
use Rattle.shred_model.specs.Record.{Record, Agent, under}
use Rattle.shred_model.specs.Runs.{Answer, RunsEach, RunsUpToFault}
use Rattle.shred_model.proofs.Records.Membership.{Contains-later}

pub Contains-head : {X : Type 0} (x : X) (xs : List X) → Contains (x ∷ xs) x
Contains-head x xs = (zero, omega arith, refl)

Contains-map : {X Y : Type 0} (f : X → Y) (xs : List X) (x : X) → Contains xs x → Contains (map f xs) (f x)
Contains-map f [] x (k, below, is) = absurd (omega (arith, below))
Contains-map f (y ∷ ys) x (zero, below, is) = (zero, omega arith, ap f is)
Contains-map f (y ∷ ys) x (suc k, below, is) = Contains-later (f x) (f y) (map f ys) (Contains-map f ys x (k, omega (arith, below), is))

-- The element at a place ran with this fault, and its records are among those of all.
pub record FaultAt {X I V S O F : Type 0} (Run : ℕ → X → List (Record Agent I V S O) → Answer F → Type 0) (n : ℕ) (xs : List X) (list : List (Record Agent I V S O)) (fault : F) : Type 0 where
  pub k : ℕ
  pub place : ℕ
  pub is_place : place ≡ k + n
  pub x : X
  pub at : slice_get xs k ≡ Some x
  pub part : List (Record Agent I V S O)
  pub run : Run place x part (Err fault)
  pub within : (r : Record Agent I V S O) → Contains part r → Contains list (under place r)

module _ {X I V S O F : Type 0} (Run : ℕ → X → List (Record Agent I V S O) → Answer F → Type 0) (fault : F) where
  here : (n : ℕ) (x : X) (xs : List X) (first others list : List (Record Agent I V S O)) → list ≡ map (under n) first ++ others → Run n x first (Err fault) → FaultAt Run n (x ∷ xs) list fault
  here n x xs first others list is run = record {
    k = 0;
    place = n;
    is_place = omega arith;
    x = x;
    at = refl;
    part = first;
    run = run;
    within = λ r in_part. subst (λ (l : List (Record Agent I V S O)). Contains l (under n r)) (sym is) (Contains-append_left (map (under n) first) others (under n r) (Contains-map (under n) first r in_part));
  }

  later : (n : ℕ) (y : X) (xs : List X) (first others list : List (Record Agent I V S O)) → list ≡ map (under n) first ++ others → FaultAt Run (suc n) xs others fault → FaultAt Run n (y ∷ xs) list fault
  later n y xs first others list is rest = record {
    k = suc rest.k;
    place = rest.place;
    is_place = let e : rest.place ≡ rest.k + suc n = rest.is_place in omega (arith, e);
    x = rest.x;
    at = rest.at;
    part = rest.part;
    run = rest.run;
    within = λ r in_part. subst (λ (l : List (Record Agent I V S O)). Contains l (under rest.place r)) (sym is) (Contains-append_right (map (under n) first) others (under rest.place r) (rest.within r in_part));
  }

  pub RunsUpToFault-fault : (n : ℕ) (xs : List X) (list : List (Record Agent I V S O)) (a : Answer F) → a ≡ Err fault → RunsUpToFault Run n xs list a → FaultAt Run n xs list fault
  RunsUpToFault-fault n [] list a e run = absurd (let no = sym run.1 ∙ e in cc)
  RunsUpToFault-fault n (x ∷ xs) list a e (first, Ok done, one, (others, is, more)) = later n x xs first others list is (RunsUpToFault-fault (suc n) xs others a e more)
  RunsUpToFault-fault n (x ∷ xs) list a e (first, Err own, one, (is, same)) = here n x xs first [] list (is ∙ sym (append-nil (map (under n) first))) (subst (Run n x first) (sym same ∙ e) one)

  pub RunsEach-fault : (n : ℕ) (xs : List X) (list : List (Record Agent I V S O)) (a : Answer F) → a ≡ Err fault → RunsEach Run n xs list a → FaultAt Run n xs list fault
  RunsEach-fault n [] list a e run = absurd (let no = sym run.1 ∙ e in cc)
  RunsEach-fault n (x ∷ xs) list a e (first, others, Ok done, b, one, more, is, same) = later n x xs first others list is (RunsEach-fault (suc n) xs others b (sym same ∙ e) more)
  RunsEach-fault n (x ∷ xs) list a e (first, others, Err own, b, one, more, is, same) = here n x xs first others list is (subst (Run n x first) (sym same ∙ e) one)
