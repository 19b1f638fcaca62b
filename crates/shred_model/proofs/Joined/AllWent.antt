-- Halves that went beside each other are the whole, and elements that hold their parts.
use Rattle.std.proofs.Common.{◌≡◌, ℕ, zero, suc, ◌+◌, ◌<◌, ◌≤◌, List, [], ◌∷◌, ◌++◌, length, set, get_or, Option, Ok, refl, sym, ◌∙◌, ap, subst, arith, add-one}
use Rattle.shred_model.specs.Record.{Record, Agent}
use Rattle.shred_model.specs.Runs.{Answer, first_fault, Ran}
use Rattle.shred_model.specs.States.{configuration_of}
use Rattle.shred_model.specs.Beside.{RanBeside, AllWent}
use Rattle.shred_model.proofs.Joined.FirstFault.{first_fault-assoc, first_fault-Ok}

module _ {Y F : Type 0} (Went : Y → Answer F → Y → Type 0) where
  AllWent-append : (ys : List Y) (a : Answer F) (zs ys' : List Y) (b : Answer F) (zs' : List Y) → AllWent Went ys a zs → AllWent Went ys' b zs' → AllWent Went (ys ++ ys') (first_fault a b) (zs ++ zs')
  AllWent-append [] a [] ys' b zs' one two = subst (λ (w : Answer F). AllWent Went ys' w zs') (ap (λ (w : Answer F). first_fault w b) (sym one)) two
  AllWent-append (y ∷ ys) a (z ∷ zs) ys' b zs' (c, d, went, rest, is) two = (c, first_fault d b, went, AllWent-append ys d zs ys' b zs' rest two, ap (λ (w : Answer F). first_fault w b) is ∙ first_fault-assoc c d b)
  AllWent-append [] a (z ∷ zs) ys' b zs' one two = absurd one
  AllWent-append (y ∷ ys) a [] ys' b zs' one two = absurd one

  -- two halves, where the whole and the answer are given by equations
  pub AllWent-halves : (ys front back : List Y) (answer a b : Answer F) (zs zs' : List Y) → ys ≡ front ++ back → answer ≡ first_fault a b → AllWent Went front a zs → AllWent Went back b zs' → AllWent Went ys answer (zs ++ zs')
  AllWent-halves ys front back answer a b zs zs' whole is one two = rw (whole, is) (AllWent-append front a zs back b zs' one two)

module _ {Y F : Type 0} (Went : Y → Answer F → Y → Type 0) where
  -- the elements below a place went, one after the other, and the others are as they were
  abbrev pub WentTo : ℕ → List Y → Answer F → List Y → Type 0
  WentTo i [] a [] = a ≡ Ok tt
  WentTo i [] a (z ∷ zs) = ⊥
  WentTo i (y ∷ ys) a [] = ⊥
  WentTo zero (y ∷ ys) a (z ∷ zs) = (z ≡ y) × WentTo zero ys a zs
  WentTo (suc i) (y ∷ ys) a (z ∷ zs) = (b : Answer F) × (c : Answer F) × Went y b z × WentTo i ys c zs × (a ≡ first_fault b c)

  pub WentTo-start : (ys : List Y) → WentTo 0 ys (Ok tt) ys
  WentTo-start [] = refl
  WentTo-start (y ∷ ys) = (refl, WentTo-start ys)

  pub WentTo-length : (i : ℕ) (ys : List Y) (a : Answer F) (zs : List Y) → WentTo i ys a zs → length zs ≡ length ys
  WentTo-length i [] a [] to = refl
  WentTo-length i [] a (z ∷ zs) to = absurd to
  WentTo-length i (y ∷ ys) a [] to = absurd to
  WentTo-length zero (y ∷ ys) a (z ∷ zs) to = let rest = WentTo-length 0 ys a zs to.1 in omega arith
  WentTo-length (suc i) (y ∷ ys) a (z ∷ zs) to = let rest = WentTo-length i ys to.1 zs to.3 in omega arith

  -- the next element is as it was
  pub WentTo-at : (i : ℕ) (ys : List Y) (a : Answer F) (zs : List Y) (d : Y) → i < length ys → WentTo i ys a zs → get_or zs i d ≡ get_or ys i d
  WentTo-at i [] a zs d below to = absurd (omega arith)
  WentTo-at i (y ∷ ys) a [] d below to = absurd to
  WentTo-at zero (y ∷ ys) a (z ∷ zs) d below to = to.0
  WentTo-at (suc i) (y ∷ ys) a (z ∷ zs) d below to = WentTo-at i ys to.1 zs d (omega arith) to.3

  done-so-far : (ys : List Y) (a : Answer F) (zs : List Y) → WentTo 0 ys a zs → a ≡ Ok tt
  done-so-far [] a [] to = to
  done-so-far [] a (z ∷ zs) to = absurd to
  done-so-far (y ∷ ys) a [] to = absurd to
  done-so-far (y ∷ ys) a (z ∷ zs) to = done-so-far ys a zs to.1

  -- one element more
  pub WentTo-more : (i : ℕ) (ys : List Y) (a b : Answer F) (zs : List Y) (d z : Y) → i < length ys → WentTo i ys a zs → Went (get_or ys i d) b z → WentTo (i + 1) ys (first_fault a b) (set zs i z)
  WentTo-more i ys a b zs d z below to went = rw add-one (more i ys a zs below to went) where
    more : (i : ℕ) (ys : List Y) (a : Answer F) (zs : List Y) → i < length ys → WentTo i ys a zs → Went (get_or ys i d) b z → WentTo (suc i) ys (first_fault a b) (set zs i z)
    more i [] a zs below to went = absurd (omega arith)
    more i (y ∷ ys) a [] below to went = absurd to
    more zero (y ∷ ys) a (x ∷ zs) below to went =
        let none = done-so-far ys a zs to.1 in
        (b, Ok tt, went, subst (λ (w : Answer F). WentTo 0 ys w zs) none to.1, ap (λ (w : Answer F). first_fault w b) none ∙ sym (first_fault-Ok b))
    more (suc i) (y ∷ ys) a (x ∷ zs) below to went =
        (to.0, first_fault to.1 b, to.2, more i ys to.1 zs (omega arith) to.3 went, ap (λ (w : Answer F). first_fault w b) to.4 ∙ first_fault-assoc to.0 to.1 b)

  -- all elements
  pub WentTo-end : (i : ℕ) (ys : List Y) (a : Answer F) (zs : List Y) → length ys ≤ i → WentTo i ys a zs → AllWent Went ys a zs
  WentTo-end i [] a [] above to = to
  WentTo-end i [] a (z ∷ zs) above to = absurd to
  WentTo-end i (y ∷ ys) a [] above to = absurd to
  WentTo-end zero (y ∷ ys) a (z ∷ zs) above to = absurd (omega arith)
  WentTo-end (suc i) (y ∷ ys) a (z ∷ zs) above to = (to.0, to.1, to.2, WentTo-end i ys to.1 zs (omega arith) to.3, to.4)

-- elements that each hold their part, and ran over it
pub RanBeside-from_went : {X Y I V S O F : Type 0} (Run : X → List (Record Agent I V S O) → Answer F → Type 0) (view : Y → X) (states : Y → Agent → Option S) (seen : Y → I → Option V) (Went : Y → Answer F → Y → Type 0)
    → ((y : Y) (a : Answer F) (z : Y) → Went y a z → Ran (Run (view y)) (configuration_of (states y) (seen y)) a (configuration_of (states z) (seen z)) × (view z ≡ view y))
    → (ys : List Y) (a : Answer F) (zs : List Y) → AllWent Went ys a zs → RanBeside Run view states seen ys ys a zs zs
RanBeside-from_went Run view states seen Went reads [] a [] went = went
RanBeside-from_went Run view states seen Went reads (y ∷ ys) a (z ∷ zs) (c, d, one, rest, is) =
    let here = reads y c z one in
    (c, d, here.0, here.1, RanBeside-from_went Run view states seen Went reads ys d zs rest, is)
RanBeside-from_went Run view states seen Went reads [] a (z ∷ zs) went = absurd went
RanBeside-from_went Run view states seen Went reads (y ∷ ys) a [] went = absurd went
