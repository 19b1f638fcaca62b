-- Two runs beside each other are one and then the other, in either order.
use Rattle.std.proofs.Common.{◌≡◌, Bool, true, false, Option, None, cond, refl, sym, ◌∙◌, ap, subst}
use Rattle.std.specs.Option.{option_map}
use Rattle.shred_model.specs.Access.{Access, Conflicts}
use Rattle.shred_table.specs.declared.id.Kind.{Kind}
use Rattle.shred_table.specs.declared.id.ResourceId.{ResourceId}
use Rattle.shred_table.specs.Slots.{among}
use Rattle.shred_world.specs.Worked.{Held}
use Rattle.shred_run.specs.Steps.{Outcome, declared_of}
use Rattle.shred_trees.specs.Trees.{Trees, IsRun, tree_access, TailRanFirst}
use Rattle.shred_trees.proofs.Apart.{declares, by_cases, never, either-true, conflicts-sym, not-declared}

cond-same : {X : Type 0} (b : Bool) (x y : Option X) → (b ≡ true → x ≡ y) → cond b x None ≡ cond b y None
cond-same true x y e = e refl
cond-same false x y e = refl

-- what is held under declared ids rests on these alone
pub declared-same : {V : Type 0} (access : Access ResourceId) (f g : Held V) → ((id : ResourceId) → declares access id ≡ true → f id ≡ g id) → declared_of access f ≡ declared_of access g
declared-same access f g e = λ i id. cond-same (declares access id) (f id) (g id) (e id) i

module _ {V T E : Type 0} (kind : V → Kind) (trees : Trees V T E) (old new : T) (outcome : Outcome E) (seen left before after : Held V)
    (sees : (id : ResourceId) → declares (tree_access trees old) id ≡ true → seen id ≡ before id)
    (puts : (id : ResourceId) → among (trees.writes old) id ≡ true → after id ≡ left id)
    (rest : (id : ResourceId) → among (trees.writes old) id ≡ false → after id ≡ before id) where
  -- a run over what is declared, put into its place, is one over all that is held
  pub run-moved : IsRun kind trees old seen outcome new left → IsRun kind trees old before outcome new after
  run-moved run = record {
    lies = subst (λ s. trees.runs old s outcome new (declared_of (tree_access trees old) after)) (declared-same (tree_access trees old) seen before sees)
        (subst (λ l. trees.runs old (declared_of (tree_access trees old) seen) outcome new l)
        (declared-same (tree_access trees old) left after
        (λ id d. by_cases (among (trees.writes old) id) (λ w. sym (puts id w)) (λ w. run.frame id w ∙ sees id d ∙ sym (rest id w))))
        run.lies);
    frame = rest;
    keeps_kinds = λ id. by_cases (among (trees.writes old) id)
        (λ w. ap (option_map kind) (puts id w) ∙ run.keeps_kinds id ∙ ap (option_map kind) (sees id (either-true (among (trees.reads old) id) (among (trees.writes old) id) w)))
        (λ w. ap (option_map kind) (rest id w));
    same_reads = run.same_reads;
    same_writes = run.same_writes;
  }

module _ {V H T E : Type 0} (kind : V → Kind) (heads : Trees V H E) (tails : Trees V T E) (a a' : H) (b b' : T) (apart : Conflicts (tree_access heads a) (tree_access tails b) → ⊥)
    (x y : Outcome E) (m head-seen head-left tail-seen tail-left after : Held V)
    (head-sees : (id : ResourceId) → declares (tree_access heads a) id ≡ true → head-seen id ≡ m id)
    (tail-sees : (id : ResourceId) → declares (tree_access tails b) id ≡ true → tail-seen id ≡ m id)
    (head-puts : (id : ResourceId) → among (heads.writes a) id ≡ true → after id ≡ head-left id)
    (tail-puts : (id : ResourceId) → among (tails.writes b) id ≡ true → after id ≡ tail-left id)
    (rest : (id : ResourceId) → among (heads.writes a) id ≡ false → among (tails.writes b) id ≡ false → after id ≡ m id)
    (head : IsRun kind heads a head-seen x a' head-left) (tail : IsRun kind tails b tail-seen y b' tail-left) where
  abbrev between : Held V
  between id = cond (among (heads.writes a) id) (head-left id) (m id)

  at-written : (id : ResourceId) → among (heads.writes a) id ≡ true → between id ≡ head-left id
  at-written id w = ap (λ (c : Bool). cond c (head-left id) (m id)) w

  at-other : (id : ResourceId) → among (heads.writes a) id ≡ false → between id ≡ m id
  at-other id w = ap (λ (c : Bool). cond c (head-left id) (m id)) w

  tail-alone : (id : ResourceId) → declares (tree_access tails b) id ≡ true → among (heads.writes a) id ≡ false
  tail-alone id d = never (among (heads.writes a) id) (λ w. let e = not-declared (tree_access heads a) (tree_access tails b) apart id w in cc)

  tail-rest : (id : ResourceId) → among (tails.writes b) id ≡ false → after id ≡ between id
  tail-rest id out = by_cases (among (heads.writes a) id) (λ w. head-puts id w ∙ sym (at-written id w)) (λ w. rest id w out ∙ sym (at-other id w))

  -- two runs, each over what it declares, are a run of the first and then one of the second
  pub in-order : (mid : Held V) × IsRun kind heads a m x a' mid × IsRun kind tails b mid y b' after
  in-order = (
    between,
    run-moved kind heads a a' x head-seen head-left m between head-sees at-written at-other head,
    run-moved kind tails b b' y tail-seen tail-left between after (λ id d. tail-sees id d ∙ sym (at-other id (tail-alone id d))) tail-puts tail-rest tail,
  )

-- What a run of the first and then one of the second leaves, a run of the second and then one of the first with the same outcomes reaches too.
pub swapped : {V H T E : Type 0} (kind : V → Kind) (heads : Trees V H E) (tails : Trees V T E) (a a' : H) (b b' : T) → (Conflicts (tree_access heads a) (tree_access tails b) → ⊥) → (m mid after : Held V) (x y : Outcome E)
    → IsRun kind heads a m x a' mid → IsRun kind tails b mid y b' after → TailRanFirst kind heads tails a b m x y a' b' after
swapped kind heads tails a a' b b' apart m mid after x y head tail =
    in-order kind tails heads b b' a a' (λ c. apart (conflicts-sym (tree_access tails b) (tree_access heads a) c)) y x m mid after m mid after
    (λ id d. head.frame id (never (among (heads.writes a) id) (λ w. let e = not-declared (tree_access heads a) (tree_access tails b) apart id w in cc)))
    (λ id d. refl)
    (λ id w. refl)
    (λ id w. tail.frame id (never (among (tails.writes b) id) (λ v. let e = not-declared (tree_access heads a) (tree_access tails b) apart id w in let f = either-true (among (tails.reads b) id) (among (tails.writes b) id) v in cc)))
    (λ id v w. tail.frame id v ∙ head.frame id w)
    tail head
