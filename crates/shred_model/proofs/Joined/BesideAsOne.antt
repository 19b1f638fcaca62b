-- Elements that run beside each other leave what they leave one after another.
use Rattle.std.proofs.Common.{◌≡◌, ◌≢◌, ℕ, zero, suc, ◌+◌, ◌<◌, ◌≤◌, List, [], ◌∷◌, ◌++◌, ◌⊎◌, map, Option, Contains, inl, inr, refl, sym, ◌∙◌, ap, subst, arith}
use Rattle.std.specs.List.{AllByRecursion}
use Rattle.shred_model.specs.Access.{Access, Declares, Conflicts}
use Rattle.shred_model.specs.Record.{Record, Agent, IsFramed, under}
use Rattle.shred_model.specs.Replay.{Configuration, Replays}
use Rattle.shred_model.specs.Runs.{Answer, RunsEach}
use Rattle.shred_model.specs.States.{listed_states, configuration_of}
use Rattle.shred_model.specs.Serializable.{IsSerializable}
use Rattle.shred_model.specs.Beside.{AreApart, PartsShow, PartsPut, SomeWrites, RanBeside}
use Rattle.shred_model.proofs.Records.Telling.{Tells, Decided, tell_numbers}
use Rattle.shred_model.proofs.Records.Membership.{is_contained, is_declared}
use Rattle.shred_model.proofs.Orders.ReplaySteps.{Replays-append}
use Rattle.shred_model.proofs.Records.Framed.{AllByRecursion-weaker, RunsEach-framed}
use Rattle.shred_model.proofs.Records.Within.{IsWithin, Replays-unwritten}
use Rattle.shred_model.proofs.Records.Lift.{patch, patch-in, patch-out, patch-at, patch-else, patch-IsPart, patch-IsSameElsewhere, Replays-lifted}
use Rattle.shred_model.proofs.Joined.Apart.{AllPairs-head, AllPairs-tail, Any-cases, PartsShow-kept}
use Rattle.shred_model.proofs.Joined.Beside.{RanBeside-view}
use Rattle.shred_model.proofs.Orders.Serializable.{as_one_thread}

module _ {I V S Y : Type 0} (states : Y → Agent → Option S) where
  -- the elements' states stand under their places, from n on
  abbrev ShowsFrom : ℕ → List Y → Configuration Agent I V S → Type 0
  ShowsFrom n ys x = (j k : ℕ) (a : Agent) → j ≡ n + k → x.states (j ∷ a) ≡ listed_states states ys (k ∷ a)

  -- the states under all places before n, and under none, are the same
  abbrev SameBefore : ℕ → Configuration Agent I V S → Configuration Agent I V S → Type 0
  SameBefore n x y = (at : Agent) → ((j : ℕ) (b : Agent) → at ≡ j ∷ b → n ≤ j → ⊥) → y.states at ≡ x.states at

  same_past : (n : ℕ) (x y : Configuration Agent I V S) → ShowsFrom n [] x → ShowsFrom n [] y → SameBefore n x y → (at : Agent) → y.states at ≡ x.states at
  same_past n x y show_x show_y same [] = same [] (λ j b e lo. cc)
  same_past n x y show_x show_y same (j ∷ a) = elim (by_place j n) [
    | inl k ↦ show_y j k.0 a k.1 ∙ sym (show_x j k.0 a k.1)
    | inr below ↦ same (j ∷ a) (λ k b e lo. let f : j ≡ k = cc in omega arith)
  ] where
    by_place : (j n : ℕ) → ((k : ℕ) × (j ≡ n + k)) ⊎ (j < n)
    by_place j zero = inl (j, omega arith)
    by_place zero (suc n) = inr (omega arith)
    by_place (suc j) (suc n) = elim (by_place j n) [ inl k ↦ inl (k.0, let e = k.1 in omega arith) | inr h ↦ inr (omega arith) ]

  module _ (D : I → Type 0) (dec : (i : I) → Decided (D i)) (n : ℕ) where
    -- the middle setting has what stands before and after, as the whole
    middle_shows : (y : Y) (ys : List Y) (x m : Configuration Agent I V S) → ShowsFrom n (y ∷ ys) x → ShowsFrom (suc n) ys (patch D dec n x m)
    middle_shows y ys x m show j k a e = patch-else D dec n x m (j ∷ a) (λ b f. let g : j ≡ n = cc in absurd (omega arith)) ∙ show j (suc k) a (omega arith)

    middle_before : (z : Y) (zs : List Y) (x m y : Configuration Agent I V S) → ((a : Agent) → m.states a ≡ states z a) → ShowsFrom n (z ∷ zs) y → SameBefore n x y → SameBefore (suc n) (patch D dec n x m) y
    middle_before z zs x m y here show same [] out = same [] (λ j b e lo. cc) ∙ sym (patch-else D dec n x m [] (λ b e. cc))
    middle_before z zs x m y here show same (j ∷ a) out = elim (tell_numbers j n) [
      | inl e ↦ show j 0 a (omega arith) ∙ sym (here a) ∙ sym (patch-at D dec n x m a) ∙ ap (λ (w : ℕ). (patch D dec n x m).states (w ∷ a)) (sym e)
      | inr ne ↦ same (j ∷ a) (λ k b e lo. out k b e (let f : j ≡ k = cc in above k lo (λ g. ne (f ∙ g)))) ∙ sym (patch-else D dec n x m (j ∷ a) (λ b e. ne cc))
    ] where
      above : (k : ℕ) → n ≤ k → k ≢ n → suc n ≤ k
      above k lo ne = omega arith

module _ {X Y I V S O F P : Type 0} (tell_ids : Tells I) (Run : X → List (Record Agent I V S O) → Answer F → Type 0) (view : Y → X) (states : Y → Agent → Option S) (seen : P → I → Option V) (access : X → Access I)
    (within : (x : X) (list : List (Record Agent I V S O)) (a : Answer F) → Run x list a → AllByRecursion (IsWithin (access x)) list) where
  pub one_after_another : (n : ℕ) (ys : List Y) (ps : List P) (a : Answer F) (zs : List Y) (qs : List P) (x y : Configuration Agent I V S)
      → RanBeside Run view states seen ys ps a zs qs → AreApart access (map view ys) → ShowsFrom states n ys x → ShowsFrom states n zs y → PartsShow access seen (map view ys) ps x.values → PartsPut access seen (map view ys) qs y.values
      → ((i : I) → (SomeWrites access (map view ys) i → ⊥) → y.values i ≡ x.values i) → SameBefore states n x y
      → (list : List (Record Agent I V S O)) × RunsEach (λ k. Run) n (map view ys) list a × Replays x list y
  one_after_another n [] [] a [] [] x y ran apart show_x show_y show put out same =
      ([], (refl, ran), record { values = λ i. out i (λ h. absurd (let lt = h.2 in omega arith)); states = same_past states n x y show_x show_y same })
  one_after_another n [] [] a [] (q ∷ qs) x y ran apart show_x show_y show put out same = absurd ran
  one_after_another n [] [] a (z ∷ zs) qs x y ran apart show_x show_y show put out same = absurd ran
  one_after_another n [] (p ∷ ps) a zs qs x y ran apart show_x show_y show put out same = absurd ran
  one_after_another n (e ∷ ys) [] a zs qs x y ran apart show_x show_y show put out same = absurd ran
  one_after_another n (e ∷ ys) (p ∷ ps) a [] qs x y ran apart show_x show_y show put out same = absurd ran
  one_after_another n (e ∷ ys) (p ∷ ps) a (z ∷ zs) [] x y ran apart show_x show_y show put out same = absurd ran
  one_after_another n (e ∷ ys) (p ∷ ps) a (z ∷ zs) (q ∷ qs) x y (c, d, ran, planned, rest, is) apart show_x show_y show put out same =
      let D : I → Type 0 = Declares (access (view e)) in
      let dec : (i : I) → Decided (D i) = is_declared tell_ids (access (view e)) in
      let u : Configuration Agent I V S = configuration_of (states e) (seen p) in
      let w : Configuration Agent I V S = configuration_of (states z) (seen q) in
      let m : Configuration Agent I V S = patch D dec n x w in
      let held : AllByRecursion (IsWithin (access (view e))) ran.list = within (view e) ran.list c ran.run in
      let one : Replays x (map (under n) ran.list) m =
      Replays-lifted D dec n ran.list u w x m (AllByRecursion-weaker (IsWithin (access (view e))) (λ r. (i : I) → Declares r.access i → D i) (λ r h. h.declared) ran.list held) ran.replays
      (record { values = show.0; states = λ a. show_x n 0 a (omega arith) }) (patch-IsPart D dec n x w) (patch-IsSameElsewhere D dec n x w) in
      let kept : (i : I) → (Contains (access (view e)).writes i → ⊥) → m.values i ≡ x.values i = λ i o. elim (dec i) [
        | inl h ↦ patch-in D dec n x w i h ∙ Replays-unwritten tell_ids (access (view e)) ran.list u w i held ran.replays o ∙ sym (show.0 i h)
        | inr h ↦ patch-out D dec n x w i h
      ] in
      let more = one_after_another (suc n) ys ps d zs qs m y rest (AllPairs-tail (λ s t. Conflicts (access s) (access t) → ⊥) (view e) (map view ys) apart)
      (middle_shows states D dec n e ys x w show_x) (λ j k a f. show_y j (suc k) a (omega arith))
      (PartsShow-kept access seen (view e) (map view ys) ps x.values m.values kept (AllPairs-head (λ s t. Conflicts (access s) (access t) → ⊥) (view e) (map view ys) apart) show.1) put.1
      (λ i o. elim (is_contained tell_ids (access (view e)).writes i) [
        | inl h ↦ put.0 i h ∙ sym (patch-in D dec n x w i (inr h))
        | inr h ↦ out i (λ some. elim (Any-cases (λ s. Contains (access s).writes i) (view e) (map view ys) some) [ inl f ↦ h f | inr g ↦ o g ]) ∙ sym (kept i h)
      ])
      (middle_before states D dec n z zs x w y (λ a. refl {a = states z a}) show_y same) in
      (map (under n) ran.list ++ more.0, (ran.list, more.0, c, d, ran.run, more.1, refl {a = map (under n) ran.list ++ more.0}, is), Replays-append x (map (under n) ran.list) m more.0 y one more.2)

  -- The elements ran beside each other, each over its part of the values v; the written values of the parts are there in w, and all else is as in v.
  pub beside_as_one_thread : (ys : List Y) (ps : List P) (a : Answer F) (zs : List Y) (qs : List P) (v w : I → Option V)
      → RanBeside Run view states seen ys ps a zs qs → AreApart access (map view ys) → PartsShow access seen (map view ys) ps v → PartsPut access seen (map view zs) qs w
      → ((i : I) → (SomeWrites access (map view ys) i → ⊥) → w i ≡ v i)
      → IsSerializable (λ list. RunsEach (λ k. Run) 0 (map view ys) list a) (configuration_of (listed_states states ys) v) (configuration_of (listed_states states zs) w)
  beside_as_one_thread ys ps a zs qs v w ran apart show put out =
      let found = one_after_another 0 ys ps a zs qs (configuration_of (listed_states states ys) v) (configuration_of (listed_states states zs) w) ran apart (at_place ys) (at_place zs) show
      (subst (λ (l : List X). PartsPut access seen l qs w) (RanBeside-view Run view states seen ys ps a zs qs ran) put) out (nowhere ys zs) in
      as_one_thread tell_ids (λ list. RunsEach (λ k. Run) 0 (map view ys) list a) found.0 (configuration_of (listed_states states ys) v) (configuration_of (listed_states states zs) w) found.1
      (RunsEach-framed (λ k. Run) (λ k x list b run. AllByRecursion-weaker (IsWithin (access x)) IsFramed (λ r h. h.framed) list (within x list b run)) 0 (map view ys) found.0 a found.1) found.2
    where
      at_place : (es : List Y) (j k : ℕ) (b : Agent) → j ≡ 0 + k → listed_states states es (j ∷ b) ≡ listed_states states es (k ∷ b)
      at_place es j k b e = let f : j ≡ k = omega arith in ap (λ (l : ℕ). listed_states states es (l ∷ b)) f

      nowhere : (es fs : List Y) (at : Agent) → ((j : ℕ) (b : Agent) → at ≡ j ∷ b → 0 ≤ j → ⊥) → listed_states states fs at ≡ listed_states states es at
      nowhere es fs [] never = refl
      nowhere es fs (j ∷ b) never = absurd (never j b refl (omega arith))
