-- Parts that are fetched one after the other, and what they moved out given back.
use Rattle.std.proofs.Common.{◌≡◌, Bool, true, false, not, ◌&&◌, ◌||◌, Option, Some, None, cond, nat_eq, List, [], ◌∷◌, ◌++◌, inl, inr, subst, refl, sym, ◌∙◌, ap}
use Rattle.std.specs.Prelude.{is_some, is_none}
use Rattle.shred_table.specs.declared.id.Kind.{Kind}
use Rattle.shred_table.specs.declared.id.ResourceId.{ResourceId}
use Rattle.shred_world.specs.declared.world.view.DataError.{DataError}
use Rattle.shred_world.specs.declared.world.view.DataError.TheVariants.{Missing, Undeclared, Taken, WrongKind}
use Rattle.shred_world.specs.Bundles.{Part, part_refusal, moved_for, after_moved, after_part, after_parts, or_refusal, bundle_refusal, shown_parts, moved_at, moved_parts, may_lack_room, ids_of, AreOut, IsRefused}
use Rattle.shred_world.specs.Grants.{Grant, without, with_back, Moved, given_back}
use Rattle.shred_table.specs.Id.{same_id}
use Rattle.shred_table.specs.Slots.{among}
use Rattle.shred_world.specs.Views.{refusal}
use Rattle.shred_table.proofs.Tables.Slots.{same_id-true, same_id-refl}

or_again : (a b c : Option DataError) → or_refusal a (or_refusal b c) ≡ or_refusal (or_refusal a b) c
or_again (Some e) b c = refl
or_again None b c = refl

or_true : (b : Bool) → (b || true) ≡ true
or_true true = refl
or_true false = refl

or_assoc : (a b c : Bool) → (a || (b || c)) ≡ ((a || b) || c)
or_assoc true b c = refl
or_assoc false b c = refl

among_append : (ids more : List ResourceId) (q : ResourceId) → among (ids ++ more) q ≡ (among ids q || among more q)
among_append [] more q = refl
among_append (id ∷ ids) more q = ap (λ b. same_id id q || b) (among_append ids more q) ∙ or_assoc (same_id id q) _ _

neither : (a b : Bool) → (a || b) ≡ false → (a ≡ false) × (b ≡ false)
neither true b h = absurd (cc)
neither false b h = (refl, h)

-- of ids that are out, the later ones are out
pub out_later : (out : ResourceId → Bool) (ids more : List ResourceId) → AreOut out (ids ++ more) → AreOut out more
out_later out [] more h = h
out_later out (id ∷ ids) more h = out_later out ids more h.2

passed : (asked : Kind) (id : ResourceId) (declared out there : Bool) → refusal asked id declared out there ≡ None → out ≡ false
passed asked id declared out there h = by_kind (nat_eq asked.0 id.kind.0) declared out h where
  by_kind : (b declared out : Bool) → cond b (cond declared (cond out (Some (Taken id)) (cond there None (Some (Missing id)))) (Some (Undeclared id))) (Some (WrongKind asked id.kind)) ≡ None → out ≡ false
  by_kind true true true h = absurd (cc)
  by_kind true true false h = refl
  by_kind true false out h = absurd (cc)
  by_kind false declared out h = absurd (cc)

first_passed : (a b : Option DataError) → or_refusal a b ≡ None → (a ≡ None) × (b ≡ None)
first_passed (Some e) b h = absurd (cc)
first_passed None b h = (refl, h)

room_split : (r : Option DataError) (m a : Bool) (f : Option DataError) (x : Bool) → (is_none r && (m || (a || (is_none f && x)))) ≡ ((is_none r && (m || a)) || (is_none (or_refusal r f) && x))
room_split (Some e) m a f x = refl
room_split None m a f x = or_assoc m a (is_none f && x)

module _ {V : Type 0} where
  pub after_append : (g : Grant V) (ps qs : List Part) → after_parts g (ps ++ qs) ≡ after_parts (after_parts g ps) qs
  after_append g [] qs = refl
  after_append g (p ∷ ps) qs = after_append (after_part g p) ps qs

  pub refusal_append : (g : Grant V) (ps qs : List Part) → bundle_refusal g (ps ++ qs) ≡ or_refusal (bundle_refusal g ps) (bundle_refusal (after_parts g ps) qs)
  refusal_append g [] qs = refl
  refusal_append g (p ∷ ps) qs = ap (or_refusal (part_refusal g p)) (refusal_append (after_part g p) ps qs) ∙ or_again (part_refusal g p) _ _

  pub shown_append : (g : Grant V) (ps qs : List Part) → shown_parts g (ps ++ qs) ≡ shown_parts g ps ++ shown_parts (after_parts g ps) qs
  shown_append g [] qs = refl
  shown_append g (p ∷ ps) qs = ap (λ os. g.held p.id ∷ os) (shown_append (after_part g p) ps qs)

  at_append : (id : ResourceId) (o : Option V) (ms ns : Moved V) → moved_at id o (ms ++ ns) ≡ moved_at id o ms ++ ns
  at_append id (Some v) ms ns = refl
  at_append id None ms ns = refl

  pub moved_append : (g : Grant V) (ps qs : List Part) → moved_parts g (ps ++ qs) ≡ moved_parts g ps ++ moved_parts (after_parts g ps) qs
  moved_append g [] qs = refl
  moved_append g (p ∷ ps) qs = ap (moved_at p.id (moved_for g p)) (moved_append (after_part g p) ps qs) ∙ at_append p.id (moved_for g p) (moved_parts (after_part g p) ps) _

  pub lack_append : (g : Grant V) (ps qs : List Part) → may_lack_room g (ps ++ qs) ≡ (may_lack_room g ps || (is_none (bundle_refusal g ps) && may_lack_room (after_parts g ps) qs))
  lack_append g [] qs = refl
  lack_append g (p ∷ ps) qs = ap (λ b. is_none (part_refusal g p) && (is_some (moved_for g p) || b)) (lack_append (after_part g p) ps qs)
      ∙ room_split (part_refusal g p) (is_some (moved_for g p)) (may_lack_room (after_part g p) ps) (bundle_refusal (after_part g p) ps) (may_lack_room (after_parts (after_part g p) ps) qs)

  pub given_append : (g : Grant V) (ms ns : Moved V) → given_back g (ms ++ ns) ≡ given_back (given_back g ns) ms
  given_append g [] ns = refl
  given_append g (m ∷ ms) ns = ap (λ h. with_back h m.0 m.1) (given_append g ms ns)

  pub ids_append : (ms ns : Moved V) → ids_of (ms ++ ns) ≡ ids_of ms ++ ids_of ns
  ids_append [] ns = refl
  ids_append (m ∷ ms) ns = ap (λ ids. m.0 ∷ ids) (ids_append ms ns)

  -- what was given back is not out, and all else is as it was
  pub given_out : (g : Grant V) (ms : Moved V) (q : ResourceId) → (given_back g ms).out q ≡ (not (among (ids_of ms) q) && g.out q)
  given_out g [] q = refl
  given_out g (m ∷ ms) q = ap (λ b. not (same_id m.0 q) && b) (given_out g ms q) ∙ both (same_id m.0 q) (among (ids_of ms) q) (g.out q) where
    both : (a b c : Bool) → (not a && (not b && c)) ≡ (not (a || b) && c)
    both true b c = refl
    both false b c = refl

  -- once the later ones were given back, the others are still out
  pub out_earlier : (g : Grant V) (ids : List ResourceId) (ms : Moved V) → AreOut g.out (ids ++ ids_of ms) → AreOut (given_back g ms).out ids
  out_earlier g [] ms h = tt
  out_earlier g (id ∷ ids) ms h =
      let apart = neither (among ids id) (among (ids_of ms) id) (sym (among_append ids (ids_of ms) id) ∙ h.1) in
      (given_out g ms id ∙ (λ i. not (apart.1 i) && h.0 i), apart.0, out_earlier g ids ms h.2)

  -- what is out stays out
  stays_out : (g : Grant V) (id : ResourceId) (o : Option V) (q : ResourceId) → g.out q ≡ true → (after_moved g id o).out q ≡ true
  stays_out g id (Some v) q h = ap (λ b. same_id id q || b) h ∙ or_true (same_id id q)
  stays_out g id None q h = h

  all_stays_out : (g : Grant V) (ps : List Part) (q : ResourceId) → g.out q ≡ true → (after_parts g ps).out q ≡ true
  all_stays_out g [] q h = h
  all_stays_out g (p ∷ ps) q h = all_stays_out (after_part g p) ps q (stays_out g p.id (moved_for g p) q h)

  -- what was out is not moved out
  not_moved : (g : Grant V) (ps : List Part) (q : ResourceId) → bundle_refusal g ps ≡ None → g.out q ≡ true → among (ids_of (moved_parts g ps)) q ≡ false
  not_moved g [] q ok h = refl
  not_moved g (p ∷ ps) q ok h = at (moved_for g p) (not_moved (after_part g p) ps q (first_passed (part_refusal g p) _ ok).1 (stays_out g p.id (moved_for g p) q h)) where
    other : (b : Bool) → same_id p.id q ≡ b → b ≡ false
    other true e = let f : g.out p.id ≡ true = (λ i. g.out (same_id-true p.id q e i)) ∙ h in let f' = passed p.kind p.id _ (g.out p.id) _ (first_passed (part_refusal g p) _ ok).0 in absurd (cc)
    other false e = refl

    at : (o : Option V) → among (ids_of (moved_parts (after_part g p) ps)) q ≡ false → among (ids_of (moved_at p.id o (moved_parts (after_part g p) ps))) q ≡ false
    at (Some v) rest = λ i. other (same_id p.id q) refl i || rest i
    at None rest = rest

  -- what a bundle moved out is out, each id once
  pub moved_are_out : (g : Grant V) (ps : List Part) → bundle_refusal g ps ≡ None → AreOut (after_parts g ps).out (ids_of (moved_parts g ps))
  moved_are_out g [] ok = tt
  moved_are_out g (p ∷ ps) ok = at (moved_for g p) refl (moved_are_out (after_part g p) ps rest_ok) where
    rest_ok : bundle_refusal (after_part g p) ps ≡ None
    rest_ok = (first_passed (part_refusal g p) _ ok).1

    now_out : (o : Option V) (v : V) → o ≡ Some v → (after_moved g p.id o).out p.id ≡ true
    now_out (Some u) v e = ap (λ b. b || g.out p.id) (same_id-refl p.id)
    now_out None v e = absurd (cc)

    at : (o : Option V) → moved_for g p ≡ o → AreOut (after_parts (after_part g p) ps).out (ids_of (moved_parts (after_part g p) ps)) → AreOut (after_parts (after_part g p) ps).out (ids_of (moved_at p.id o (moved_parts (after_part g p) ps)))
    at (Some v) e rest =
        let out : (after_part g p).out p.id ≡ true = now_out (moved_for g p) v e in
        (all_stays_out (after_part g p) ps p.id out, not_moved (after_part g p) ps p.id rest_ok out, rest)
    at None e rest = rest

  -- to give back what was moved out leaves what was before
  pub given_as_before : (g : Grant V) (ps : List Part) → bundle_refusal g ps ≡ None → given_back (after_parts g ps) (moved_parts g ps) ≡ g
  given_as_before g [] ok = refl
  given_as_before g (p ∷ ps) ok = at (moved_for g p) refl (given_as_before (after_part g p) ps (first_passed (part_refusal g p) _ ok).1) where
    passes : (part_refusal g p ≡ None) × (bundle_refusal (after_part g p) ps ≡ None)
    passes = first_passed (part_refusal g p) (bundle_refusal (after_part g p) ps) ok

    at : (o : Option V) → moved_for g p ≡ o → given_back (after_parts (after_part g p) ps) (moved_parts (after_part g p) ps) ≡ after_part g p
        → given_back (after_parts (after_part g p) ps) (moved_at p.id o (moved_parts (after_part g p) ps)) ≡ g
    at None e rest = rest ∙ ap (after_moved g p.id) e
    at (Some v) e rest = ap (λ h. with_back h p.id v) (rest ∙ ap (after_moved g p.id) e) ∙ whole where
      of_own : (b : Bool) (o : Option V) → cond b o None ≡ Some v → o ≡ Some v
      of_own true o h = h
      of_own false o h = absurd (cc)

      out : (q : ResourceId) (b : Bool) → same_id p.id q ≡ b → (not b && (b || g.out q)) ≡ g.out q
      out q true h = sym (passed p.kind p.id _ (g.out p.id) _ passes.0) ∙ (λ i. g.out (same_id-true p.id q h i))
      out q false h = refl

      held : (q : ResourceId) (b : Bool) → same_id p.id q ≡ b → cond b (Some v) (cond b None (g.held q)) ≡ g.held q
      held q true h = sym (of_own (g.own p.id) (g.held p.id) e) ∙ (λ i. g.held (same_id-true p.id q h i))
      held q false h = refl

      whole : with_back (without g p.id) p.id v ≡ g
      whole = λ i. record { reads = g.reads; writes = g.writes; own = g.own; out = λ q. out q (same_id p.id q) refl i; held = λ q. held q (same_id p.id q) refl i }

  -- what the first parts are refused for, all are
  pub refused_first : (g : Grant V) (ps qs : List Part) (e : DataError) → IsRefused g ps e → IsRefused g (ps ++ qs) e
  refused_first g ps qs e (inl h) = inl (refusal_append g ps qs ∙ ap (λ r. or_refusal r (bundle_refusal (after_parts g ps) qs)) h)
  refused_first g ps qs e (inr h) = inr (h.0, lack_append g ps qs ∙ ap (λ b. b || (is_none (bundle_refusal g ps) && may_lack_room (after_parts g ps) qs)) h.1)

  -- where the first parts are not refused, what the others are refused for, all are
  pub refused_second : (g : Grant V) (ps qs : List Part) (e : DataError) → bundle_refusal g ps ≡ None → IsRefused (after_parts g ps) qs e → IsRefused g (ps ++ qs) e
  refused_second g ps qs e ok (inl h) = inl (refusal_append g ps qs ∙ ap (λ r. or_refusal r (bundle_refusal (after_parts g ps) qs)) ok ∙ h)
  refused_second g ps qs e ok (inr h) = inr (h.0, lack_append g ps qs ∙ (λ i. may_lack_room g ps || (is_none (ok i) && h.1 i)) ∙ or_true (may_lack_room g ps))

  -- the same, of a view's grants and of what a bundle holds
  pub taken_are_out : (before after : Grant V) (ps : List Part) (ms : Moved V) → after ≡ after_parts before ps → ms ≡ moved_parts before ps → bundle_refusal before ps ≡ None → AreOut after.out (ids_of ms)
  taken_are_out before after ps ms taken moved ok = subst (λ (g : Grant V). AreOut g.out (ids_of ms)) (sym taken) (subst (λ ns. AreOut (after_parts before ps).out (ids_of ns)) (sym moved) (moved_are_out before ps ok))

  pub taken_as_before : (before after : Grant V) (ps : List Part) (ms : Moved V) → after ≡ after_parts before ps → ms ≡ moved_parts before ps → bundle_refusal before ps ≡ None → given_back after ms ≡ before
  taken_as_before before after ps ms taken moved ok = (λ i. given_back (taken i) (moved i)) ∙ given_as_before before ps ok

  -- once all that was out is given back, nothing is out
  pub all_given : (before after : Grant V) (ms : Moved V) → after ≡ given_back before ms → ((q : ResourceId) → before.out q ≡ among (ids_of ms) q) → (q : ResourceId) → after.out q ≡ false
  all_given before after ms is all q = (λ i. (is i).out q) ∙ given_out before ms q ∙ (λ i. not (among (ids_of ms) q) && all q i) ∙ never (among (ids_of ms) q) where
    never : (b : Bool) → (not b && b) ≡ false
    never true = refl
    never false = refl
