-- The word agrees with who holds the cell, after each step.
use Rattle.std.proofs.Common.{◌≡◌, ℕ, zero, suc, ◌+◌, ◌-◌, ◌<◌, ◌≤◌, ◌==◌, Bool, true, false, cond, List, [], ◌∷◌, length, Some, None, refl, arith}
use Rattle.std.proofs.lemmas.Grind.{common_steps}
use Rattle.std.specs.Prelude.{nat_lt, Contains, ◌≢◌, is_some, unwrap_or}
use Rattle.shred_cell.specs.declared.word.Word.{Word}
use Rattle.shred_cell.specs.declared.word.Word.TheVariants.{Free, Readers, Writer}
use Rattle.shred_cell.specs.declared.word.Ask.{Ask}
use Rattle.shred_cell.specs.declared.word.Ask.TheVariants.{Read, Write, Copy, EndRead, EndWrite}
use Rattle.shred_cell.specs.Word.{most_readers, step, step_of_readers}
use Rattle.shred_cell.specs.Agreement.{PartyStep, Holders, MayAsk, without_hold, word_after, holders_after, AsksLead, Agrees}

-- one hold less of who has one
without_length : (party : ℕ) (ps : List ℕ) → Contains ps party → length (without_hold party ps) + 1 ≡ length ps
without_length party [] (k, below, at) = absurd (omega (arith, below))
without_length party (p ∷ ps) (zero, below, at) = grind (arith, common_steps)
without_length party (p ∷ ps) (suc k, below, at) = let rest = without_length party ps (k, omega arith, at) in grind (arith, common_steps)

-- what a step does where n readers hold the cell
of_readers : (n : ℕ) (ask : Ask) → 0 < n → n ≤ most_readers → step (Readers n) ask ≡ step_of_readers n ask
of_readers n ask some most = grind (arith, common_steps)

one_more : (n : ℕ) (h : Holders) (party : ℕ) (room : Bool) → nat_lt n most_readers ≡ room → Agrees (Readers n) h
    → Agrees (unwrap_or (cond room (Some (Readers (n + 1))) None) (Readers n)) (cond (is_some (cond room (Some (Readers (n + 1))) None)) (record { readers = party ∷ h.readers; writers = h.writers }) h)
one_more n h party true room agrees = let below : n < most_readers = grind (arith, common_steps) in (omega arith, omega arith, omega arith, agrees.3)
one_more n h party false room agrees = agrees

one_less : (n : ℕ) (h : Holders) (party : ℕ) (last : Bool) → (n == 1) ≡ last → Contains h.readers party → Agrees (Readers n) h
    → Agrees (unwrap_or (cond last (Some Free) (Some (Readers (n - 1)))) (Readers n)) (cond (is_some (cond last (Some Free) (Some (Readers (n - 1))))) (record { readers = without_hold party h.readers; writers = h.writers }) h)
one_less n h party true last may agrees = let one : n ≡ 1 = grind (arith, common_steps) in let less = without_length party h.readers may in (omega arith, agrees.3)
one_less n h party false last may agrees = let more : n ≢ 1 = grind (arith, common_steps) in let less = without_length party h.readers may in (omega arith, omega arith, omega arith, agrees.3)

keeps_readers : (n : ℕ) (h : Holders) (party : ℕ) (ask : Ask) → MayAsk h party ask → Agrees (Readers n) h → Agrees (word_after (Readers n) ask) (holders_after (Readers n) h (record { party = party; ask = ask }))
keeps_readers n h party Write may agrees = rw (of_readers n Write agrees.0 agrees.1) agrees
keeps_readers n h party EndWrite may agrees = rw (of_readers n EndWrite agrees.0 agrees.1) agrees
keeps_readers n h party Read may agrees = rw (of_readers n Read agrees.0 agrees.1) (one_more n h party (nat_lt n most_readers) refl agrees)
keeps_readers n h party Copy may agrees = rw (of_readers n Copy agrees.0 agrees.1) (one_more n h party (nat_lt n most_readers) refl agrees)
keeps_readers n h party EndRead may agrees = rw (of_readers n EndRead agrees.0 agrees.1) (one_less n h party (n == 1) refl may agrees)

pub keeps : (word : Word) (h : Holders) (party : ℕ) (ask : Ask) → MayAsk h party ask → Agrees word h → Agrees (word_after word ask) (holders_after word h (record { party = party; ask = ask }))
keeps Free h party Read may agrees = (omega arith, omega arith, omega arith, agrees.1)
keeps Free h party Write may agrees = (agrees.0, omega arith)
keeps Free h party Copy may agrees = agrees
keeps Free h party EndRead may agrees = agrees
keeps Free h party EndWrite may agrees = agrees
keeps (Readers n) h party ask may agrees = keeps_readers n h party ask may agrees
keeps Writer h party Read may agrees = agrees
keeps Writer h party Write may agrees = agrees
keeps Writer h party Copy may agrees = agrees
keeps Writer h party EndRead may agrees = agrees
keeps Writer h party EndWrite may agrees = let less = without_length party h.writers may in (agrees.0, omega arith)

pub agreed : (word : Word) (h : Holders) (steps : List PartyStep) (last : Word) (holders : Holders) → Agrees word h → AsksLead word h steps last holders → Agrees last holders
agreed word h [] last holders agrees goes = rw (goes.0, goes.1) agrees
agreed word h (s ∷ ss) last holders agrees goes = agreed (word_after word s.ask) (holders_after word h s) ss last holders (keeps word h s.party s.ask goes.0 agrees) goes.1
