-- A legal channel setting or reading at its first step, for any list of replies.
--     first_action                              it hands out the write of CSR
--     first_good, second_good                   a good reply answers Ok; the second ends it with the meaning of the word that was written or read
--     first_failed, second_failed, second_wide  a failed reply ends it with Interface, a value too wide for the register that is read with Word
--     exactly        what is handed out: CSR's write, and the entry where the first reply did not fail; whatever comes after
--     whole_table    with two good replies it is the table
--     nothing_more   after a failed reply nothing more is handed out
--     on_chip        what it leaves of an image: unanswered_selects, failed_selects, get_selects: the channels are selected, and no more
--     set_gives      with a good first reply each selected channel's register has the word
--     word_stays     every word but CSR and those stays
use mathlib.Core.Path.{◌≡◌, refl, sym, ap, ◌∙◌}
use mathlib.Core.Bool.{Bool, true, false, cond, not}
use mathlib.Core.List.{List, [], ◌∷◌, ◌++◌}
use mathlib.Core.Logic.{◌≢◌}
use Prim.Native.Nat.{ℕ, ◌≤◌, ◌<◌}
use native.Mathlib.Omega.{arith}
use borrow.Author.Tests.{le-ltb}
use lib.Dec.{T}
use lib.Ieee.{Float}
use lib.ListN.{length, get_or}
use lib.Seq.{get_or-set_other}
use Rattle.std.specs.Prelude.{Result, Option, Some, None, Ok, Err}
use Rattle.registers.proofs.Choice.{by}
use Rattle.registers.specs.declared.refusal.Refusal.{Refusal}
use Rattle.registers.specs.declared.refusal.Refusal.TheVariants.{Interface, Word}
use Rattle.registers.specs.Registers.{CSR, holds}
use Rattle.bitfields.specs.Csr.{byte_of}
use Rattle.bus.specs.declared.Action.{Action}
use Rattle.bus.specs.declared.Action.TheVariants.{Write}
use Rattle.bus.specs.declared.Reply.{Reply}
use Rattle.bus.specs.Bus.{fault_of}
use Rattle.bus.specs.Sequence.{shown, action, answer, after, ends, acts, writes}
use Rattle.bus.proofs.Runs.{good, failed, judges, refuses, goes_on, ends_it, answer_ends, hands_nothing, in_time}
use Rattle.image.specs.Image.{reaches, give, selected, select, apply}
use Rattle.image.proofs.Images.{give_stays, selected_select}
use Rattle.driver.specs.declared.channel.Access.{Access}
use Rattle.driver.specs.declared.channel.Access.TheVariants.{Set, Get}
use Rattle.driver.specs.declared.channel.Transfer.{Transfer}
use Rattle.driver.proofs.Channels.{in_range, legal_at}
use Rattle.driver.specs.Channel.{entry, table, legal, at, plan, word_of, meaning_of}
use Rattle.driver.specs.ChannelLaws.{follows}

-- a value that comes back with the second reply counts only where the register is read
abbrev pub Held : ℕ → Access → ℕ → Type 0
Held register (Set word) v = Unit {0}
Held register Get v = holds register v ≡ true

-- what a reply brings, and the record after it
abbrev pub Brings : Transfer → Reply → Result (Option Float) Refusal → Transfer → Type 0
Brings s r x next = (answer plan s r ≡ x) × (after plan s r ≡ next)

-- the same of a reply that comes after a good one
abbrev pub Then : Transfer → ℕ → Reply → Result (Option Float) Refusal → Transfer → Type 0
Then s u r x next = Brings (after plan s (good u)) r x next

-- the second action is handed out with the first reply, where that did not fail
abbrev pub second : Transfer → List Reply → List Action
second s [] = []
second s (r ∷ rs) = cond r.failed [] (entry s.register s.access ∷ [])

entry_good : (register : ℕ) (access : Access) (v : ℕ) → Held register access v → fault_of (Some (entry register access)) (good v) ≡ Ok tt
entry_good register (Set word) v h = refl
entry_good register Get v h = rw h

entry_failed : (register : ℕ) (access : Access) (v : ℕ) → fault_of (Some (entry register access)) (failed v) ≡ Err Interface
entry_failed register (Set word) v = refl
entry_failed register Get v = refl

-- what the second action makes of an image
abbrev pub given : Access → ℕ → ℕ → List ℕ → List ℕ
given (Set word) mask register image = give mask register word image
given Get mask register image = image

entry_gives : (access : Access) (mask register : ℕ) (image : List ℕ) → 3 ≤ register → selected image ≡ mask → apply (writes (entry register access ∷ [])) image ≡ given access mask register image
entry_gives (Set word) mask register image h e = rw (le-ltb register 3 h, e)
entry_gives Get mask register image h e = refl

given_stays : (access : Access) (mask register : ℕ) (image : List ℕ) (j : ℕ) → T (not (reaches 4 mask register j)) → get_or (given access mask register image) j 0 ≡ get_or image j 0
given_stays (Set word) mask register image j t = give_stays 4 mask register word image j t
given_stays Get mask register image j t = refl

-- what some replies leave of an image in which the channels are selected
abbrev pub chip : Transfer → List Reply → List ℕ → List ℕ
chip s [] image = image
chip s (r ∷ rs) image = cond r.failed image (given s.access s.mask s.register image)

chip_stays : (s : Transfer) (rs : List Reply) (image : List ℕ) (j : ℕ) → T (not (reaches 4 s.mask s.register j)) → get_or (chip s rs image) j 0 ≡ get_or image j 0
chip_stays s [] image j t = refl
chip_stays s (r ∷ rs) image j t = by (λ (l : List ℕ). get_or l j 0 ≡ get_or image j 0) r.failed (λ _. refl) (λ _. given_stays s.access s.mask s.register image j t)

module _ (s : Transfer) (k : legal s ≡ true) (f : s.step ≡ 0) where
  pub first_action : action plan s ≡ Some (Write CSR (byte_of s.mode s.mask))
  unfolding action
  first_action = rw (k, f)

  second_action : action plan (at s 1) ≡ Some (entry s.register s.access)
  unfolding action
  second_action = rw (legal_at s 1, k)

  -- ---- its replies

  pub first_good : (u : ℕ) → Brings s (good u) (Ok None) (at s 1)
  first_good u =
      let e : fault_of (action plan s) (good u) ≡ Ok tt = rw first_action refl in
      let x : plan.judge s u ≡ Ok None = rw f refl in
      (judges plan s (good u) e ∙ x, goes_on plan s (good u) e (ap ends x) ∙ rw f refl)

  pub first_failed : (v : ℕ) → Brings s (failed v) (Err Interface) (at s 2)
  first_failed v =
      let x = refuses plan s (failed v) Interface (rw first_action refl) in
      (x, ends_it plan s (failed v) (_, first_action) (ap ends x))

  -- what ends it at the second action
  last : (u : ℕ) (r : Reply) (x : Result (Option Float) Refusal) → answer plan (at s 1) r ≡ x → ends x ≡ true → Then s u r x (at s 2)
  last u r x e t = rw (first_good u).1 (e, ends_it plan (at s 1) r (_, second_action) (rw e t))

  pub second_good : (u v : ℕ) → Held s.register s.access v → Then s u (good v) (Ok (Some (meaning_of s.register s.ratio (word_of s.access v)))) (at s 2)
  second_good u v h = last u (good v) _ (judges plan (at s 1) (good v) (rw second_action (entry_good s.register s.access v h))) refl

  pub second_failed : (u v : ℕ) → Then s u (failed v) (Err Interface) (at s 2)
  second_failed u v = last u (failed v) (Err Interface) (refuses plan (at s 1) (failed v) Interface (rw second_action (entry_failed s.register s.access v))) refl

  pub second_wide : s.access ≡ Get → (u v : ℕ) → holds s.register v ≡ false → Then s u (good v) (Err Word) (at s 2)
  second_wide e u v h = last u (good v) (Err Word) (refuses plan (at s 1) (good v) Word (rw (second_action, e, h) refl)) refl

  -- ---- what is handed out

  rest : (rs : List Reply) → acts plan (at s 1) rs ≡ entry s.register s.access ∷ []
  rest [] = rw second_action
  rest (r ∷ rs) = rw (hands_nothing plan (after plan (at s 1) r) rs (in_time plan (λ s vs. table s) follows (at s 1) (r ∷ []) (omega arith)), second_action)

  pub exactly : (rs : List Reply) → acts plan s rs ≡ Write CSR (byte_of s.mode s.mask) ∷ second s rs
  exactly [] = rw first_action
  exactly (r ∷ rs) = ap (λ (l : List Action). shown (action plan s) ++ l) (go r.failed r.value) ∙ rw first_action
    where
      go : (b : Bool) (v : ℕ) → acts plan (after plan s (record { failed = b; value = v })) rs ≡ cond b [] (entry s.register s.access ∷ [])
      go true v = hands_nothing plan (after plan s (failed v)) rs (answer_ends plan (λ s vs. table s) follows s (failed v) (ap ends (first_failed v).0))
      go false v = rw (first_good v).1 (rest rs)

  pub whole_table : (u v : ℕ) → acts plan s (good u ∷ good v ∷ []) ≡ table s
  whole_table u v = exactly (good u ∷ good v ∷ [])

  pub nothing_more : (rs : List Reply) (v : ℕ) (more : List Reply) → acts plan s (rs ++ failed v ∷ more) ≡ acts plan s rs
  nothing_more [] v more = exactly (failed v ∷ more) ∙ sym (exactly [])
  nothing_more (r ∷ rs) v more = exactly (r ∷ rs ++ failed v ∷ more) ∙ sym (exactly (r ∷ rs))

  -- ---- on the chip

  module _ (image : List ℕ) (i : 0 < length image) where
    abbrev selects : List ℕ
    selects = select s.mode s.mask image

    pub on_chip : (rs : List Reply) → apply (writes (acts plan s rs)) image ≡ chip s rs selects
    on_chip [] = rw (exactly [])
    on_chip (r ∷ rs) = rw (exactly (r ∷ rs)) (go r.failed)
      where
        go : (b : Bool) → apply (writes (cond b [] (entry s.register s.access ∷ []))) selects ≡ cond b selects (given s.access s.mask s.register selects)
        go true = refl
        go false = let g = in_range s k in entry_gives s.access s.mask s.register selects g.2 (selected_select s.mode s.mask image i g.0)

    pub get_selects : s.access ≡ Get → (rs : List Reply) → apply (writes (acts plan s rs)) image ≡ selects
    get_selects e [] = on_chip []
    get_selects e (r ∷ rs) = on_chip (r ∷ rs) ∙ rw e (by (λ (l : List ℕ). l ≡ selects) r.failed (λ _. refl) (λ _. refl))

    pub unanswered_selects : apply (writes (acts plan s [])) image ≡ selects
    unanswered_selects = on_chip []

    pub failed_selects : (v : ℕ) (rs : List Reply) → apply (writes (acts plan s (failed v ∷ rs))) image ≡ selects
    failed_selects v rs = on_chip (failed v ∷ rs)

    pub set_gives : (word : ℕ) → s.access ≡ Set word → (v : ℕ) (rs : List Reply) → apply (writes (acts plan s (good v ∷ rs))) image ≡ give s.mask s.register word selects
    set_gives word e v rs = on_chip (good v ∷ rs) ∙ rw e

    pub word_stays : (j : ℕ) → j ≢ CSR → T (not (reaches 4 s.mask s.register j)) → (rs : List Reply) → get_or (apply (writes (acts plan s rs)) image) j 0 ≡ get_or image j 0
    word_stays j h t rs = rw (on_chip rs) (chip_stays s rs selects j t ∙ get_or-set_other image CSR j (byte_of s.mode s.mask) 0 h)
