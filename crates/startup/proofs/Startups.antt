-- Start-up follows its table, so of any run, whatever the replies are:
--     in_order     what is handed out is the beginning of the table, with the FR1 that was read
--     in_time      after 17 replies it has ended
--     stops        a failed reply to anything but a delay ends it: nothing more is handed out
--     named        and its number is what is wrong with that reply
--     opened, goes with good replies it comes to the CSR read; with the right CSR and a good clock to its last step, and a good reply there makes the driver's record
--     judged       at the CSR read, a wrong one is Check, then a bad clock Bounds, after exactly 12 actions
-- Where a reply makes the driver's record:
--     made_whole   the whole table has been handed out
--     made_record  the record has the mode and the ratio that were asked for
--     on_chip      CSR is left at 0xF0 + 2 x mode and FR1 as it was read with multiplier and vco_high
--     stays        every other register is as it was
use mathlib.Core.Path.{◌≡◌, refl, sym, ap, ◌∙◌}
use mathlib.Core.Bool.{Bool, true, false, cond, ◌&&◌, ◌||◌, and-eq-true_iff}
use mathlib.Core.List.{List, [], ◌∷◌, ◌++◌}
use Prim.Native.Nat.{ℕ, suc, ◌≤◌}
use native.Mathlib.Omega.{arith}
use borrow.Author.Tests.{leb-true, eqb-true, le-leb, lt-ltb, le-ltb, eq-eqb}
use lib.Dec.{ltb, leb, eqb}
use lib.ListN.{length, get_or, set, take}
use lib.Seq.{get_or-set_other}
use lib.Ieee.{Float, le}
use Rattle.std.specs.Prelude.{Result, Option, Some, None, Ok, Err, is_ok, slice_get}
use Rattle.registers.proofs.Choice.{by}
use Rattle.registers.specs.declared.refusal.Refusal.{Refusal}
use Rattle.registers.specs.declared.refusal.Refusal.TheVariants.{Check, Bounds}
use Rattle.registers.specs.Registers.{CSR, FR1, width_of, holds}
use Rattle.bitfields.specs.Csr.{byte_of, csr_of}
use Rattle.bitfields.specs.Fr1.{clock_in, with_clock}
use Rattle.binary32.specs.Floats.{whole, within}
use Rattle.convert.specs.declared.Driver.{Driver}
use Rattle.convert.specs.declared.clock.Clock.{Clock}
use Rattle.convert.specs.Clock.{system_of, vco_high_of, ratio_of, allowed, clock_of}
use Rattle.image.specs.Image.{apply}
use Rattle.bus.specs.declared.Action.{Action}
use Rattle.bus.specs.declared.Action.TheVariants.{Delay}
use Rattle.bus.specs.declared.Reply.{Reply}
use Rattle.bus.specs.Bus.{fault_of}
use Rattle.bus.specs.Sequence.{action, answer, after, ends, values, acts, reached, writes}
use Rattle.bus.proofs.Runs.{Here, good, failed, stands, good_some, judges, refuses, brings, ends_it, reached_append, Along, along, nothing_after, carried, complete, stop_ends, failed_stops}
use Rattle.bus.proofs.Runs as runs
use Rattle.startup.specs.declared.Startup.{Startup}
use Rattle.startup.specs.Laws.{follows, fr1_next}
use Rattle.startup.specs.Startup.{table, start, clock, legal, word, csr, waits, makes, judge, plan, fr1_to, table_of}

module _ (mode : ℕ) (reference : Float) (multiplier : ℕ) where
  abbrev s₀ : Startup
  s₀ = start mode reference multiplier

  pub in_order : (rs : List Reply) → (l : List Action) × (acts plan s₀ rs ++ l ≡ table mode (csr s₀) (word s₀ (get_or (values rs) 12 0)))
  in_order rs = runs.in_order plan table_of follows s₀ rs

  pub in_time : (rs : List Reply) → 17 ≤ length rs → action plan (reached plan s₀ rs) ≡ None
  in_time rs h = runs.in_time plan table_of follows s₀ rs (omega (arith, h))

pub stops : (s : Startup) (rs : List Reply) (v : ℕ) (more : List Reply) → ((n : ℕ) → action plan (reached plan s rs) ≡ Some (Delay n) → ⊥) → acts plan s (rs ++ failed v ∷ more) ≡ acts plan s rs
stops s rs v more = failed_stops plan table_of follows s rs v more

pub named : (s : Startup) (r : Reply) (refusal : Refusal) → fault_of (action plan s) r ≡ Err refusal → answer plan s r ≡ Err refusal
named s r refusal e = refuses plan s r refusal e

-- ---- with good replies

or_true : (a : Bool) → a || true ≡ true
or_true true = refl
or_true false = refl

pub csr_of_legal : (mode mask : ℕ) → mode ≤ 3 → mask ≤ 15 → csr_of mode mask ≡ Ok (byte_of mode mask)
csr_of_legal mode mask h k = rw (le-ltb 3 mode h, le-ltb 15 mask k)

module _ (mode : ℕ) (reference : Float) (multiplier : ℕ) (small : mode ≤ 3) (fr1 : ℕ) (fits : holds FR1 fr1 ≡ true) where
  -- the record at each step
  abbrev at : ℕ → Startup
  at k = record { step = k; mode = mode; reference = reference; multiplier = multiplier; fr1 = cond (ltb k 13) 0 fr1 }

  own : (k : ℕ) → ltb k 12 || is_ok (clock (at k)) ≡ true → legal (at k) ≡ true
  unfolding legal width_of
  own k e = rw (le-leb mode 3 small, by (λ (n : ℕ). holds FR1 n ≡ true) (ltb k 13) (λ _. refl) (λ _. fits), e)

  -- a good reply to the table's entry there
  fine : (k v : ℕ) → ltb k 12 || is_ok (clock (at k)) ≡ true → fault_of (slice_get (plan.table (at k)) k) (good v) ≡ Ok tt → fault_of (action plan (at k)) (good v) ≡ Ok tt
  fine k v e f = ap (λ (a : Option Action). fault_of a (good v)) (sym (stands plan (at k) (own k e))) ∙ f

  pub judged : (rs : List Reply) (v : ℕ) (more : List Reply) → reached plan (at 0) rs ≡ at 11 → holds CSR v ≡ true → (refusal : Refusal) → judge (at 11) v ≡ Err refusal
      → (answer plan (at 11) (good v) ≡ Err refusal) × (acts plan (at 0) (rs ++ good v ∷ more) ≡ take 12 (table mode (csr (at 0)) 0))
  judged rs v more there w refusal x =
      let e = fine 11 v refl (rw w) in
      let e' : fault_of (action plan (reached plan (at 0) rs)) (good v) ≡ Ok tt = rw there e in
      let stop : ends (judge (reached plan (at 0) rs) v) ≡ true = rw (there, x) refl in (
        judges plan (at 11) (good v) e ∙ x,
        nothing_after plan (at 0) rs (good v) more (stop_ends plan table_of follows (reached plan (at 0) rs) (good v) e' stop)
            ∙ runs.first plan table_of follows (at 0) rs refl (good_some plan (reached plan (at 0) rs) (good v) e')
            ∙ ap (λ (s : Startup). take (suc s.step) (table_of (at 0) (values rs))) there,
      )

  module _ (a b c d e f g h i j k : ℕ) where
    -- the replies up to the CSR read
    abbrev first : List Reply
    first = good a ∷ good b ∷ good c ∷ good d ∷ good e ∷ good f ∷ good g ∷ good h ∷ good i ∷ good j ∷ good k ∷ []

    opening : Along plan at 0 first
    unfolding judge
    opening = (
      fine 0 a refl refl,
      refl,
      refl,
      (
        fine 1 b refl refl,
        refl,
        refl,
        (
          fine 2 c refl refl,
          refl,
          refl,
          (
            fine 3 d refl refl,
            refl,
            refl,
            (
              fine 4 e refl refl,
              refl,
              refl,
              (
                fine 5 f refl refl,
                refl,
                refl,
                (
                  fine 6 g refl refl,
                  refl,
                  refl,
                  (
                    fine 7 h refl refl,
                    refl,
                    refl,
                    (fine 8 i refl refl, refl, refl, (fine 9 j refl refl, refl, refl, (fine 10 k refl refl, refl, refl, tt))),
                  ),
                ),
              ),
            ),
          ),
        ),
      ),
    )

    pub opened : reached plan (at 0) first ≡ at 11
    opened = along plan at 0 first opening

    module _ (l m n o : ℕ) (sound : Clock) (is : clock (at 0) ≡ Ok sound) where
      abbrev second : List Reply
      second = good (csr (at 0)) ∷ good fr1 ∷ good l ∷ good m ∷ good n ∷ []

      late : (k : ℕ) → ltb k 12 || is_ok (clock (at k)) ≡ true
      late k = rw is (or_true (ltb k 12))

      closing : Along plan at 11 second
      unfolding judge width_of
      closing =
          let byte : holds CSR (csr (at 0)) ≡ true = rw (csr_of_legal mode 15 small (omega arith), lt-ltb (byte_of mode 15) 256 (omega arith)) in (
            fine 11 (csr (at 0)) refl (rw byte),
            rw (eq-eqb (csr (at 0)) (csr (at 0)) refl, is),
            refl,
            (
              fine 12 fr1 (late 12) (rw fits),
              refl,
              refl,
              (fine 13 l (late 13) refl, refl, refl, (fine 14 m (late 14) refl, refl, refl, (fine 15 n (late 15) refl, refl, refl, tt))),
            ),
          )

      last : judge (at 16) o ≡ Ok (Some (record { mode = mode; ratio = sound.ratio }))
      unfolding judge
      last = rw is refl

      pub goes : (reached plan (at 0) (first ++ second) ≡ at 16) × (answer plan (at 16) (good o) ≡ Ok (Some (record { mode = mode; ratio = sound.ratio }))) × (after plan (at 16) (good o) ≡ at 17)
      goes =
          let e = fine 16 o (late 16) refl in
          let x = judges plan (at 16) (good o) e ∙ last in (
            reached_append plan (at 0) first second ∙ ap (λ (s : Startup). reached plan s second) opened ∙ along plan at 11 second closing,
            x,
            ends_it plan (at 16) (good o) (good_some plan (at 16) (good o) e) (ap ends x),
          )

-- ---- where the record is made

-- a judgement that makes a record stands at the last step, and its clock is good
made_by : (s : Startup) (v : ℕ) (d : Driver) → judge s v ≡ Ok (Some d) → (s.step ≡ 16) × ((c : Clock) × (clock s ≡ Ok c) × (d ≡ record { mode = s.mode; ratio = c.ratio }))
unfolding judge
made_by s v d = go (eqb s.step 11) (eqb v (csr s)) (eqb s.step 16) (clock s) (eqb-true s.step 16)
  where
    go : (a b p : Bool) (k : Result Clock Refusal) → (p ≡ true → s.step ≡ 16) → cond a (cond b (waits k) (Err Check)) (cond p (makes s.mode k) (Ok None)) ≡ Ok (Some d)
        → (s.step ≡ 16) × ((c : Clock) × (k ≡ Ok c) × (d ≡ record { mode = s.mode; ratio = c.ratio }))
    go true true p (Ok c) h e = absurd (cc)
    go true true p (Err refusal) h e = absurd (cc)
    go true false p k h e = absurd (cc)
    go false b true (Ok c) h e = (h refl, (c, refl, cc))
    go false b true (Err refusal) h e = absurd (cc)
    go false b false k h e = absurd (cc)

clock_ok : (reference : Float) (multiplier : ℕ) (c : Clock) → clock_of reference multiplier ≡ Ok c → (allowed reference multiplier ≡ true) × (c.vco ≡ vco_high_of (system_of reference multiplier))
clock_ok reference multiplier c = go (allowed reference multiplier)
  where
    go : (t : Bool) → cond t (Ok (record { system = system_of reference multiplier; vco = vco_high_of (system_of reference multiplier); ratio = ratio_of (system_of reference multiplier) })) (Err Bounds) ≡ Ok c
        → (t ≡ true) × (c.vco ≡ vco_high_of (system_of reference multiplier))
    go true e = let made : record { system = system_of reference multiplier; vco = vco_high_of (system_of reference multiplier); ratio = ratio_of (system_of reference multiplier) } ≡ c = cc in (refl, rw (← made) refl)
    go false e = absurd (cc)

allowed_most : (reference : Float) (multiplier : ℕ) → allowed reference multiplier ≡ true → multiplier ≤ 20
allowed_most reference m =
    let low = leb 4 m && leb m 20 in
    let near = within (whole 10000000) reference (whole 125000000) in
    by (λ (b : Bool). b ≡ true → m ≤ 20) (eqb m 1) (λ e _. let z = eqb-true m 1 e in omega arith)
    (λ _ h. let front = ((and-eq-true_iff (low && near) (within (whole 100000000) (system_of reference m) (whole 500000000))).0 h).0 in
    leb-true m 20 ((and-eq-true_iff (leb 4 m) (leb m 20)).0 ((and-eq-true_iff low near).0 front).0).1)

clock_word : (reference : Float) (multiplier fr1 : ℕ) (c : Clock) → clock_of reference multiplier ≡ Ok c → holds FR1 fr1 ≡ true
    → with_clock fr1 multiplier c.vco ≡ Ok (clock_in fr1 multiplier (vco_high_of (system_of reference multiplier)))
clock_word reference multiplier fr1 c e h =
    let a = clock_ok reference multiplier c e in
    let vco = vco_high_of (system_of reference multiplier) in
    let bit : ltb vco 2 ≡ true = by (λ (n : ℕ). ltb n 2 ≡ true) (le (whole 200000000) (system_of reference multiplier)) (λ _. refl) (λ _. refl) in
    rw (a.1, h, lt-ltb multiplier 32 (omega (arith, allowed_most reference multiplier a.0)), bit)

module _ (mode : ℕ) (reference : Float) (multiplier : ℕ) (rs : List Reply) (r : Reply) (d : Driver) (e : answer plan (reached plan (start mode reference multiplier) rs) r ≡ Ok (Some d)) where
  abbrev s : Startup
  s = start mode reference multiplier

  abbrev t : Startup
  t = reached plan s rs

  well : fault_of (action plan t) r ≡ Ok tt
  well = (brings plan t r (Some d) e).0

  ended_well : (t.step ≡ 16) × ((c : Clock) × (clock t ≡ Ok c) × (d ≡ record { mode = t.mode; ratio = c.ratio }))
  ended_well = made_by t r.value d (brings plan t r (Some d) e).1

  some : Here (action plan t)
  some = good_some plan t r well

  pub made_whole : (more : List Reply) → acts plan s (rs ++ r ∷ more) ≡ table mode (csr s) (word s (get_or (values rs) 12 0))
  made_whole more = complete plan table_of follows s rs r more well (ap suc ended_well.0)

  -- what a reply never changes is as it was asked for
  same : {A : Type 0} (f : Startup → A) → ((s : Startup) (v : ℕ) → f (plan.onward s v) ≡ f s) → f t ≡ f s
  same f h = carried plan table_of follows (λ s vs. f s) (λ s v vs _ _. h s v) s rs some

  pub made_record : (c : Clock) × (clock s ≡ Ok c) × (d ≡ record { mode = mode; ratio = c.ratio })
  made_record =
      let k = ended_well.1 in
      let m : t.mode ≡ mode = same (λ s. s.mode) (λ s v. refl) in
      (k.0, sym (same (λ s. clock s) (λ s v. refl)) ∙ k.1, k.2 ∙ ap (λ (m : ℕ). record { mode = m; ratio = k.0.ratio }) m)

  -- the record is in range, and its FR1 is the one that was read
  sound : (mode ≤ 3) × (holds FR1 (get_or (values rs) 12 0) ≡ true)
  unfolding legal
  sound =
      let late = ltb t.step 12 || is_ok (clock t) in
      let p = (and-eq-true_iff (leb t.mode 3 && holds FR1 t.fr1) late).0 (runs.within plan t some).0 in
      let o = (and-eq-true_iff (leb t.mode 3) (holds FR1 t.fr1)).0 p.0 in
      let read : t.fr1 ≡ get_or (values rs) 12 0 = ap (λ (k : ℕ). fr1_to k [] t.fr1) (sym ended_well.0) ∙ carried plan table_of follows (λ s vs. fr1_to s.step vs s.fr1) (λ s v vs h e. fr1_next s.step (plan.step (plan.onward s v)) v s.fr1 vs (follows.moves s v vs h e).0) s rs some in
      (rw (← same (λ s. s.mode) (λ s v. refl)) (leb-true t.mode 3 o.0), rw (← read) o.1)

  pub on_chip : (more : List Reply) (image : List ℕ) → apply (writes (acts plan s (rs ++ r ∷ more))) image
      ≡ set (set image CSR (byte_of mode 15)) FR1 (clock_in (get_or (values rs) 12 0) multiplier (vco_high_of (system_of reference multiplier)))
  unfolding word
  on_chip more image = let k = made_record in rw (made_whole more, csr_of_legal mode 15 sound.0 (omega arith), k.1, clock_word reference multiplier (get_or (values rs) 12 0) k.0 k.1 sound.1)

  pub stays : (more : List Reply) (image : List ℕ) (j : ℕ) → 2 ≤ j → get_or (apply (writes (acts plan s (rs ++ r ∷ more))) image) j 0 ≡ get_or image j 0
  stays more image j h =
      ap (λ (l : List ℕ). get_or l j 0) (on_chip more image) ∙ get_or-set_other (set image CSR _) FR1 j _ 0 (λ z. omega arith) ∙ get_or-set_other image CSR j _ 0 (λ z. omega arith)
