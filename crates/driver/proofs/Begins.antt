-- What is made of a setting or a reading that is asked for, and what is refused.
--     mode_first, then_mask, then_number   what is refused, in this order, and nothing is handed out of it
--     else_begins                          else it begins
--     begins                               what is made is legal and stands at its first step
--     set_frequency_achieves, set_phase_achieves, set_amplitude_achieves   two good replies give what the setting achieved
--     get_frequency_means, get_phase_means, get_amplitude_means            they give what the word that came back means
use mathlib.Core.Path.{◌≡◌, refl, sym, subst}
use mathlib.Core.Bool.{Bool, true, false, cond}
use mathlib.Core.List.{List, []}
use Prim.Native.Nat.{ℕ, ◌^◌, ◌≤◌, ◌<◌}
use native.Mathlib.Nat.{mod-eq_of_lt}
use borrow.Author.Tests.{lt-ltb, le-ltb}
use lib.Ieee.{Float}
use Rattle.std.specs.Prelude.{Result, Some, Ok, Err, is_ok}
use Rattle.std.specs.Result.{result_and}
use lib.Ieee.Bits.{is_true}
use lib.Ieee.Casts.{to_unsigned-lt}
use Rattle.registers.specs.declared.refusal.Refusal.{Refusal}
use Rattle.registers.specs.declared.refusal.Refusal.TheVariants.{Mask, Mode, NotReady, Word}
use Rattle.registers.specs.Registers.{CFTW0, CPOW0, ACR, width_of, holds}
use Rattle.bitfields.specs.Csr.{csr_of}
use Rattle.bus.specs.declared.Reply.{Reply}
use Rattle.bus.proofs.Runs.{good}
use Rattle.convert.specs.declared.Driver.{Driver}
use Rattle.convert.specs.declared.Setting.{Setting}
use Rattle.convert.specs.Frequency as frequency
use Rattle.convert.specs.Phase as phase
use Rattle.convert.specs.Amplitude as amplitude
use Rattle.convert.proofs.Rising.{accepted}
use Rattle.convert.proofs.Steps.{word_lt}
use Rattle.convert.proofs.Achieved.{amplitude_back}
use Rattle.driver.specs.declared.channel.Access.{Access}
use Rattle.driver.specs.declared.channel.Access.TheVariants.{Set, Get}
use Rattle.driver.specs.declared.channel.Transfer.{Transfer}
use Rattle.driver.proofs.Transfers.{Held, Then, second_good}
use Rattle.driver.specs.Channel.{start, begun, begin_of, writes, set_frequency, set_phase, set_amplitude, get_frequency, get_phase, get_amplitude, own, takes, legal, at, handed, word_of, meaning_of}

-- ---- what is begun, and what is refused

-- it is refused, and nothing is handed out
abbrev pub Refuses : Result Transfer Refusal → Refusal → Type 0
Refuses b refusal = (b ≡ Err refusal) × ((rs : List Reply) → handed b rs ≡ [])

refuses : (b : Result Transfer Refusal) (refusal : Refusal) → b ≡ Err refusal → Refuses b refusal
refuses b refusal e = (e, λ rs. rw e)

module _ (d : Driver) (mask register : ℕ) (access : Result Access Refusal) where
  abbrev what : Result Transfer Refusal
  what = begin_of d mask register access

  pub mode_first : 3 < d.mode → Refuses what Mode
  mode_first h = refuses what Mode (rw (lt-ltb 3 d.mode h))

  pub then_mask : d.mode ≤ 3 → 15 < mask → Refuses what Mask
  then_mask m h = refuses what Mask (rw (le-ltb 3 d.mode m, lt-ltb 15 mask h))

  -- then what refuses the conversion, under its number
  pub then_number : d.mode ≤ 3 → mask ≤ 15 → (refusal : Refusal) → access ≡ Err refusal → Refuses what refusal
  then_number m k refusal e = refuses what refusal (rw (le-ltb 3 d.mode m, le-ltb 15 mask k, e))

  pub else_begins : d.mode ≤ 3 → mask ≤ 15 → (a : Access) → access ≡ Ok a → what ≡ Ok (start d mask register a)
  else_begins m k a e = rw (le-ltb 3 d.mode m, le-ltb 15 mask k, e)

  -- what is made was not refused
  made : (s : Transfer) → what ≡ Ok s → (a : Access) × (access ≡ Ok a) × (start d mask register a ≡ s) × (is_ok (csr_of d.mode mask) ≡ true)
  made s = go (csr_of d.mode mask) access
    where
      go : (c : Result ℕ Refusal) (w : Result Access Refusal) → result_and c (begun d mask register w) ≡ Ok s → (a : Access) × (w ≡ Ok a) × (start d mask register a ≡ s) × (is_ok c ≡ true)
      go (Ok csr) (Ok a) e = (a, refl, cc, refl)
      go (Ok csr) (Err refusal) e = absurd (cc)
      go (Err refusal) w e = absurd (cc)

-- ---- the quantities

-- a word that is read well: it is held, and means what is read
read_well : (t : Bool) (x a : Float) → cond t (Ok x) (Err Word) ≡ Ok a → (t ≡ true) × (x ≡ a)
read_well true x a e = (refl, cc)
read_well false x a e = absurd (cc)

-- a setting that is made has a register of its own, a word that this takes, and the word means what was achieved
abbrev Serves : ℕ → Float → Result Setting Refusal → Type 0
Serves register ratio r = (t : Setting) → r ≡ Ok t → (own register ratio ≡ true) × (takes register (Set t.word) ≡ true) × (meaning_of register ratio t.word ≡ t.achieved)

frequency_serves : (ratio f : Float) → Serves CFTW0 ratio (frequency.setting_of ratio f)
unfolding width_of
frequency_serves ratio f t e =
    let a = accepted ratio f t e in
    (is_true (frequency.ready ratio) a.0, rw a.1 (lt-ltb (frequency.word_of ratio f) (2 ^ 32) (to_unsigned-lt 32 _)), rw a.1)

phase_serves : (ratio p : Float) → Serves CPOW0 ratio (Ok (phase.setting_of p))
phase_serves ratio p t e =
    let made : phase.setting_of p ≡ t = cc in
    rw (← made) (refl, lt-ltb (phase.word_of p) 16384 (word_lt p), rw (mod-eq_of_lt (word_lt p)))

amplitude_serves : (ratio a : Float) → Serves ACR ratio (amplitude.setting_of a)
amplitude_serves ratio a t e = let b = read_well (holds ACR t.word) (amplitude.meaning t.word) t.achieved (amplitude_back a t e) in (refl, b.0, b.1)

legal_start : (d : Driver) (mask register : ℕ) (access : Access)
    → is_ok (csr_of d.mode mask) ≡ true → own register d.ratio ≡ true → takes register access ≡ true → legal (start d mask register access) ≡ true
unfolding legal
legal_start d mask register access c o t = rw (c, o, t)

-- the setting whose word is written
written : (r : Result Setting Refusal) (a : Access) → writes r ≡ Ok a → (t : Setting) × (r ≡ Ok t) × (Set t.word ≡ a)
written (Ok t) a e = (t, refl, cc)
written (Err refusal) a e = absurd (cc)

only_read : (c : Bool) (a : Access) → cond c (Ok Get) (Err NotReady) ≡ Ok a → (c ≡ true) × (Get ≡ a)
only_read true a e = (refl, cc)
only_read false a e = absurd (cc)

-- ---- what is made

-- with two good replies, the second with a value v, it ends well with x
abbrev pub Gives : Transfer → ℕ → Float → Type 0
Gives s v x = (u : ℕ) → Then s u (good v) (Ok (Some x)) (at s 2)

module _ (d : Driver) (mask : ℕ) where
  -- what is made is the start of its register and access, is legal, and is at its first step
  abbrev pub Begins : ℕ → Access → Transfer → Type 0
  Begins register access s = (start d mask register access ≡ s) × (legal s ≡ true) × (s.step ≡ 0)

  -- and good replies give what the register's word means
  abbrev Means : ℕ → Access → Transfer → Type 0
  Means register access s = Begins register access s × ((v : ℕ) → Held register access v → Gives s v (meaning_of register d.ratio (word_of access v)))

  started : (register : ℕ) (a : Access) (s : Transfer) → start d mask register a ≡ s → is_ok (csr_of d.mode mask) ≡ true → own register d.ratio ≡ true → takes register a ≡ true → Means register a s
  started register a s e c o t = let k = legal_start d mask register a c o t in rw (← e) ((refl, k, refl), λ v h u. second_good (start d mask register a) k refl u v h)

  pub begins : (register : ℕ) (access : Result Access Refusal) → ((a : Access) → access ≡ Ok a → (own register d.ratio ≡ true) × (takes register a ≡ true)) → (s : Transfer)
      → begin_of d mask register access ≡ Ok s → (a : Access) × (access ≡ Ok a) × Means register a s
  begins register access f s e =
      let m = made d mask register access s e in
      let g = f m.0 m.1 in
      (m.0, m.1, started register m.0 s m.2 m.3 g.0 g.1)

  -- a setting that serves, in its register
  abbrev pub Sets : ℕ → Result Setting Refusal → Result Transfer Refusal → Type 0
  Sets register r b = (s : Transfer) → b ≡ Ok s → (t : Setting) × (r ≡ Ok t) × Begins register (Set t.word) s × ((v : ℕ) → Gives s v t.achieved)

  sets : (register : ℕ) (r : Result Setting Refusal) → Serves register d.ratio r → Sets register r (begin_of d mask register (writes r))
  sets register r f s e =
      let b = begins register (writes r) (λ a x. let w = written r a x in let g = f w.0 w.1 in (g.0, rw (← w.2) g.1)) s e in
      let w = written r b.0 b.1 in
      let m = subst (λ (a : Access). Means register a s) (sym w.2) b.2 in
      (w.0, w.1, m.0, λ v. rw (← (f w.0 w.1).2) (m.1 v tt))

  pub set_frequency_achieves : (x : Float) → Sets CFTW0 (frequency.setting_of d.ratio x) (set_frequency d mask x)
  set_frequency_achieves x = sets CFTW0 (frequency.setting_of d.ratio x) (frequency_serves d.ratio x)

  pub set_phase_achieves : (x : Float) → Sets CPOW0 (Ok (phase.setting_of x)) (set_phase d mask x)
  set_phase_achieves x = sets CPOW0 (Ok (phase.setting_of x)) (phase_serves d.ratio x)

  pub set_amplitude_achieves : (x : Float) → Sets ACR (amplitude.setting_of x) (set_amplitude d mask x)
  set_amplitude_achieves x = sets ACR (amplitude.setting_of x) (amplitude_serves d.ratio x)

  -- a reading of a register, where meaning is what a word of it means
  abbrev pub Reads : ℕ → (ℕ → Float) → Result Transfer Refusal → Type 0
  Reads register meaning b = (s : Transfer) → b ≡ Ok s → Begins register Get s × ((v : ℕ) → holds register v ≡ true → Gives s v (meaning v))

  reads : (register : ℕ) (c : Bool) → (c ≡ true → own register d.ratio ≡ true) → Reads register (meaning_of register d.ratio) (begin_of d mask register (cond c (Ok Get) (Err NotReady)))
  reads register c o s e =
      let b = begins register (cond c (Ok Get) (Err NotReady)) (λ a x. let g = only_read c a x in (o g.0, rw (← g.1) refl)) s e in
      subst (λ (a : Access). Means register a s) (sym (only_read c b.0 b.1).1) b.2

  pub get_frequency_means : Reads CFTW0 (frequency.meaning d.ratio) (get_frequency d mask)
  get_frequency_means = reads CFTW0 (frequency.ready d.ratio) (λ e. e)

  pub get_phase_means : Reads CPOW0 phase.meaning (get_phase d mask)
  get_phase_means = reads CPOW0 true (λ _. refl)

  pub get_amplitude_means : Reads ACR amplitude.meaning (get_amplitude d mask)
  get_amplitude_means = reads ACR true (λ _. refl)
