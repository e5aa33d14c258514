-- Document 01, channel settings and readings. Definitions only.
use Rattle.std.specs.Prelude.{ℕ, Bool, true, cond, ◌&&◌, ◌||◌, List, [], ◌∷◌, ltb, eqb, is_ok, Float, Option, Some, None, Result, Ok, Err}
use Rattle.std.specs.Result.{result_and}
use Rattle.registers.specs.declared.refusal.Refusal.{Refusal}
use Rattle.registers.specs.declared.refusal.Refusal.TheVariants.{NotReady}
use Rattle.registers.specs.Registers.{CSR, CFTW0, CPOW0, ACR, holds}
use Rattle.bitfields.specs.Csr.{byte_of, csr_of}
use Rattle.convert.specs.declared.Driver.{Driver}
use Rattle.convert.specs.declared.Setting.{Setting}
use Rattle.convert.specs.Frequency as frequency
use Rattle.convert.specs.Phase as phase
use Rattle.convert.specs.Amplitude as amplitude
use Rattle.bus.specs.declared.Action.{Action}
use Rattle.bus.specs.declared.Action.TheVariants.{Write, Read}
use Rattle.bus.specs.declared.Reply.{Reply}
use Rattle.bus.specs.Sequence as bus
use Rattle.driver.specs.declared.channel.Access.{Access}
use Rattle.driver.specs.declared.channel.Access.TheVariants.{Set, Get}
use Rattle.driver.specs.declared.channel.Transfer.{Transfer}

abbrev pub start : Driver → ℕ → ℕ → Access → Transfer
start d mask register access = record { step = 0; mode = d.mode; mask = mask; register = register; access = access; ratio = d.ratio }

-- what is done with a register, or the conversion's own refusal
abbrev pub begun : Driver → ℕ → ℕ → Result Access Refusal → Result Transfer Refusal
begun d mask register (Ok access) = Ok (start d mask register access)
begun d mask register (Err refusal) = Err refusal

-- Mode, Mask, then the conversion's own refusal; before any action
abbrev pub begin_of : Driver → ℕ → ℕ → Result Access Refusal → Result Transfer Refusal
begin_of d mask register access = result_and (csr_of d.mode mask) (begun d mask register access)

-- ---- settings

-- the word of a setting is written
abbrev pub writes : Result Setting Refusal → Result Access Refusal
writes (Ok s) = Ok (Set s.word)
writes (Err refusal) = Err refusal

abbrev pub set_frequency : Driver → ℕ → Float → Result Transfer Refusal
set_frequency d mask f = begin_of d mask CFTW0 (writes (frequency.setting_of d.ratio f))

abbrev pub set_phase : Driver → ℕ → Float → Result Transfer Refusal
set_phase d mask p = begin_of d mask CPOW0 (Ok (Set (phase.setting_of p).word))

abbrev pub set_amplitude : Driver → ℕ → Float → Result Transfer Refusal
set_amplitude d mask a = begin_of d mask ACR (writes (amplitude.setting_of a))

-- ---- readings

abbrev pub get_frequency : Driver → ℕ → Result Transfer Refusal
get_frequency d mask = begin_of d mask CFTW0 (cond (frequency.ready d.ratio) (Ok Get) (Err NotReady))

abbrev pub get_phase : Driver → ℕ → Result Transfer Refusal
get_phase d mask = begin_of d mask CPOW0 (Ok Get)

abbrev pub get_amplitude : Driver → ℕ → Result Transfer Refusal
get_amplitude d mask = begin_of d mask ACR (Ok Get)

-- ---- the sequence

-- write CSR, then write the register or read it
abbrev pub entry : ℕ → Access → Action
entry register (Set word) = Write register word
entry register Get = Read register

abbrev pub table : Transfer → List Action
table s = Write CSR (byte_of s.mode s.mask) ∷ entry s.register s.access ∷ []

-- the register is CFTW0, CPOW0 or ACR, and the ratio is judged where it is CFTW0
abbrev pub own : ℕ → Float → Bool
own register ratio = cond (eqb register CFTW0) (frequency.ready ratio) (eqb register CPOW0 || eqb register ACR)

-- a phase word is at most 16383; any other as its register holds it
abbrev pub takes : ℕ → Access → Bool
takes register (Set word) = cond (eqb register CPOW0) (ltb word 16384) (holds register word)
takes register Get = true

-- a mode, mask, register, value or ratio out of range counts as ended
unfoldable pub legal : Transfer → Bool
legal s = is_ok (csr_of s.mode s.mask) && own s.register s.ratio && takes s.register s.access

abbrev pub at : Transfer → ℕ → Transfer
at s step = record { step = step; mode = s.mode; mask = s.mask; register = s.register; access = s.access; ratio = s.ratio }

-- ---- the result

-- the word that was written, or the one that came back
abbrev pub word_of : Access → ℕ → ℕ
word_of (Set word) v = word
word_of Get v = v

abbrev pub meaning_of : ℕ → Float → ℕ → Float
meaning_of register ratio word = cond (eqb register CFTW0) (frequency.meaning ratio word) (cond (eqb register CPOW0) (phase.meaning word) (amplitude.meaning word))

-- with the good reply to the second action comes what the register's word means
abbrev pub judge : Transfer → ℕ → Result (Option Float) Refusal
judge s v = Ok (cond (eqb s.step 1) (Some (meaning_of s.register s.ratio (word_of s.access v))) None)

abbrev pub plan : bus.Plan Transfer Float
plan = record { legal = legal; step = λ s. s.step; table = table; judge = judge; onward = λ s v. at s (bus.next s.step); ended = λ s. at s 2 }

-- what is handed out of what was begun, for any list of replies: nothing of a refusal
abbrev pub handed : Result Transfer Refusal → List Reply → List Action
handed (Ok s) rs = bus.acts plan s rs
handed (Err refusal) rs = []
