-- Document 01, "Profile serializer": the rules of a push and of finalising, over numbers and register writes. No bytes here. Definitions only.
use Rattle.std.specs.Prelude.{ℕ, zero, suc, ◌+◌, ◌-◌, ◌/◌, ◌%◌, Bool, false, ◌||◌, cond, List, [], ◌∷◌, ◌++◌, eqb, ltb, ℤ, pos, negsuc, Some, None, Ok, Err, Option, Result}
use Rattle.registers.specs.declared.refusal.Refusal.{Refusal}
use Rattle.registers.specs.declared.refusal.Refusal.TheVariants.{Mask, Mode, Word, Room}
use Rattle.registers.specs.Registers.{Write, wrote, CSR, CFTW0, CPOW0, ACR, LSRR}
use Rattle.bitfields.specs.Csr.{byte_of}
use Rattle.rules.specs.declared.Push.{Push}

-- the tuning word in two's complement, 32 bits of it
abbrev pub bits_of : ℤ → ℕ
bits_of (pos n) = n % 4294967296
bits_of (negsuc n) = 4294967295 - n % 4294967296

-- and back
abbrev pub signed_of : ℕ → ℤ
signed_of n = cond (ltb n 2147483648) (pos n) (negsuc (4294967295 - n))

-- a field is given where the last bit is one
abbrev pub given_by : {A : Type 0} → ℕ → A → Option A
given_by bits x = cond (eqb (bits % 2) 1) (Some x) None

abbrev pub word_of : Option ℤ → Option ℕ
word_of (Some z) = Some (bits_of z)
word_of None = None

-- ---- lengths

-- k bytes, only if given
abbrev pub cost : Option ℕ → ℕ → ℕ
cost (Some v) k = k
cost None k = 0

-- a push: 2, +5, +3, +4 bytes
abbrev pub push_size : Push → ℕ
push_size p = 2 + cost (word_of p.word) 5 + cost p.phase 3 + cost p.acr 4

-- padding by the length modulo 4: 0 nothing; 1 LSRR zero, 3 bytes; 2 CSR, 2 bytes; 3 both, 5 bytes
abbrev pub padding_by : ℕ → ℕ
padding_by zero = 0
padding_by (suc zero) = 3
padding_by (suc (suc zero)) = 2
padding_by (suc (suc (suc k))) = 5

abbrev pub padding : ℕ → ℕ
padding n = padding_by (n % 4)

-- a quarter of the padded length
abbrev pub quarter : ℕ → ℕ
quarter n = (n + padding n) / 4

-- ---- refusals

-- the length that cannot be padded to the size, or one above it: 31 or above 32
abbrev pub full : ℕ → ℕ → Bool
full size n = eqb (n + 1) size || ltb size n

-- absent fields are not judged
abbrev pub above : ℕ → Option ℕ → Bool
above most (Some v) = ltb most v
above most None = false

-- a push at length n: Mode, Mask, Word, Room; else the length behind it
unfoldable pub push_judged : ℕ → ℕ → Push → Result ℕ Refusal
push_judged mode n p =
    cond (ltb 3 mode) (Err Mode)
    (cond (ltb 15 p.mask) (Err Mask)
    (cond (above 16383 p.phase || above 16777215 p.acr) (Err Word)
    (cond (full 32 (n + push_size p)) (Err Room)
    (Ok (n + push_size p)))))

-- finalising at length n into a buffer of so many words: Mode, Room; else how many words it takes
unfoldable pub finalize_judged : ℕ → ℕ → ℕ → Result ℕ Refusal
finalize_judged mode n words =
    cond (ltb 3 mode) (Err Mode)
    (cond (full 32 n || ltb words (quarter n)) (Err Room)
    (Ok (quarter n)))

-- ---- register writes

abbrev pub csr : ℕ → ℕ → Write
csr mode mask = wrote CSR (byte_of mode mask)

abbrev pub given : ℕ → Option ℕ → List Write
given a (Some v) = wrote a v ∷ []
given a None = []

-- a CSR write, then CFTW0, CPOW0, ACR, each only if given
unfoldable pub push_writes : ℕ → Push → List Write
push_writes mode p = csr mode p.mask ∷ (given CFTW0 (word_of p.word) ++ (given CPOW0 p.phase ++ given ACR p.acr))

-- LSRR first
abbrev pub padding_writes_by : ℕ → ℕ → List Write
padding_writes_by mode zero = []
padding_writes_by mode (suc zero) = wrote LSRR 0 ∷ []
padding_writes_by mode (suc (suc zero)) = csr mode 15 ∷ []
padding_writes_by mode (suc (suc (suc k))) = wrote LSRR 0 ∷ csr mode 15 ∷ []

unfoldable pub padding_writes : ℕ → ℕ → List Write
padding_writes mode n = padding_writes_by mode (n % 4)
