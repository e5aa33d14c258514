-- Document 01, the register image: CSR, FR1, FR2, then for each channel its 22 registers 0x03 to 0x18. Register a of channel i is word 22 i + a.
-- No bytes here. Definitions only.
use Rattle.std.specs.Prelude.{ℕ, zero, suc, ◌+◌, ◌*◌, ◌/◌, ◌%◌, ◌^◌, Bool, false, cond, ◌&&◌, ◌||◌, List, [], ◌∷◌, ltb, eqb, get_or, set}
use Rattle.registers.specs.Registers.{Write, CSR}
use Rattle.bitfields.specs.Csr.{byte_of}

-- a mask's bit i is channel i
abbrev pub selects : ℕ → ℕ → Bool
selects mask i = eqb (mask / 2 ^ i % 2) 1

-- register a of each channel below n that the mask selects is set to v
abbrev pub give_to : ℕ → ℕ → ℕ → ℕ → List ℕ → List ℕ
give_to zero mask a v image = image
give_to (suc i) mask a v image = cond (selects mask i) (set (give_to i mask a v image) (22 * i + a) v) (give_to i mask a v image)

-- word j is register a of a channel below n that the mask selects
abbrev pub reaches : ℕ → ℕ → ℕ → ℕ → Bool
reaches zero mask a j = false
reaches (suc i) mask a j = (eqb j (22 * i + a) && selects mask i) || reaches i mask a j

abbrev pub give : ℕ → ℕ → ℕ → List ℕ → List ℕ
give mask a v image = give_to 4 mask a v image

-- the channels whose bits among 4..7 of the image's CSR are one
abbrev pub selected : List ℕ → ℕ
selected image = get_or image CSR 0 / 16

-- CSR set to a mask and a mode
abbrev pub select : ℕ → ℕ → List ℕ → List ℕ
select mode mask image = set image CSR (byte_of mode mask)

-- a write of CSR, FR1 or FR2 sets that word; any other sets the register of each channel that CSR selects before it
abbrev pub write : Write → List ℕ → List ℕ
write w image = cond (ltb w.address 3) (set image w.address w.value) (give (selected image) w.address w.value image)

-- writes in order
abbrev pub apply : List Write → List ℕ → List ℕ
apply [] image = image
apply (w ∷ ws) image = apply ws (write w image)
