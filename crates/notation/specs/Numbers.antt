-- What a word is as a number. Definitions only.
use Rattle.std.specs.Prelude.{ℕ, ◌+◌, ◌-◌, ◌*◌, ◌%◌, Bool, cond, ◌&&◌, ◌||◌, List, [], ◌∷◌, eqb, leb, ltb, length, get_or, drop}
use Rattle.std.specs.Prelude.{Result, Ok, Err}
use Prim.Native.Char.{code}
use Rattle.notation.specs.declared.Reason.{Reason}
use Rattle.notation.specs.declared.Reason.TheVariants.{Missing, Digits, Large, Negative}
use Rattle.notation.specs.Results.{and_then}

-- whether a byte is one of a range
abbrev pub within : ℕ → ℕ → ℕ → Bool
within low high b = leb low b && leb b high

-- a digit's value, and 16 for any other byte
unfoldable pub digit_of : ℕ → ℕ
digit_of b =
    cond (within (code "0") (code "9") b) (b - code "0")
    (cond (within (code "A") (code "F") b) (b - code "A" + 10)
    (cond (within (code "a") (code "f") b) (b - code "a" + 10)
    16))

-- the digits behind a value: each is one of the base, and the value that they make is below 2 ^ 32
unfoldable pub scan_of : ℕ → ℕ → List ℕ → Result ℕ Reason
scan_of base v [] = cond (ltb v 4294967296) (Ok v) (Err Large)
scan_of base v (b ∷ bs) = cond (ltb (digit_of b) base) (scan_of base (v * base + digit_of b) bs) (Err Digits)

-- digits alone, and at least one
unfoldable pub magnitude_of : ℕ → List ℕ → Result ℕ Reason
magnitude_of base t = cond (eqb (length t) 0) (Err Digits) (scan_of base 0 t)

-- a number behind a minus sign, in two's complement: down to -2 ^ 31, and only where a sign is taken
abbrev pub negative_of : Bool → ℕ → Result ℕ Reason
negative_of signed v = cond (ltb 2147483648 v) (Err Large) (cond signed (Ok ((4294967296 - v) % 4294967296)) (Err Negative))

-- whether a word starts with 0x or 0X
abbrev pub hex_of : List ℕ → Bool
hex_of t = eqb (get_or t 0 0) (code "0") && (eqb (get_or t 1 0) (code "x") || eqb (get_or t 1 0) (code "X"))

-- no byte is Missing; then a minus sign and decimal digits, 0x and hexadecimal digits, or decimal digits
unfoldable pub number_of : Bool → List ℕ → Result ℕ Reason
number_of signed t =
    cond (eqb (length t) 0) (Err Missing)
    (cond (eqb (get_or t 0 0) (code "-")) (and_then (magnitude_of 10 (drop 1 t)) (negative_of signed))
    (cond (hex_of t) (magnitude_of 16 (drop 2 t))
    (magnitude_of 10 t)))
