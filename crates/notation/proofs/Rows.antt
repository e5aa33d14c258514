-- Lines of a script and what they say, as one table.
use Rattle.std.proofs.Common.{ℕ, ◌≡◌, refl, List, [], ◌∷◌, Option, Some, None, Result, Ok, Err, codes}
use Prim.Native.String.{String}
use lib.IntN.{ℤ, pos, negsuc}
use Rattle.notation.specs.Numbers.{digit_of, scan_of, magnitude_of, number_of}
use Rattle.notation.specs.Words.{seek_of, next_of}
use Rattle.notation.specs.Lines.{bad_at, value_of, alone_of, mode_of, named_of, add_of, fields_of, push_of, step_of, line_of}
use Rattle.notation.specs.declared.Reason.{Reason}
use Rattle.notation.specs.declared.Reason.TheVariants.{Step, Missing, Digits, Large, Negative, Field, Twice, More}
use Rattle.notation.specs.declared.Fault.{Fault}
use Rattle.notation.specs.declared.Line.{Line}
use Rattle.notation.specs.declared.Line.TheVariants as line

abbrev push : ℕ → Option ℤ → Option ℕ → Option ℕ → Result Line Fault
push mask word phase acr = Ok (line.Push (record { mask = mask; word = word; phase = phase; acr = acr }))

abbrev bad : Reason → ℕ → ℕ → Result Line Fault
bad reason start end = Err (bad_at reason (record { start = start; end = end }))

pub record Row : Type 0 where
  pub text : String
  pub says : Result Line Fault

abbrev row : String → Result Line Fault → Row
row text says = record { text = text; says = says }

abbrev pub table : List Row
table =
    row "push 1 word 0x01020304" (push 1 (Some (pos 0x0102_0304)) None None)
    ∷ row "push 2 acr 0x001200 phase 0x1000 # half" (push 2 None (Some 0x1000) (Some 0x1200))
    ∷ row "push 1 word -1" (push 1 (Some (negsuc 0)) None None)
    ∷ row "push 1 word 0xFFFFFFFF" (push 1 (Some (negsuc 0)) None None)
    ∷ row "mode 5" (Ok (line.Mode 5))
    ∷ row "  # nothing" (Ok line.Blank)
    ∷ row "show#now" (Ok line.Show)
    ∷ row "psh 1" (bad Step 0 3)
    ∷ row "finalize now" (bad More 9 12)
    ∷ row "push" (bad Missing 4 4)
    ∷ row "push 1 amp 5" (bad Field 7 10)
    ∷ row "push 1 acr 5 acr x" (bad Twice 13 16)
    ∷ row "push 1 phase -1" (bad Negative 13 15)
    ∷ row "push 1 word -2147483649" (bad Large 12 23)
    ∷ row "mode 99999999999x" (bad Digits 5 17)
    ∷ []

-- each line says what its row says
abbrev pub Right : List Row → Type 0
Right [] = Unit {0}
Right (r ∷ rs) = (line_of (codes r.text) ≡ r.says) × Right rs

pub rows : Right table
unfolding digit_of scan_of magnitude_of number_of seek_of next_of value_of alone_of mode_of named_of add_of fields_of push_of step_of line_of
rows = (refl, (refl, (refl, (refl, (refl, (refl, (refl, (refl, (refl, (refl, (refl, (refl, (refl, (refl, (refl, tt)))))))))))))))
