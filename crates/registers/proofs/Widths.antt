-- The widths.
--     table_width     an entry of a table that passes the test is the data sheet's, and is 1 to 4
--     code_width      an entry of the code's table is the data sheet's, and is 1 to 4
--     width_range     a register has one to four bytes
--     width_most      no address has more than four
--     largest_holds   a value is at most the largest exactly if the register holds it
--     bytes_bits      256 ^ k is 2 ^ (8 * k)
use mathlib.Core.Path.{◌≡◌, refl, sym, ap, ◌∙◌}
use mathlib.Core.Bool.{Bool, ◌&&◌}
use mathlib.Core.List.{List}
use Prim.Native.Nat.{ℕ, zero, suc, ◌-◌, ◌*◌, ◌^◌, ◌≤◌, ◌<◌}
use native.Mathlib.Nat.{pow-suc}
use native.Mathlib.Omega.{arith}
use native.Mathlib.Decide.{dec_lt}
use lib.Dec.{leb, ltb, eqb, leb→le, eqb→eq, T}
use lib.ListN.{length, get_or, get_or-eq_default}
use lib.Pow.{pow-add, pow_pos}
use borrow.Author.Tests.{le-leb, lt-leb, lt-ltb, le-ltb}
use Rattle.registers.specs.Registers.{widths, width_of}
use Rattle.registers.specs.declared.address.TheConstants as code
use Rattle.registers.proofs.Table.{every, at, left, right}

-- the rule that is tested over the whole table
abbrev pub rule : ℕ → ℕ → Bool
rule a w = eqb w (get_or widths a 0) && (leb 1 w && leb w 4)

parts : (a w : ℕ) → T (eqb w (get_or widths a 0) && (leb 1 w && leb w 4)) → (w ≡ get_or widths a 0) × (1 ≤ w) × (w ≤ 4)
parts a w t =
    let range = right (eqb w (get_or widths a 0)) (leb 1 w && leb w 4) t in (
      eqb→eq w (get_or widths a 0) (left (eqb w (get_or widths a 0)) (leb 1 w && leb w 4) t),
      leb→le 1 w (left (leb 1 w) (leb w 4) range),
      leb→le w 4 (right (leb 1 w) (leb w 4) range),
    )

pub table_width : (t : List ℕ) → T (every rule 0 t) → (a : ℕ) → a < length t → (get_or t a 0 ≡ width_of a) × (1 ≤ get_or t a 0) × (get_or t a 0 ≤ 4)
unfolding width_of
table_width t passes a h = parts a (get_or t a 0) (at rule t passes a h)

pub code_width : (a : ℕ) → a < 25 → (get_or code.WIDTHS a 0 ≡ width_of a) × (1 ≤ get_or code.WIDTHS a 0) × (get_or code.WIDTHS a 0 ≤ 4)
code_width a h = table_width code.WIDTHS tt a h

pub width_range : (a : ℕ) → a < 25 → (1 ≤ width_of a) × (width_of a ≤ 4)
unfolding width_of
width_range a h = let (e, low, high) = table_width widths tt a h in (low, high)

pub width_past : (a : ℕ) → 25 ≤ a → width_of a ≡ 0
unfolding width_of
width_past a h = get_or-eq_default widths 0 h

pub width_most : (a : ℕ) → width_of a ≤ 4
width_most a = elim (dec_lt a 25) [ yes h ↦ (width_range a h).1 | no h ↦ rw (width_past a (omega arith)) (omega arith) ]

pub bytes_bits : (k : ℕ) → 256 ^ k ≡ 2 ^ (8 * k)
bytes_bits zero = refl
bytes_bits (suc k) =
    pow-suc 256 k ∙ ap (λ (m : ℕ). m * 256) (bytes_bits k) ∙ sym (pow-add 2 (8 * k) 8) ∙ ap (λ (m : ℕ). 2 ^ m) (omega arith)

-- a value is at most the largest exactly if the register holds it
pub largest_holds : (a v : ℕ) → leb v (256 ^ width_of a - 1) ≡ ltb v (256 ^ width_of a)
largest_holds a v =
    let some : 0 < 256 ^ width_of a = rw (bytes_bits (width_of a)) (pow_pos (8 * width_of a)) in
    elim (dec_lt v (256 ^ width_of a)) [ yes h ↦ le-leb v (256 ^ width_of a - 1) (omega arith) ∙ sym (lt-ltb _ _ h) | no h ↦ lt-leb v (256 ^ width_of a - 1) (omega arith) ∙ sym (le-ltb v (256 ^ width_of a) (omega arith)) ]
