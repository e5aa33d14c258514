-- Lists laid one behind another.
--     puts_then    one run behind another
--     puts_ahead   one run before another that is there
--     puts_none    a value that is not given
use mathlib.Core.Path.{◌≡◌, sym, ◌∙◌}
use mathlib.Core.List.{List, ◌++◌}
use Prim.Native.Nat.{ℕ, ◌+◌, ◌≤◌}
use native.Mathlib.Omega.{arith}
use lib.ListN.{length, length-append}
use Rattle.registers.specs.Bytes.{laid}
use Rattle.registers.proofs.Laid.{laid_laid, laid_ahead, laid_nil}
use Rattle.std.specs.Prelude.{Option, None}
use Rattle.stream.specs.Streams.{encode}
use Rattle.rules.specs.Rules.{given}
use Rattle.profile.specs.Lent.{Puts}
use Rattle.profile.proofs.Sizes.{encode_absent}

pub puts_then : {d e e' s t : List ℕ} {at r r' : ℕ} → Puts d at s r e → Puts e r t r' e' → at + length s + length t ≤ length d → Puts d at (s ++ t) r' e'
puts_then {d} {e} {e'} {s} {t} {at} {r} {r'} p q h = record {
  place = omega (arith, p.place, q.place, length-append s t);
  after = q.after ∙ rw (p.after, p.place) (laid_laid d at s t h);
}

pub puts_ahead : (s : List ℕ) {d e e' t : List ℕ} {at b r : ℕ} → b ≡ at + length s → Puts d b t r e → e' ≡ laid e at s → at + length s + length t ≤ length d → Puts d at (s ++ t) r e'
puts_ahead s {d} {e} {e'} {t} {at} {b} {r} k p q h = record {
  place = omega (arith, p.place, k, length-append s t);
  after = q ∙ rw (p.after, k) (laid_ahead d at s t h);
}

pub puts_none : (d : List ℕ) (at a : ℕ) (v : Option ℕ) → v ≡ None → Puts d at (encode (given a v)) at d
puts_none d at a v e = rw (e, encode_absent a) (record { place = omega arith; after = sym (laid_nil d at) })
