-- Finalising again adds nothing.
--     finalize_again   of a serializer that was finalised, finalising into any buffer gives the same serializer
use mathlib.Core.Path.{◌≡◌, refl}
use mathlib.Core.Bool.{Bool, true, false, cond}
use Prim.Native.Nat.{ℕ, ◌+◌, ◌%◌}
use native.Mathlib.Nat.{add-zero}
use native.Mathlib.Omega.{arith}
use Rattle.std.specs.Prelude.{is_ok}
use Rattle.registers.proofs.Laid.{laid_nil}
use Rattle.stream.specs.Streams.{encode}
use Rattle.profile.specs.declared.ProfileSerializer.{ProfileSerializer}
use Rattle.rules.specs.Rules.{padding, padding_writes, finalize_judged}
use Rattle.profile.specs.Serializer.{padded, finalized_of}
use Rattle.rules.proofs.Lengths.{padded_quarters}

whole : (n : ℕ) → (n + padding n) % 4 ≡ 0
whole n = omega (arith, padded_quarters n)

padded_again : (s : ProfileSerializer) → padded (padded s) ≡ padded s
unfolding padding_writes encode
padded_again s = rw (whole s.length, laid_nil, add-zero)

same : (t : Bool) (s : ProfileSerializer) → cond t (padded (padded s)) (padded s) ≡ padded s
same true s = padded_again s
same false s = refl

pub finalize_again : (s : ProfileSerializer) (words words' : ℕ) → is_ok (finalize_judged s.mode s.length words) ≡ true → finalized_of (finalized_of s words) words' ≡ finalized_of s words
unfolding finalized_of
finalize_again s words words' h = rw h (same (is_ok (finalize_judged s.mode (padded s).length words')) s)
