-- How many bytes the writes of a step take: the rules count what the encoding has.
--     encode_given, encode_absent   the bytes of a value that is given, and of one that is not
--     length_given           as many as it costs
--     encode_push            a push's bytes, CSR's before the others
--     length_push            as many as the rules say
--     padding_writes_bytes   the padding as two values, LSRR before CSR
--     length_padding         as many as the rules say
use mathlib.Core.Path.{◌≡◌, refl, ap, ◌∙◌}
use mathlib.Core.List.{[], ◌∷◌, ◌++◌, append_assoc}
use Prim.Native.Nat.{ℕ, zero, suc, ◌+◌, ◌%◌}
use native.Mathlib.Omega.{arith}
use lib.ListN.{length, length-append}
use Rattle.registers.specs.Registers.{Write, wrote, width_of, CSR, CFTW0, CPOW0, ACR, LSRR}
use Rattle.stream.specs.Streams.{write_bytes, encode}
use Rattle.stream.proofs.Streams.{encode_one, encode_append, length_write}
use Rattle.std.specs.Prelude.{Some, None}
use Rattle.std.specs.declared.option.Option.{Option}
use Rattle.rules.specs.declared.Push.{Push}
use Rattle.rules.specs.Rules.{word_of, cost, push_size, padding_by, padding, given, csr, push_writes, padding_writes}
use Rattle.rules.proofs.Lengths.{padding_writes_given}
use Rattle.rules.specs.Judged.{lsrr_by, csr_by}

pub encode_given : (a v : ℕ) → encode (given a (Some v)) ≡ write_bytes (wrote a v)
encode_given a v = encode_one (wrote a v)

pub encode_absent : (a : ℕ) → encode (given a None) ≡ []
unfolding encode
encode_absent a = refl

pub length_given : (a : ℕ) (v : Option ℕ) → length (encode (given a v)) ≡ cost v (suc (width_of a))
length_given a (Some v) = ap length (encode_given a v) ∙ length_write (wrote a v)
length_given a None = ap length (encode_absent a)

pub encode_push : (w : Write) (t p a : Option ℕ) → encode (w ∷ (given CFTW0 t ++ (given CPOW0 p ++ given ACR a))) ≡ write_bytes w ++ (encode (given CFTW0 t) ++ encode (given CPOW0 p) ++ encode (given ACR a))
unfolding encode
encode_push w t p a = simp (encode_append, append_assoc)

pub length_push : (mode : ℕ) (p : Push) → length (encode (push_writes mode p)) ≡ push_size p
unfolding push_writes width_of
length_push mode p = rw (encode_push (csr mode p.mask) (word_of p.word) p.phase p.acr) (simp (length-append, length_write, length_given) (omega arith))

pub padding_writes_bytes : (mode n : ℕ) → encode (padding_writes mode n) ≡ encode (given LSRR (lsrr_by (n % 4))) ++ encode (given CSR (csr_by mode (n % 4)))
unfolding padding_writes
padding_writes_bytes mode n = rw (padding_writes_given mode (n % 4), encode_append)

by_rest : (mode r : ℕ) → length (encode (given LSRR (lsrr_by r))) + length (encode (given CSR (csr_by mode r))) ≡ padding_by r
unfolding width_of
by_rest mode zero = omega (arith, length_given LSRR None, length_given CSR None)
by_rest mode (suc zero) = omega (arith, length_given LSRR (Some 0), length_given CSR None)
by_rest mode (suc (suc zero)) = omega (arith, length_given LSRR None, length_given CSR (csr_by mode 2))
by_rest mode (suc (suc (suc r))) = omega (arith, length_given LSRR (Some 0), length_given CSR (csr_by mode 2))

pub length_padding : (mode n : ℕ) → length (encode (padding_writes mode n)) ≡ padding n
length_padding mode n = rw (padding_writes_bytes mode n, length-append) (by_rest mode (n % 4))
