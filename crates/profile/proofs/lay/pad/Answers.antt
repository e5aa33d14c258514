-- LSRR's write, and CSR's behind it.
use Rattle.std.proofs.Common.{ℕ, zero, suc, ◌+◌, ◌%◌, ◌≤◌, List, length, ap, arith}
use lib.Dec.{lit<}
use lib.ListN.{length-append}
use Rattle.registers.specs.Registers.{width_of, CSR, LSRR}
use Rattle.stream.specs.Streams.{encode}
use Rattle.rules.specs.Rules.{given, padding}
use Rattle.rules.specs.Judged.{Held, lsrr_by, csr_by}
use Rattle.profile.proofs.Sizes.{padding_writes_bytes, length_padding}
use Rattle.profile.proofs.Puts.{puts_then}
use Rattle.profile.proofs.lay.pad.Goals as goal

lsrr_held : (r : ℕ) → Held LSRR (lsrr_by r)
unfolding width_of
lsrr_held zero = tt
lsrr_held (suc zero) = lit< tt
lsrr_held (suc (suc zero)) = tt
lsrr_held (suc (suc (suc r))) = lit< tt

csr_held : (mode r : ℕ) → mode ≤ 3 → Held CSR (csr_by mode r)
unfolding width_of
csr_held mode zero h = tt
csr_held mode (suc zero) h = tt
csr_held mode (suc (suc r)) h = omega arith

-- the two lengths are the padding's
sizes : (at mode : ℕ) (bytes : List ℕ) → at + padding at ≤ length bytes
    → at + (length (encode (given LSRR (lsrr_by (at % 4)))) + length (encode (given CSR (csr_by mode (at % 4))))) ≤ length bytes
sizes at mode bytes h =
    omega (arith, h, length_padding mode at, ap length (padding_writes_bytes mode at), length-append (encode (given LSRR (lsrr_by (at % 4)))) (encode (given CSR (csr_by mode (at % 4)))))

pub given-b-requires : goal.given-b-requires
given-b-requires c = rw c.lsrr-zero.ensures (lit< tt, lsrr_held (c.args.at % 4), omega (arith, sizes c.args.at c.args.mode c.args.bytes.now c.requires.1))

pub given-requires : goal.given-requires
given-requires c =
    let p = rw c.lsrr-zero.ensures at c.given-b.ensures.place in
    rw c.csr-all.ensures (lit< tt, csr_held c.args.mode (c.args.at % 4) c.requires.0, omega (arith, sizes c.args.at c.args.mode c.args.bytes.now c.requires.1, p, c.given-b.auto))

pub returns : goal.returns
returns c =
    rw (padding_writes_bytes c.args.mode c.args.at)
    (puts_then (rw c.lsrr-zero.ensures at c.given-b.ensures) (rw c.csr-all.ensures at c.given.ensures) (omega (arith, sizes c.args.at c.args.mode c.args.bytes.now c.requires.1)))
