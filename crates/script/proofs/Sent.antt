-- What a host sends of the words that a finalisation hands out is the profile, and ends where the script says.
--     words_sent    the padded bytes' words, sent low byte first, are those bytes
--     sent_padded   of the buffer that an accepted finalisation leaves, the words that it counts are the padded profile
--     sent          so what is sent at a script's last step leaves the script's meaning in any image
--     code_sent     and what the code's calls hand out does
use mathlib.Core.Path.{◌≡◌, refl, sym, ap, ◌∙◌}
use mathlib.Core.Bool.{◌||◌}
use mathlib.Core.List.{List, [], ◌∷◌, ◌++◌}
use Prim.Native.Nat.{ℕ, zero, suc, ◌*◌, ◌≤◌, ◌<◌}
use native.Mathlib.Omega.{arith}
use borrow.Author.Tests.{ltb-false}
use lib.Dec.{ltb}
use lib.ListN.{length, take, drop, get_or}
use lib.Seq.{take_at}
use Rattle.std.specs.Prelude.{Result, Ok, is_ok}
use Rattle.std.specs.Int.{w32, to_le_bytes}
use Rattle.std.proofs.lemmas.Nat.{le_bytes_4}
use Rattle.registers.specs.declared.refusal.Refusal.{Refusal}
use Rattle.registers.specs.declared.refusal.Refusal.TheVariants.{Mode, Room}
use Rattle.registers.proofs.Bytes.{AllBytes}
use Rattle.registers.proofs.Laid.{length_laid, laid_front}
use Rattle.stream.specs.Streams.{encode}
use Rattle.image.specs.Feed.{feed_of}
use Rattle.rules.specs.Rules.{quarter, full, finalize_judged, padding_writes}
use Rattle.rules.proofs.Lengths.{padded_quarters}
use Rattle.profile.specs.declared.ProfileSerializer.{ProfileSerializer}
use Rattle.profile.specs.declared.Stepped.{Stepped}
use Rattle.profile.specs.Serializer.{fresh, new_of, four_of, words_of, padded, handed, finalized_of, finalize_of, stream_of}
use Rattle.profile.proofs.Sizes.{length_padding}
use Rattle.script.specs.declared.Step.{Step}
use Rattle.script.specs.declared.Step.TheVariants.{Finalize}
use Rattle.script.specs.Meaning.{answer_at, size_at, meaning}
use Rattle.script.specs.Runs.{step_of, run, Calls}
use Rattle.script.specs.Sent.{bytes_of}
use Rattle.script.proofs.Bytes.{all_laid, all_encoded}
use Rattle.script.proofs.Follows.{clear, neither, accepted, script, run_bytes, run_all}
use Rattle.script.proofs.Runs.{calls_run, made}

-- ---- words and bytes

length_words : (n : ℕ) (bs : List ℕ) → length (words_of n bs) ≡ n
unfolding words_of
length_words zero bs = refl
length_words (suc n) bs = ap suc (length_words n (drop 4 bs))

below : (a b c d : ℕ) → a < 256 → b < 256 → c < 256 → d < 256 → (i : ℕ) → get_or (a ∷ b ∷ c ∷ d ∷ []) i 0 < 256
below a b c d h k l m zero = h
below a b c d h k l m (suc zero) = k
below a b c d h k l m (suc (suc zero)) = l
below a b c d h k l m (suc (suc (suc zero))) = m
below a b c d h k l m (suc (suc (suc (suc i)))) = omega arith

four_sent : (a b c d : ℕ) → a < 256 → b < 256 → c < 256 → d < 256 → (bs : List ℕ) → to_le_bytes w32 (four_of (a ∷ b ∷ c ∷ d ∷ bs)) ≡ a ∷ b ∷ c ∷ d ∷ []
four_sent a b c d h k l m bs = le_bytes_4 (a ∷ b ∷ c ∷ d ∷ []) _ refl (below a b c d h k l m) refl

pub words_sent : (n : ℕ) (bs : List ℕ) → n * 4 ≤ length bs → AllBytes bs → bytes_of (words_of n bs) ≡ take (n * 4) bs
unfolding words_of
words_sent zero bs h p = refl
words_sent (suc n) [] h p = absurd (omega (arith, h))
words_sent (suc n) (a ∷ []) h p = absurd (omega (arith, h))
words_sent (suc n) (a ∷ b ∷ []) h p = absurd (omega (arith, h))
words_sent (suc n) (a ∷ b ∷ c ∷ []) h p = absurd (omega (arith, h))
words_sent (suc n) (a ∷ b ∷ c ∷ d ∷ bs) h p =
    let e : suc n * 4 ≡ suc (suc (suc (suc (n * 4)))) = omega arith in
    rw e (ap (λ (x : List ℕ). x ++ bytes_of (words_of n bs)) (four_sent a b c d p.0 p.1.0 p.1.1.0 p.1.1.1.0 bs)
    ∙ ap (λ (x : List ℕ). a ∷ b ∷ c ∷ d ∷ x) (words_sent n bs (omega (arith, h)) p.1.1.1.1))

-- ---- an accepted finalisation

-- what its answer tells
judged : (mode n words count : ℕ) → finalize_judged mode n words ≡ Ok count → (mode ≤ 3) × (quarter n ≤ words) × (count ≡ quarter n)
unfolding finalize_judged
judged mode n words count e =
    let c = clear (ltb 3 mode) Mode _ (ap is_ok e) in
    let d = clear (full 32 n || ltb words (quarter n)) Room (Ok (quarter n)) c.1 in
    let k : ◌≡◌ {A = Result ℕ Refusal} (Ok (quarter n)) (Ok count) = rw (c.0, d.0) at e in
    (ltb-false 3 mode c.0, ltb-false words (quarter n) (neither (full 32 n) (ltb words (quarter n)) d.0).1, cc)

-- the padded record's 32 bytes are bytes, and those that are meant fill the words that are counted
whole : (s : ProfileSerializer) (words count : ℕ) → length s.bytes ≡ 32 → AllBytes s.bytes → finalize_judged s.mode s.length words ≡ Ok count
    → AllBytes (padded s).bytes × (count * 4 ≡ (padded s).length) × ((padded s).length ≤ length (padded s).bytes)
unfolding answer_at size_at
whole s words count room p e =
    let n = s.length in
    let j = judged s.mode n words count e in
    let a = accepted s.mode j.0 n (Finalize words) (rw e) in
    let l = length_padding s.mode n in (
      all_laid s.bytes n (encode (padding_writes s.mode n)) p (all_encoded (padding_writes s.mode n) a.0),
      omega (arith, j.2, padded_quarters n),
      rw (length_laid s.bytes n (encode (padding_writes s.mode n)) (omega (arith, l, room, a.1)), room) a.1,
    )

-- the words that are counted, of the buffer that it leaves, sent low byte first are the padded bytes
pub sent_padded : (s : ProfileSerializer) (words : List ℕ) (count : ℕ) → length s.bytes ≡ 32 → AllBytes s.bytes
    → finalize_judged s.mode s.length (length words) ≡ Ok count → bytes_of (take count (handed s words)) ≡ stream_of (padded s)
sent_padded s words count room p e =
    let j = judged s.mode s.length (length words) count e in
    let w = whole s (length words) count room p e in
    let ws = words_of (quarter s.length) (padded s).bytes in
    rw (laid_front words ws, take_at ws (drop (length ws) words) count (length_words (quarter s.length) (padded s).bytes ∙ sym j.2), ← j.2)
    (words_sent count (padded s).bytes (omega (arith, w.1, w.2)) w.0 ∙ rw w.1)

-- ---- a whole script

run_append : (s : ProfileSerializer) (steps more : List Step) → run s (steps ++ more) ≡ run (run s steps) more
run_append s [] more = refl
run_append s (step ∷ steps) more = run_append (step_of s step) steps more

pub sent : (mode : ℕ) (steps : List Step) (words : List ℕ) (count : ℕ) (image : List ℕ) → mode ≤ 3 → 91 ≤ length image
    → let s = run (fresh mode) steps in
    finalize_judged s.mode s.length (length words) ≡ Ok count
    → feed_of (bytes_of (take count (handed s words))) image ≡ meaning mode (steps ++ Finalize (length words) ∷ []) image
unfolding step_of finalized_of
sent mode steps words count image h l e =
    let s = run (fresh mode) steps in
    let r : run (fresh mode) (steps ++ Finalize (length words) ∷ []) ≡ padded s = run_append (fresh mode) steps (Finalize (length words) ∷ []) ∙ rw e in
    ap (λ (bytes : List ℕ). feed_of bytes image) (sent_padded s words count (run_bytes mode steps h) (run_all mode steps h) e ∙ sym (ap stream_of r))
    ∙ script mode (steps ++ Finalize (length words) ∷ []) image h l

-- calls of the code: a new serializer, steps, and then a finalisation whose answer is a count
pub code_sent : (mode : ℕ) (steps : List Step) (image words words' : List ℕ) (s e : ProfileSerializer) (r : Stepped ℕ) (count : ℕ) → 91 ≤ length image
    → new_of mode ≡ Ok s → Calls steps s e → r ≡ finalize_of e (length words) → r.answer ≡ Ok count → words' ≡ handed e words
    → feed_of (bytes_of (take count words')) image ≡ meaning mode (steps ++ Finalize (length words) ∷ []) image
code_sent mode steps image words words' s e r count l q c f a w =
    let m = made mode s q in
    let i : e ≡ run (fresh mode) steps = calls_run c ∙ rw m.1 in
    let k : (finalize_of e (length words)).answer ≡ Ok count = rw f at a in
    rw (w, i) (sent mode steps words count image m.0 l (rw i at k))
