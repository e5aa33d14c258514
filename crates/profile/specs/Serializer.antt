-- Document 01, "Profile serializer": the record, its bytes and its words. Definitions only.
use Rattle.std.specs.Prelude.{ℕ, zero, suc, ◌+◌, ◌*◌, cond, List, [], ◌∷◌, ltb, get_or, take, drop, replicate, Ok, Err, is_ok}
use Rattle.std.specs.declared.result.Result.{Result}
use Rattle.registers.specs.declared.refusal.Refusal.{Refusal}
use Rattle.registers.specs.declared.refusal.Refusal.TheVariants.{Mode, Room}
use Rattle.registers.specs.Refusals.{answer_of}
use Rattle.registers.specs.Registers.{Write}
use Rattle.registers.specs.Bytes.{laid}
use Rattle.stream.specs.Streams.{encode}
use Rattle.stream.specs.Decoder.{decode_judged}
use Rattle.image.specs.Feed.{feed_judged, feed_of}
use Rattle.profile.specs.declared.ProfileSerializer.{ProfileSerializer}
use Rattle.profile.specs.declared.Stepped.{Stepped}
use Rattle.rules.specs.declared.Push.{Push}
use Rattle.rules.specs.Rules.{push_size, padding, quarter, push_judged, finalize_judged, push_writes, padding_writes}

-- a new one: length 0 and bytes 0
abbrev pub fresh : ℕ → ProfileSerializer
fresh mode = record { mode = mode; length = 0; bytes = replicate 32 0 }

-- a mode above 3 is Mode
abbrev pub new_of : ℕ → Result ProfileSerializer Refusal
new_of mode = cond (ltb 3 mode) (Err Mode) (Ok (fresh mode))

-- writes of so many bytes laid behind the length: bytes below the old length and from the new length up stay
abbrev pub grown : ProfileSerializer → ℕ → List Write → ProfileSerializer
grown s size ws = record { mode = s.mode; length = s.length + size; bytes = laid s.bytes s.length (encode ws) }

-- a push that is accepted
abbrev pub pushed : ProfileSerializer → Push → ProfileSerializer
pushed s p = grown s (push_size p) (push_writes s.mode p)

-- a refused push keeps the length and all 32 bytes
unfoldable pub push_of : ProfileSerializer → Push → Stepped Unit
push_of s p =
    let judged = push_judged s.mode s.length p in
    record { answer = answer_of judged; serializer = cond (is_ok judged) (pushed s p) s }

-- finalising pads
abbrev pub padded : ProfileSerializer → ProfileSerializer
padded s = grown s (padding s.length) (padding_writes s.mode s.length)

-- then words, low byte first
abbrev pub four_of : List ℕ → ℕ
four_of bs = get_or bs 0 0 + get_or bs 1 0 * 256 + get_or bs 2 0 * 65536 + get_or bs 3 0 * 16777216

unfoldable pub words_of : ℕ → List ℕ → List ℕ
words_of zero bs = []
words_of (suc n) bs = four_of bs ∷ words_of n (drop 4 bs)

-- the padded profile as words at the front of a buffer, whose rest stays
abbrev pub handed : ProfileSerializer → List ℕ → List ℕ
handed s words = laid words 0 (words_of (quarter s.length) (padded s).bytes)

-- the record after finalising into a buffer of so many words: a refusal keeps it
unfoldable pub finalized_of : ProfileSerializer → ℕ → ProfileSerializer
finalized_of s words = cond (is_ok (finalize_judged s.mode s.length words)) (padded s) s

-- the answer is how many words were handed out
abbrev pub finalize_of : ProfileSerializer → ℕ → Stepped ℕ
finalize_of s words = record { answer = finalize_judged s.mode s.length words; serializer = finalized_of s words }

-- the bytes that are meant: those below the length
abbrev pub stream_of : ProfileSerializer → List ℕ
stream_of s = take s.length s.bytes

-- where there are so many: a length above 32 is Room
abbrev pub meant_of : ProfileSerializer → Result (List ℕ) Refusal
meant_of s = cond (ltb 32 s.length) (Err Room) (Ok (stream_of s))

-- fed to an image: a length above 32 is Room; then as any stream
abbrev pub feed_judged_of : ProfileSerializer → List ℕ → Result Unit Refusal
feed_judged_of s image = cond (ltb 32 s.length) (Err Room) (feed_judged (stream_of s) image)

-- the image after it
abbrev pub fed_of : ProfileSerializer → List ℕ → List ℕ
fed_of s image = cond (ltb 32 s.length) image (feed_of (stream_of s) image)

-- decoded into buffers of m and n words: a length above 32 is Room; then as any stream
abbrev pub decode_judged_of : ProfileSerializer → ℕ → ℕ → Result ℕ Refusal
decode_judged_of s m n = cond (ltb 32 s.length) (Err Room) (decode_judged (stream_of s) m n)
