-- Document 01, a stream fed to the image. Definitions only.
use Rattle.std.specs.Prelude.{ℕ, cond, List, ltb, length, Result, Ok, Err}
use Rattle.registers.specs.declared.refusal.Refusal.{Refusal}
use Rattle.registers.specs.declared.refusal.Refusal.TheVariants.{Room}
use Rattle.registers.specs.Refusals.{answer_of}
use Rattle.registers.specs.Registers.{Write}
use Rattle.stream.specs.Decoder.{decode_of}
use Rattle.image.specs.Image.{apply}

-- fewer than 91 words: Room, judged before the stream; then the decoder's refusal
abbrev pub feed_judged : List ℕ → List ℕ → Result Unit Refusal
feed_judged bytes image = cond (ltb (length image) 91) (Err Room) (answer_of (decode_of bytes))

-- what decoded writes make of an image
abbrev pub applied : Result (List Write) Refusal → List ℕ → List ℕ
applied (Ok ws) image = apply ws image
applied (Err e) image = image

-- an image of fewer than 91 words stays, and a stream that doesn't decode leaves the image unchanged
abbrev pub feed_of : List ℕ → List ℕ → List ℕ
feed_of bytes image = cond (ltb (length image) 91) image (applied (decode_of bytes) image)
