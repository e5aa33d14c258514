-- What holds of both sides of a choice, each where its test says so, holds of the choice.
use mathlib.Core.Path.{◌≡◌, refl}
use mathlib.Core.Bool.{Bool, true, false, cond}

pub by : {A : Type 0} (P : A → Type 0) (t : Bool) {x y : A} → (t ≡ true → P x) → (t ≡ false → P y) → P (cond t x y)
by P true f g = f refl
by P false f g = g refl
