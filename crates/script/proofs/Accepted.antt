-- An answer that is Ok.
--     accepted_is       it carries nothing
use Rattle.std.proofs.Common.{◌≡◌, refl, Bool, true, false, Result, Ok, Err}
use Rattle.std.specs.Prelude.{is_ok}

pub accepted_is : {E : Type 0} (r : Result (Unit {0}) E) → is_ok r ≡ true → r ≡ Ok tt
accepted_is (Ok tt) h = refl
accepted_is (Err e) h = absurd (let k : ◌≡◌ {A = Bool} false true = h in cc)
