-- A small fact of the code's tests.
-- Assumes nothing.
use mathlib.Core.Path.{◌≡◌, refl}
use mathlib.Core.Bool.{Bool, true, false, ◌&&◌}

-- a test more, before or after the others
pub and_and : (a b c : Bool) → (a && b) && c ≡ a && (b && c)
and_and true b c = refl
and_and false b c = refl
