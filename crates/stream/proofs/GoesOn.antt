-- Room for one row suffices for a piece to go on.
-- Assumes nothing.
use Prim.Native.Nat.{ℕ, ◌≤◌, ◌<◌}
use mathlib.Core.Path.{◌≡◌, refl}
use mathlib.Core.Bool.{Bool, true, false, cond}
use mathlib.Core.List.{List, [], ◌∷◌}
use native.Mathlib.Omega.{arith}
use borrow.Author.Tests.{ltb-true}
use lib.Dec.{eqb, ltb}
use lib.ListN.{length}
use Rattle.rows.specs.Row.{newline, row_bytes}
use Rattle.sheet.specs.Sheet.{Sheet}
use Rattle.stream.specs.Pieces.{Fed, feed}

-- a claim of what two tests pick, from the three cases
pub by_tests :
    {A : Type 0} (P : A → Type 0) (b c : Bool) {x y z : A} → (b ≡ true → P x) → (b ≡ false → c ≡ true → P y) → (b ≡ false → c ≡ false → P z)
    → P (cond b x (cond c y z))
by_tests P true c hx hy hz = hx refl
by_tests P false true hx hy hz = hy refl refl
by_tests P false false hx hy hz = hz refl refl

pub goes_on : (room : ℕ) (s : Sheet) (begun piece : List ℕ) → row_bytes ≤ room → 0 < length piece → 0 < (feed room s begun piece).taken
unfolding feed
goes_on room s begun [] h k = absurd (omega arith)
goes_on room s begun (byte ∷ bytes) h k =
    let P : Fed → Type 0 = λ f. 0 < f.taken in
    by_tests P (ltb room row_bytes) (eqb byte newline) (λ full. absurd (omega (arith, ltb-true))) (λ fits e. omega arith) (λ fits e. omega arith)
