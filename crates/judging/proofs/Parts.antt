-- Parts of lent bytes, as the calls cut them. Assumes nothing.
use mathlib.Core.Path.{◌≡◌, sym}
use mathlib.Core.List.{List}
use Prim.Native.Nat.{ℕ, ◌≤◌}
use lib.ListN.{length, take}
use lib.Seq.{length-take-le}

-- the front of k bytes, `&s[..k]`
pub front-size : (s : List ℕ) (k : ℕ) → k ≤ length s → k ≡ length (take k s)
front-size s k h = sym (length-take-le k s h)
