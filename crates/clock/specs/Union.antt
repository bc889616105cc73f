-- The row that sees what either of two rows sees.
use Rattle.std.specs.Prelude.{ℕ, ◌-◌, ◌/◌, ◌^◌, max, bit_or}
use Rattle.clock.specs.Row.{Row, settled}

-- the window of r, from the base b on
abbrev pub window_from : ℕ → Row → ℕ
window_from b r = r.window / 2 ^ (b - r.base)

-- both windows from the larger base on
unfoldable pub overlaid : Row → Row → Row
overlaid r s =
    let b = max r.base s.base in
    record { base = b; window = bit_or (window_from b r) (window_from b s) }

unfoldable pub union : ℕ → Row → Row → Row
unfolding settled overlaid
union W r s = settled W (overlaid r s)
