-- One actor's row of the clock, over any window width W: "Facts about an actor's row are proved once for any row."
use Rattle.std.specs.Prelude.{ℕ, zero, suc, ◌+◌, ◌-◌, ◌/◌, ◌%◌, ◌^◌, min, Bool, cond, ◌&&◌, ◌||◌, ◌==◌, nat_le, nat_lt}
use Rattle.dots.specs.Dots.{max_counter}

-- "for each of 16 actors a base and a 64-bit window": the width of the code's window
abbrev pub window_width : ℕ
window_width = 64

-- "Events 1 to base are seen. Bit i of the window (0 lowest) says that event base+1+i is seen."
pub record Row : Type 0 where
  pub base : ℕ
  pub window : ℕ

-- bit i of w, 0 lowest
unfoldable pub test_bit : ℕ → ℕ → Bool
test_bit w i = w / 2 ^ i % 2 == 1

unfoldable pub seen : Row → ℕ → Bool
unfolding test_bit
seen r c = nat_le 1 c && nat_le c r.base || nat_lt r.base c && test_bit r.window (c - r.base - 1)

-- "Bit 0 is always clear", no bit stands at W or above, and no bit "names an event past the largest counter".
unfoldable pub well_formed : ℕ → Row → Bool
well_formed W r = nat_le r.base max_counter && (r.window % 2 == 0 && nat_lt r.window (2 ^ min W (max_counter - r.base)))

-- one more than n if the digit d is set, else none
abbrev pub on_top : ℕ → ℕ → ℕ
on_top zero n = zero
on_top (suc d) n = suc n

-- how many of w's W lowest bits are set below its lowest clear one
unfoldable pub trailing_ones : ℕ → ℕ → ℕ
trailing_ones zero w = zero
trailing_ones (suc W) w = on_top (w % 2) (trailing_ones W (w / 2))

-- "the base moves up by the run of low ones and the window shifts down by as much"
unfoldable pub settled : ℕ → Row → Row
unfolding trailing_ones
settled W r =
    let run = trailing_ones W r.window in
    record { base = r.base + run; window = r.window / 2 ^ run }

-- the row with the bit of event c set, which is above the base and not seen
unfoldable pub marked : Row → ℕ → Row
marked r c = record { base = r.base; window = r.window + 2 ^ (c - r.base - 1) }

-- the row that also sees c
unfoldable pub join : ℕ → Row → ℕ → Row
unfolding seen settled marked
join W r c = cond (seen r c) r (settled W (marked r c))

-- c is no further than W above the base
unfoldable pub in_reach : ℕ → Row → ℕ → Bool
in_reach W r c = nat_le 1 c && nat_le c (r.base + W)
