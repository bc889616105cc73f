-- The counter's bit is set in the word, and the settled row is the join.
use Rattle.std.proofs.Common.{◌≡◌, ℕ, ◌+◌, ◌-◌, ◌*◌, ◌%◌, ◌^◌, false, sym, ap, ◌∙◌, arith}
use lib.Bits.{bit_or}
use Rattle.clock.specs.Row.{window_width, seen, settled, marked}
use Rattle.clock.specs.Code.{row_of}
use Rattle.clock.proofs.Bits.{or_shl_bit}
use Rattle.clock.proofs.Rows.{NewEvent, new-event, join-seen, join-unseen}
use Rattle.clock.proofs.Row.join.Goals as goal
use Rattle.clock.proofs.Row.join.Goals.{Else-sees}

-- where the counter is not seen
unseen : (c : Else-sees) → seen (row_of c.args.self) c.args.counter ≡ false
unseen c = sym c.sees.ensures ∙ c.if-sees.false

event : (c : Else-sees) → NewEvent window_width (row_of c.args.self) c.args.counter
event c = new-event window_width (row_of c.args.self) c.args.counter c.requires.0 c.requires.1 (omega arith) (unseen c)

word : (c : Else-sees) → let a = c.args in let j = a.counter - a.self.base - 1 in
    bit_or a.self.window (1 * 2 ^ j % 2 ^ window_width) ≡ a.self.window + 2 ^ j
word c = let a = c.args in or_shl_bit window_width a.self.window (a.counter - a.self.base - 1) (event c).near (event c).clear

pub returns-then-sees : goal.returns-then-sees
returns-then-sees c = let a = c.args in
    sym (join-seen window_width (row_of a.self) a.counter (sym c.sees.ensures ∙ c.if-sees.true))

pub overflow_sub-above : goal.overflow_sub-above
overflow_sub-above c = omega (arith, (event (goal.at.overflow_sub-above c).Else-sees).above)

pub overflow_sub-above-2 : goal.overflow_sub-above-2
overflow_sub-above-2 c = omega (arith, (event (goal.at.overflow_sub-above-2 c).Else-sees).above)

pub overflow_shl-marked : goal.overflow_shl-marked
overflow_shl-marked c = (event (goal.at.overflow_shl-marked c).Else-sees).near

pub settled-requires : goal.settled-requires
settled-requires c = rw (word (goal.at.settled-requires c).Else-sees) (event (goal.at.settled-requires c).Else-sees).fits

pub returns : goal.returns
unfolding marked
returns c = let a = c.args in
    c.settled.ensures
    ∙ ap (λ (w : ℕ). settled window_width (record { base = a.self.base; window = w })) (word (goal.at.returns c).Else-sees)
    ∙ sym (join-unseen window_width (row_of a.self) a.counter (unseen (goal.at.returns c).Else-sees))
