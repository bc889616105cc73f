-- Refusal 1: "A state that breaks any of these, or whose window names an event past the largest counter, is damaged."
use Rattle.std.specs.Prelude.{ℕ, ◌*◌, Bool, not, ◌&&◌, ◌||◌, leb, eqb, drop}
use Rattle.wire.specs.Lists.{all}
use Rattle.wire.specs.Bytes.{Bytes}
use Rattle.dots.specs.Names.{name_most, name_ok}
use Rattle.dots.specs.Dots.{actor_ok, ascending_dots, tombstone_most}
use Rattle.clock.specs.Row.{window_width}
use Rattle.clock.specs.Clock.{sees, clock_ok}
use Rattle.store.specs.Valid.{store_ok}
use Rattle.calls.specs.declared.State.{State}
use Rattle.calls.specs.State.{name_of, tombstone_dots}
use Rattle.dots.specs.Wire.{dot_size}

-- one state has one form: what is not in use is 0
abbrev pub zero_from : ℕ → Bytes → Bool
zero_from n bytes = all (λ b. eqb b 0) (drop n bytes)

-- "Set name: 1 to 16 bytes", no zero byte
unfoldable pub state_name_ok : State → Bool
state_name_ok st = leb st.name.len name_most && (name_ok (name_of st) && zero_from st.name.len st.name.bytes)

-- "Tombstone: 0 to 128 dots, strictly ascending, each seen by the clock"
unfoldable pub tombstone_ok : State → Bool
tombstone_ok st =
    leb st.tombstone.count tombstone_most
    && (ascending_dots (tombstone_dots st)
    && (all (sees st.clock.words) (tombstone_dots st) && zero_from (st.tombstone.count * dot_size) st.tombstone.bytes))

-- actor, set name, clock (the own window included), tombstone; then "the store is longer than 65,536", its used length and its keys
unfoldable pub damaged : State → Bytes → Bool
damaged st store =
    not (actor_ok st.actor.number)
    || (not (state_name_ok st)
    || (not (clock_ok window_width st.actor.number st.clock.words)
    || (not (tombstone_ok st) || not (store_ok (name_of st) st.clock.words store st.used))))
