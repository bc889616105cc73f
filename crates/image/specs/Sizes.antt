-- How many bytes a hand-off image and its fields take.
use Rattle.std.specs.Prelude.{ℕ, ◌+◌, ◌*◌}
use Rattle.dots.specs.Dots.{actor_most}
use Rattle.dots.specs.Wire.{dot_size}
use Rattle.messages.specs.Message.{front_fixed}
use Rattle.calls.specs.declared.State.{State}
use Rattle.calls.specs.Image.{image_version, window_bytes, row_size}

-- a window and all rows, in the version that is written
abbrev pub window_size : ℕ
window_size = window_bytes image_version

abbrev pub rows_size : ℕ
rows_size = actor_most * row_size window_size

-- what stands before the rows beside the name (front and writer's actor), and from the rows to the CRC beside tombstone and keys (number of dots, used length)
abbrev pub actor_fixed : ℕ
actor_fixed = front_fixed + 1

abbrev pub rest_fixed : ℕ
rest_fixed = rows_size + 1 + 4

-- an image beside name, tombstone and keys: the CRC too
abbrev pub image_fixed : ℕ
image_fixed = actor_fixed + rest_fixed + 4

-- an image by its state
abbrev pub image_size : State → ℕ
image_size st = image_fixed + st.name.len + st.tombstone.count * dot_size + st.used
