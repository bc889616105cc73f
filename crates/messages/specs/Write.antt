-- What writing a message leaves.
use Rattle.std.specs.Prelude.{ℕ, ◌+◌, ◌*◌, ◌%◌, ◌≤◌, ◌++◌, ◌≡◌, length, drop}
use Rattle.wire.specs.Bytes.{Bytes, put_at}
use Rattle.dots.specs.Names.{Name, Label, name_most, label_most}
use Rattle.dots.specs.Dots.{context_most}
use Rattle.dots.specs.Message.{Message}
use Rattle.messages.specs.Message.{message_bytes, front_bytes, context_bytes, front_fixed, add_fixed, remove_fixed}
use Rattle.dots.specs.Wire.{dots_of, dot_size}

-- whole dots, no more than a context may have
abbrev pub WholeContext : Bytes → Type 0
WholeContext context = (length context % dot_size ≡ 0) × (length context ≤ dot_size * context_most)

-- name, label and context of an add, and name and context of a remove, are such as a message holds, and it has room
abbrev pub AddFits : Name → Label → Bytes → ℕ → Type 0
AddFits name label context room =
    (length name ≤ name_most) × (length label ≤ label_most) × WholeContext context × (length name + length label + length context + add_fixed ≤ room)

abbrev pub RemoveFits : Name → Bytes → ℕ → Type 0
RemoveFits name context room = (length name ≤ name_most) × WholeContext context × (length name + length context + remove_fixed ≤ room)

-- put into out, which becomes out': at the front what stands before an add's label or a remove's context, and at a place a context; r is where it ends
abbrev pub FrontPut : ℕ → Name → Bytes → Bytes → ℕ → Type 0
FrontPut kind name out out' r = (r ≡ front_fixed + length name) × (out' ≡ put_at out 0 (front_bytes kind name))

abbrev pub ContextPut : Bytes → ℕ → Bytes → Bytes → ℕ → Type 0
ContextPut context at out out' r = (r ≡ at + 1 + length context) × (out' ≡ put_at out at (context_bytes (dots_of context)))

-- the message at the front of a buffer and the rest as it was; its length is returned
pub record Wrote (name : Name) (m : Message) (out out' : Bytes) (r : ℕ) : Type 0 where
  pub size : r ≡ length (message_bytes name m)
  pub bytes : out' ≡ message_bytes name m ++ drop r out
