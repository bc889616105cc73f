-- The walk that drops keys: a run of kept keys grows until a key is dropped, and then moves down as a whole.
use Rattle.std.specs.Prelude.{ℕ, ◌+◌, ◌-◌, ◌≤◌, Bool, cond, [], ◌++◌, ◌≡◌, take, drop}
use Rattle.wire.specs.Bytes.{Bytes, part_at}
use Rattle.dots.specs.declared.Dot.{Dot}
use Rattle.keys.specs.Key.{suffix_size}
use Rattle.store.specs.Cut.{key_dot}
use Rattle.compaction.specs.declared.Run.{Run}

-- what is kept of s up to the end of a run: what stands before the run's place, then the run
abbrev pub kept_to : Run → Bytes → Bytes
kept_to run s = take run.to s ++ part_at s run.from (run.end - run.from)

-- a run lies within `size` bytes and goes no further up
abbrev pub RunFits : ℕ → Run → Type 0
RunFits size run = (run.to ≤ run.from) × (run.from ≤ run.end) × (run.end ≤ size)

-- the run in its place, which ends at r; what stands after the run is as it was
pub record MovesRun (run : Run) (r : ℕ) (s s' : Bytes) : Type 0 where
  pub front : take r s' ≡ kept_to run s
  pub rest : drop run.end s' ≡ drop run.end s
  pub within : r ≤ run.end

-- the key from the end of a run to `next`; it lies within `size` bytes and has a dot
abbrev pub key_after : Run → ℕ → Bytes → Bytes
key_after run next s = part_at s run.end (next - run.end)

abbrev pub KeyFits : ℕ → Run → ℕ → Type 0
KeyFits size run next = RunFits run.end run × (run.end + (suffix_size - 1) ≤ next) × (next ≤ size)

-- that key kept, or dropped if the test says so; what stands after it is as it was
pub record WalksKey (dead : Dot → Bool) (run : Run) (next : ℕ) (r : Run) (s s' : Bytes) : Type 0 where
  pub kept : kept_to r s' ≡ kept_to run s ++ cond (dead (key_dot (key_after run next s))) [] (key_after run next s)
  pub rest : drop next s' ≡ drop next s
  pub ends : r.end ≡ next
  pub fits : RunFits r.end r
