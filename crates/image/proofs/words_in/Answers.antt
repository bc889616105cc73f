use Prim.Native.Nat.{ℕ, ◌≤◌}
use mathlib.Core.Path.{◌≡◌}
use mathlib.Core.List.{List}
use native.Mathlib.Omega.{arith}
use Rattle.wire.specs.Bytes.{Bytes}
use Rattle.dots.specs.Dots.{actor_most}
use Rattle.calls.specs.ImageRead.{clock_in}
use Rattle.image.specs.Sizes.{window_size}
use Rattle.image.proofs.Rows.{no_rows_read, row_read}
use borrow.Author.Rules.{rules}
use Rattle.image.proofs.words_in.Goals as goal

all_read : (s : Bytes) (words : List ℕ) (at a : ℕ) → a ≤ actor_most → actor_most ≤ a → words ≡ clock_in window_size a s at → words ≡ clock_in window_size actor_most s at
all_read s words at a most least e = let end : a ≡ actor_most = omega arith in rw end at e

pub loop-a-init : goal.loop-a-init
loop-a-init c = search (rules, no_rows_read)

pub loop-a-preserved : goal.loop-a-preserved
loop-a-preserved c = search (rules, row_read)

pub returns : goal.returns
returns c = search (rules, all_read)
