-- What each call leaves: the controller's result on the state of a block, as numbers and bytes. A block of another size is refused as damaged.
use Rattle.std.specs.Prelude.{ℕ, Bool, false, cond, not, [], ◌∷◌, eqb, length}
use Rattle.wire.specs.Bytes.{Bytes}
use Rattle.dots.specs.Answer.{number_of, first_of}
use Rattle.dots.specs.declared.Answer.{Answer}
use Rattle.dots.specs.declared.Answer.TheVariants.{Damaged, BadShape}
use Rattle.keys.specs.Key.{Key, type_byte}
use Rattle.keys.specs.Tests.{kind_of}
use Rattle.keys.specs.Write.{write_refusals}
use Rattle.calls.specs.declared.State.{State}
use Rattle.calls.specs.Calls.{Result, Looked, not_looked, own_add_result, own_remove_result, take_in_result, list_result, page_result, more_follow, merge_result, lookup_result, compact_result}
use Rattle.calls.specs.HandOff.{image_result, load_result}
use Rattle.block.specs.Block.{block_size, state_bytes, state_in}

pub record Left : Type 0 where
  -- the answer's number
  pub number : ℕ
  -- the block, the lent store and the output buffer, whole, and the state that the block is
  pub block : Bytes
  pub state : State
  pub store : Bytes
  pub out : Bytes
  -- bytes written, labels listed
  pub written : ℕ
  pub labels : ℕ

abbrev pub is_block : Bytes → Bool
is_block block = eqb (length block) block_size

-- a result of the controller, its state in a block
abbrev pub packed : Result → Left
packed r = record { number = number_of r.answer; block = state_bytes r.state; state = r.state; store = r.store; out = r.out; written = r.written; labels = r.labels }

-- bytes that are no block: nothing is changed, and the counts are 0
abbrev pub no_block : Bytes → Bytes → Bytes → Left
no_block block store out = record { number = number_of Damaged; block = block; state = state_in block; store = store; out = out; written = 0; labels = 0 }

-- a call on the state of a block
unfoldable pub on_block : Bytes → Bytes → Bytes → (State → Result) → Left
on_block block store out call = cond (is_block block) (packed (call (state_in block))) (no_block block store out)

abbrev pub own_add_left : Bytes → Bytes → Bytes → Bytes → Bytes → Left
own_add_left block store label context out = on_block block store out (λ st. own_add_result st store label context out)

abbrev pub own_remove_left : Bytes → Bytes → Bytes → Bytes → Left
own_remove_left block store context out = on_block block store out (λ st. own_remove_result st store context out)

abbrev pub take_in_left : Bytes → Bytes → Bytes → Left
take_in_left block store message = on_block block store [] (λ st. take_in_result st store message)

abbrev pub list_left : Bytes → Bytes → Bytes → Left
list_left block store out = on_block block store out (λ st. list_result st store out)

abbrev pub page_left : Bytes → Bytes → Bytes → Bytes → Left
page_left block store start out = on_block block store out (λ st. page_result st store start out)

-- whether more follow a page; bytes that are no block say no
unfoldable pub more_left : Bytes → Bytes → Bytes → Bytes → Bool
more_left block store start out = cond (is_block block) (more_follow (state_in block) store start out) false

-- a call on two blocks; either may be none
unfoldable pub merge_left : Bytes → Bytes → Bytes → Bytes → Bytes → Left
merge_left block store block' store' out =
    cond (is_block block') (on_block block store out (λ st. merge_result st store (state_in block') store' out)) (no_block block store out)

abbrev pub compact_left : Bytes → Bytes → Left
compact_left block store = on_block block store [] (λ st. compact_result st store)

abbrev pub image_left : Bytes → Bytes → Bytes → Left
image_left block store out = on_block block store out (λ st. image_result st store out)

-- a load reads no state, and leaves one
abbrev pub load_left : ℕ → Bytes → Bytes → Bytes → Left
load_left actor image block store = on_block block store [] (λ st. load_result actor image store)

unfoldable pub lookup_left : Bytes → Bytes → Bytes → Looked
lookup_left block store label = cond (is_block block) (lookup_result (state_in block) store label) (not_looked Damaged)

-- ---- keys

-- whether a byte is the type byte of a type
abbrev pub is_kind : ℕ → Bool
is_kind byte = eqb (type_byte (kind_of byte)) byte

-- the answer to writing a key, its type given by a byte: a byte that is none is refused as "bytes given as a key" are
unfoldable pub key_answer : ℕ → Key → ℕ → Answer
key_answer byte k n = first_of ((not (is_kind byte), BadShape) ∷ write_refusals k n)

abbrev pub key_written : ℕ → Key → ℕ → Bool
key_written byte k n = eqb (number_of (key_answer byte k n)) 0
