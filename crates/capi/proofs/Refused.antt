-- A refused call keeps every lent byte, those of the block too, and its counts are 0; a refused page says that none follow. Assumes nothing.
use Prim.Native.Nat.{ℕ}
use mathlib.Core.Path.{◌≡◌, refl, ap}
use mathlib.Core.Bool.{Bool, true, false}
use mathlib.Core.List.{[]}
use lib.Dec.{eqb}
use lib.ListN.{length}
use borrow.Author.Tests.{eqb-true}
use Rattle.wire.specs.Bytes.{Bytes, AreBytes}
use Rattle.dots.specs.Answer.{number_of, Refusals, first_of}
use Rattle.calls.specs.declared.State.{State}
use Rattle.calls.specs.Calls.{Result, decided, own_add_refusals, own_add_done, own_add_result, take_in_refusals, take_in_done, take_in_result, own_remove_refusals, own_remove_done, own_remove_result, list_refusals, list_done, list_result, page_refusals, page_done, page_result, merge_refusals, merge_done, merge_result, compact_refusals, compact_done, compact_result}
use Rattle.calls.specs.HandOff.{image_refusals, image_done, image_result}
use Rattle.calls.specs.Unchanged.{zero_state}
use Rattle.block.specs.Block.{block_size, state_bytes, state_in}
use Rattle.capi.specs.Left.{Left, is_block, on_block, own_add_left, own_remove_left, take_in_left, list_left, page_left, more_left, merge_left, compact_left, image_left, load_left}
use Rattle.calls.proofs.Unchanged.{refusals_leave}
use Rattle.block.proofs.Blocks.{bytes_in_state}

pub record Kept (left : Left) (block store out : Bytes) : Type 0 where
  pub block-is : left.block ≡ block
  pub store_is : left.store ≡ store
  pub out-is : left.out ≡ out
  pub written_is : left.written ≡ 0
  pub labels_are : left.labels ≡ 0

abbrev Refused : Left → Type 0
Refused left = left.number ≡ 0 → ⊥

module _ (block store out : Bytes) (small : AreBytes block) (rs : State → Refusals) (done : State → Result) (accepts : (st : State) → number_of (done st).answer ≡ 0) where
  abbrev left : Left
  left = on_block block store out (λ st. decided st store out (rs st) (done st))

  by_answer : (b : Bool) → is_block block ≡ true → eqb (number_of (first_of (rs (state_in block)))) 0 ≡ b → Refused left → Kept left block store out
  unfolding on_block
  by_answer true size e r = absurd (r (rw (size, e) (accepts (state_in block))))
  by_answer false size e r = rw (size, e) (record {
    block-is = bytes_in_state block (eqb-true (length block) block_size size) small;
    store_is = refl;
    out-is = refl;
    written_is = refl;
    labels_are = refl;
  })

  by_size : (b : Bool) → is_block block ≡ b → Refused left → Kept left block store out
  unfolding on_block
  by_size true size r = by_answer (eqb (number_of (first_of (rs (state_in block)))) 0) size refl r
  by_size false size r = rw size (record { block-is = refl; store_is = refl; out-is = refl; written_is = refl; labels_are = refl })

  pub refused_keeps : Refused left → Kept left block store out
  refused_keeps = by_size (is_block block) refl

module _ (block store out : Bytes) (small : AreBytes block) where
  pub own_remove_kept : (context : Bytes) → Refused (own_remove_left block store context out) → Kept (own_remove_left block store context out) block store out
  unfolding own_remove_result
  own_remove_kept context =
      refused_keeps block store out small (λ (st : State). own_remove_refusals st store context out) (λ (st : State). own_remove_done st store context out) (λ st. refl)

  pub own_add_kept : (label context : Bytes) → Refused (own_add_left block store label context out) → Kept (own_add_left block store label context out) block store out
  unfolding own_add_result
  own_add_kept label context =
      refused_keeps block store out small (λ (st : State). own_add_refusals st store label context out) (λ (st : State). own_add_done st store label context out) (λ st. refl)

  pub list-kept : Refused (list_left block store out) → Kept (list_left block store out) block store out
  unfolding list_result
  list-kept = refused_keeps block store out small (λ (st : State). list_refusals st store out) (λ (st : State). list_done st store out) (λ st. refl)

  pub image-kept : Refused (image_left block store out) → Kept (image_left block store out) block store out
  unfolding image_result
  image-kept = refused_keeps block store out small (λ (st : State). image_refusals st store out) (λ (st : State). image_done st store out) (λ st. refl)

  module _ (start : Bytes) where
    pub page-kept : Refused (page_left block store start out) → Kept (page_left block store start out) block store out
    unfolding page_result
    page-kept = refused_keeps block store out small (λ (st : State). page_refusals st store start out) (λ (st : State). page_done st store start out) (λ st. refl)

    ends : (b : Bool) → is_block block ≡ b → Refused (page_left block store start out) → more_left block store start out ≡ false
    unfolding on_block more_left
    ends true size r = rw size (refusals_leave.page (state_in block) store start out (λ e. r (rw size e))).1
    ends false size r = rw size

    -- a refused page says that none follow
    pub page-ends : Refused (page_left block store start out) → more_left block store start out ≡ false
    page-ends = ends (is_block block) refl

pub take_in_kept : (block store message : Bytes) → AreBytes block → Refused (take_in_left block store message) → Kept (take_in_left block store message) block store []
unfolding take_in_result
take_in_kept block store message small = refused_keeps block store [] small (λ (st : State). take_in_refusals st store message) (λ (st : State). take_in_done st store message) (λ st. refl)

pub compact-kept : (block store : Bytes) → AreBytes block → Refused (compact_left block store) → Kept (compact_left block store) block store []
unfolding compact_result
compact-kept block store small = refused_keeps block store [] small (λ (st : State). compact_refusals st store) (λ (st : State). compact_done st store) (λ st. refl)

module _ (block store block' store' out : Bytes) (small : AreBytes block) where
  by-second : (b : Bool) → is_block block' ≡ b → Refused (merge_left block store block' store' out) → Kept (merge_left block store block' store' out) block store out
  unfolding merge_left merge_result
  by-second true e r =
      rw e (refused_keeps block store out small (λ (st : State). merge_refusals st store (state_in block') store' out) (λ (st : State). merge_done st store (state_in block') store' out) (λ st. refl) (rw e at r))
  by-second false e r = rw e (record { block-is = refl; store_is = refl; out-is = refl; written_is = refl; labels_are = refl })

  -- a refused merge: the second block and its store are only lent for reading
  pub merge-kept : Refused (merge_left block store block' store' out) → Kept (merge_left block store block' store' out) block store out
  merge-kept = by-second (is_block block') refl

-- a refused load leaves the store, and the block of the state that is zero throughout
pub load_kept : (actor : ℕ) (image block store : Bytes) → is_block block ≡ true → Refused (load_left actor image block store) → Kept (load_left actor image block store) (state_bytes zero_state) store []
unfolding on_block
load_kept actor image block store size r =
    let is = refusals_leave.load actor image store (λ e. r (rw size e)) in
    rw size (record { block-is = ap state_bytes is.state-is; store_is = is.store_is; out-is = is.out-is; written_is = is.written_is; labels_are = is.labels_are })
