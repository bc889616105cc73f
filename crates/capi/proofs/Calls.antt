-- A call on bytes that are no block leaves what they say; on a block it leaves the controller's result, packed. Assumes nothing.
use denote.Ref.{Bor}
use mathlib.Core.Path.{◌≡◌, refl, sym, ap, ◌∙◌}
use mathlib.Core.Bool.{Bool, true, false, cond}
use Prim.Native.Nat.{ℕ}
use lib.ListN.{length}
use borrow.Author.Tests.{eq-eqb, ne_eqb}
use Rattle.wire.specs.Bytes.{Bytes, AreBytes, IsPart}
use Rattle.dots.specs.Answer.{number_of}
use Rattle.std.specs.Prelude.{Ok, Err}
use Rattle.dots.specs.declared.Answer.{Answer}
use Rattle.dots.specs.declared.Answer.TheVariants.{Damaged}
use Rattle.calls.specs.declared.State.{State}
use Rattle.calls.specs.declared.SetUp.{SetUp}
use Rattle.calls.specs.declared.Outcome.{Outcome}
use Rattle.calls.specs.declared.Listed.{Listed}
use Rattle.calls.specs.declared.Paged.{Paged}
use Rattle.calls.specs.Calls.{Result, not_looked, set_up, page_result, more_follow, merge_result, lookup_result}
use Rattle.calls.specs.Promise as controller
use Rattle.image.specs.Promise as images
use Rattle.block.specs.Block.{block_size, state_bytes, state_in}
use Rattle.capi.specs.Left.{is_block, packed, no_block, on_block, page_left, more_left, merge_left, lookup_left}
use Rattle.block.proofs.Blocks.{bytes_in_state}
use Rattle.capi.specs.Promise.{SetsUp, Leaves, Changes, Lists, Pages, PutsOut, LooksUp}

-- ---- bytes that are no block

module _ (block : Bytes) (other : length block ≡ block_size → ⊥) where
  module _ (store out : Bytes) (call : State → Result) where
    none : on_block block store out call ≡ no_block block store out
    unfolding on_block
    none = rw (ne_eqb (length block) block_size other)

    pub not_left : Leaves (on_block block store out call) block store out 0 1
    not_left = rw none (record { answered = refl; block-is = refl; state-is = refl; store_is = refl; out-is = refl; written_is = refl })

    pub not_changed : Changes (on_block block store out call) block store 1
    not_changed = rw none (record { answered = refl; block-is = refl; state-is = refl; store_is = refl })

    pub not_listed : Lists (on_block block store out call) out 0 0 1
    not_listed = rw none (record { answered = refl; out-is = refl; written_is = refl; labels_are = refl })

    pub nothing_put : PutsOut (on_block block store out call) out 0 1
    nothing_put = rw none (record { answered = refl; out-is = refl; written_is = refl })

  pub not_paged : (store start out : Bytes) → Pages (page_left block store start out) (more_left block store start out) out 0 0 false 1
  unfolding more_left
  not_paged store start out =
      let is = not_listed store out (λ (st : State). page_result st store start out) in
      record {
        answered = is.answered;
        out-is = is.out-is;
        written_is = is.written_is;
        labels_are = is.labels_are;
        more-is = rw (ne_eqb (length block) block_size other);
      }

  -- as the first of two, or as the second
  pub not_merged : (store block' store' out : Bytes) → Lists (merge_left block store block' store' out) out 0 0 1
  unfolding merge_left
  not_merged store block' store' out = by (is_block block')
    where
      by : (b : Bool) → Lists (cond b (on_block block store out (λ st. merge_result st store (state_in block') store' out)) (no_block block store out)) out 0 0 1
      by true = not_listed store out (λ (st : State). merge_result st store (state_in block') store' out)
      by false = record { answered = refl; out-is = refl; written_is = refl; labels_are = refl }

  pub not_merged_second : (block' store store' out : Bytes) → Lists (merge_left block' store block store' out) out 0 0 1
  unfolding merge_left
  not_merged_second block' store store' out = rw (ne_eqb (length block) block_size other) (record { answered = refl; out-is = refl; written_is = refl; labels_are = refl })

  pub not_set_up : (actor : ℕ) (name : Bytes) → SetsUp actor name block block 1
  not_set_up actor name = let none = ne_eqb (length block) block_size other in record { answered = rw none; block-is = rw none; state-is = rw none }

  pub not_looked_up : (store found : Bor Bytes) (label : Bytes) → IsPart store 0 0 found → LooksUp block store label found false 1
  unfolding lookup_left
  not_looked_up store found label part =
      let is : lookup_left block store.now label ≡ not_looked Damaged = rw (ne_eqb (length block) block_size other) in
      record { answered = rw is; listed-is = rw is; stretch-is = rw is part }

-- ---- blocks

module _ (block : Bytes) (size : length block ≡ block_size) where
  pub sets_up : (actor : ℕ) (name : Bytes) (done : SetUp) (after : Bytes) (r : ℕ) → done ≡ set_up actor name → (after ≡ state_bytes done.state) × (state_in after ≡ done.state) → r ≡ number_of done.answer → SetsUp actor name block after r
  sets_up actor name done after r e f g =
      let some = eq-eqb (length block) block_size size in
      record { answered = rw (some, ← e) g; block-is = rw (some, ← e) f.0; state-is = rw (some, ← e) f.1 }

  module _ (st : State) (unpacked : st ≡ state_in block) where
    pub looked_up_lem : (store found : Bor Bytes) (label : Bytes) (listed : Bool) (r : ℕ) → controller.LooksUp st store label r listed found → LooksUp block store label found listed r
    unfolding lookup_left
    looked_up_lem store found label listed r looks =
        let is : lookup_left block store.now label ≡ lookup_result st store.now label = rw (eq-eqb (length block) block_size size, unpacked) in
        record { answered = rw is looks.answered; listed-is = rw is looks.listed-is; stretch-is = rw is looks.stretch-is }

    module _ (store out : Bytes) (call : State → Result) where
      some : on_block block store out call ≡ packed (call st)
      unfolding on_block
      some = rw (eq-eqb (length block) block_size size, unpacked)

      pub listed : (out' : Bytes) (r : ℕ) (done : Listed) → controller.Lists (call st) out' done → r ≡ number_of done.answer → Lists (on_block block store out call) out' done.written done.labels r
      listed out' r done lists number = rw some (record {
        answered = number ∙ ap number_of lists.answered;
        out-is = lists.out-is;
        written_is = lists.written_is;
        labels_are = lists.labels_are;
      })

      module _ (after store' out' : Bytes) (r : ℕ) (done : Outcome) (leaves : controller.Leaves (call st) store' out' done) (state : (after ≡ state_bytes done.state) × (state_in after ≡ done.state)) (number : r ≡ number_of done.answer) where
        pub left : Leaves (on_block block store out call) after store' out' done.written r
        left = rw some (record {
          answered = number ∙ ap number_of leaves.answered;
          block-is = state.0 ∙ ap state_bytes leaves.state-is;
          state-is = state.1 ∙ leaves.state-is;
          store_is = leaves.store_is;
          out-is = leaves.out-is;
          written_is = leaves.written_is;
        })

        pub changed : Changes (on_block block store out call) after store' r
        changed = record { answered = left.answered; block-is = left.block-is; state-is = left.state-is; store_is = left.store_is }

      pub put : (out' : Bytes) (size : ℕ) → images.WritesImage (call st) out' (Ok size) → PutsOut (on_block block store out call) out' size 0
      put out' size writes = rw some (record { answered = ap number_of writes.answered; out-is = writes.out-is; written_is = writes.written_is })

      pub not_put : (out' : Bytes) (answer : Answer) → images.WritesImage (call st) out' (Err answer) → (r : ℕ) → r ≡ number_of answer → PutsOut (on_block block store out call) out' 0 r
      not_put out' answer writes r number = rw some (record { answered = number ∙ ap number_of writes.answered; out-is = writes.out-is; written_is = writes.written_is })

      -- a state that comes with the answer, in the block
      pub loaded : (after store' : Bytes) (r : ℕ) (done : SetUp) → images.LoadsImage (call st) store' done → (after ≡ state_bytes done.state) × (state_in after ≡ done.state) → r ≡ number_of done.answer
          → Changes (on_block block store out call) after store' r
      loaded after store' r done loads state number = rw some (record {
        answered = number ∙ ap number_of loads.answered;
        block-is = state.0 ∙ ap state_bytes loads.state-is;
        state-is = state.1 ∙ loads.state-is;
        store_is = loads.store_is;
      })

      -- a call that keeps the state keeps the block
      pub unchanged : AreBytes block → (store' out' : Bytes) (r : ℕ) (done : Outcome) → controller.Leaves (call st) store' out' done → (call st).state ≡ st → r ≡ number_of done.answer
          → Changes (on_block block store out call) block store' r
      unchanged small store' out' r done leaves same number =
          let is : done.state ≡ state_in block = leaves.state-is ∙ same ∙ unpacked in
          changed block store' out' r done leaves (sym (bytes_in_state block size small) ∙ ap state_bytes (sym is), sym is) number

    pub paged : (store start out out' : Bytes) (r : ℕ) (page : Paged) → controller.PagesAfter st store start out out' page → r ≡ number_of page.answer
        → Pages (page_left block store start out) (more_left block store start out) out' page.written page.labels page.more r
    unfolding more_left
    paged store start out out' r page pages number =
        let is : more_left block store start out ≡ more_follow st store start out = rw (eq-eqb (length block) block_size size, unpacked) in
        rw (some store out (λ (st' : State). page_result st' store start out), is) (record {
          answered = number ∙ ap number_of pages.answered;
          out-is = pages.out-is;
          written_is = pages.written_is;
          labels_are = pages.labels_are;
          more-is = pages.more-is;
        })

    -- with a second block
    pub merged : (block' : Bytes) → length block' ≡ block_size → (st' : State) → st' ≡ state_in block' → (store store' out out' : Bytes) (r : ℕ) (done : Listed) → controller.Lists (merge_result st store st' store' out) out' done
        → r ≡ number_of done.answer → Lists (merge_left block store block' store' out) out' done.written done.labels r
    unfolding merge_left
    merged block' size' st' unpacked' store store' out out' r done lists number =
        rw (eq-eqb (length block') block_size size', ← unpacked') (listed store out (λ (x : State). merge_result x store st' store' out) out' r done lists number)
