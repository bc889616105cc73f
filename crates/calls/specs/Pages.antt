-- Pages on an unchanged state, whatever it is: what an accepted page hands out, and that pages joined are the listing.
use Rattle.std.specs.Prelude.{ℕ, ◌+◌, ◌≤◌, Bool, false, not, cond, ◌&&◌, ◌||◌, List, [], ◌∷◌, ◌++◌, ◌↔◌, ◌≡◌, T, eqb, length}
use Rattle.wire.specs.Bytes.{Bytes}
use Rattle.dots.specs.Answer.{number_of}
use Rattle.dots.specs.Names.{Label}
use Rattle.dots.specs.Entries.{Line}
use Rattle.listing.specs.Listing.{line_size, listing_bytes}
use Rattle.replica.specs.Machine.{listing}
use Rattle.replica.specs.Page.{lines_after, next_start}
use Rattle.calls.specs.declared.State.{State}
use Rattle.calls.specs.State.{clock_model, view}
use Rattle.calls.specs.Calls.{page_result, more_follow}
use Rattle.calls.specs.Sequence.{output}

module _ (st : State) (store : Bytes) where
  abbrev pub listing_lines : List Line
  listing_lines = listing clock_model (view st store)

  abbrev pub PageAccepted : Label → Bytes → Type 0
  PageAccepted start out = number_of (page_result st store start out).answer ≡ 0

  -- the last label of a page, after which the next one starts
  abbrev pub start_after : Label → Bytes → Label
  start_after start out = next_start line_size listing_lines start (length out)

  -- pages into these outputs, each started after the last label before, up to the one that says "ended": their bytes together, and their labels
  unfoldable pub joined_bytes : Label → List Bytes → Bytes
  joined_bytes start [] = []
  joined_bytes start (out ∷ outs) =
      let further = joined_bytes (start_after start out) outs in
      output (page_result st store start out) ++ cond (more_follow st store start out) further []

  unfoldable pub joined_labels : Label → List Bytes → ℕ
  joined_labels start [] = 0
  joined_labels start (out ∷ outs) =
      let further = joined_labels (start_after start out) outs in
      (page_result st store start out).labels + cond (more_follow st store start out) further 0

  -- all accepted, and the last says "ended"
  unfoldable pub reaches_end : Label → List Bytes → Bool
  reaches_end start [] = false
  reaches_end start (out ∷ outs) =
      let further = reaches_end (start_after start out) outs in
      eqb (number_of (page_result st store start out).answer) 0 && (not (more_follow st store start out) || further)

pub record PageClaims : Type 0 where
  -- "Every accepted page on a state with labels left hands out at least one"
  pub some-label : (st : State) (store start out : Bytes) → PageAccepted st store start out
      → (lines_after start (listing_lines st store) ≡ [] → ⊥) → 1 ≤ (page_result st store start out).labels
  -- "'ended' comes exactly on accepted pages that none follows"
  pub ended_is : (st : State) (store start out : Bytes) → PageAccepted st store start out
      → (more_follow st store start out ≡ false) ↔ (lines_after (start_after st store start out) (listing_lines st store) ≡ [])
  -- "On an unchanged state accepted pages from the front to 'ended', each started after the last label before, joined equal the listing."
  pub joined_are : (st : State) (store : Bytes) (outs : List Bytes) → T (reaches_end st store [] outs)
      → (joined_bytes st store [] outs ≡ listing_bytes (listing_lines st store)) × (joined_labels st store [] outs ≡ length (listing_lines st store))
