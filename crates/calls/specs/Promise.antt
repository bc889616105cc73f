-- What each public call promises: one record that equates answer, state, lent buffers and counts with the call's result on bytes.
use Rattle.std.specs.Borrow.{Bor}
use Rattle.std.specs.Prelude.{ℕ, Bool, ◌≡◌}
use Rattle.wire.specs.Bytes.{Bytes, IsPart}
use Rattle.dots.specs.Answer.{number_of}
use Rattle.calls.specs.declared.State.{State}
use Rattle.calls.specs.declared.Outcome.{Outcome}
use Rattle.calls.specs.declared.Listed.{Listed}
use Rattle.calls.specs.declared.Paged.{Paged}
use Rattle.calls.specs.Calls.{Result, page_result, more_follow, lookup_result}

-- a call that may change state and store and puts bytes out
pub record Leaves (result : Result) (store out : Bytes) (r : Outcome) : Type 0 where
  pub answered : r.answer ≡ result.answer
  pub state-is : r.state ≡ result.state
  pub written_is : r.written ≡ result.written
  pub store_is : store ≡ result.store
  pub out-is : out ≡ result.out

-- a listing, of one controller or merged of two
pub record Lists (result : Result) (out : Bytes) (r : Listed) : Type 0 where
  pub answered : r.answer ≡ result.answer
  pub written_is : r.written ≡ result.written
  pub labels_are : r.labels ≡ result.labels
  pub out-is : out ≡ result.out

-- a page: `more` says whether more follow
pub record Pages (result : Result) (more : Bool) (out : Bytes) (r : Paged) : Type 0 where
  pub answered : r.answer ≡ result.answer
  pub written_is : r.written ≡ result.written
  pub labels_are : r.labels ≡ result.labels
  pub more-is : r.more ≡ more
  pub out-is : out ≡ result.out

-- the same of the page after a starting label
abbrev pub PagesAfter : State → Bytes → Bytes → Bytes → Bytes → Paged → Type 0
PagesAfter st store start out out' r = Pages (page_result st store start out) (more_follow st store start out) out' r

-- a lookup: the answer's number, the yes, and the very stretch of the lent store
pub record LooksUp (st : State) (store : Bor Bytes) (label : Bytes) (number : ℕ) (listed : Bool) (r : Bor Bytes) : Type 0 where
  pub answered : number ≡ number_of (lookup_result st store.now label).answer
  pub listed-is : listed ≡ (lookup_result st store.now label).listed
  pub stretch-is : IsPart store (lookup_result st store.now label).start (lookup_result st store.now label).end r
