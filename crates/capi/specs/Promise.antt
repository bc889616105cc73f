-- The version, and what each call promises: one record that equates the answer's number, every lent byte and the counts with what the call leaves.
use Rattle.std.specs.Borrow.{Bor, MutBor}
use denote.Triple.Both.{Both}
use Rattle.std.specs.Prelude.{ℕ, Bool, cond, ◌≡◌, ◌++◌, length, drop}
use Rattle.wire.specs.declared.Span.{Span}
use Rattle.wire.specs.Loans.{Loan, before}
use Rattle.wire.specs.Bytes.{Bytes, IsPart}
use Rattle.dots.specs.Answer.{number_of}
use Rattle.dots.specs.declared.Answer.TheVariants.{Damaged}
use Rattle.keys.specs.Key.{Key, key_of, key_bytes}
use Rattle.keys.specs.Tests.{kind_of}
use Rattle.keys.specs.Read.{KeyRead, read_key}
use Rattle.messages.specs.Read.{MessageRead, read_of}
use Rattle.calls.specs.Calls.{set_up}
use Rattle.block.specs.Block.{state_bytes, state_in}
use Rattle.capi.specs.Left.{Left, is_block, own_add_left, own_remove_left, list_left, page_left, more_left, merge_left, image_left, lookup_left, key_answer, key_written}

-- the version of the interface: 100 times its major number and its minor number
abbrev pub interface_version : ℕ
interface_version = 402

-- what lies behind a reference that is lent to a function to be changed, before it and after it
abbrev pub MutLoan : Type 0 → Type 0
MutLoan A = Both (MutBor A) (MutBor A)

abbrev pub old : {A : Type 0} → MutLoan A → A
old x = x.entry.now

abbrev pub new : {A : Type 0} → MutLoan A → A
new x = x.exit.now

-- set-up: a refused one leaves the block of the state that is zero throughout
pub record SetsUp (actor : ℕ) (name before after : Bytes) (r : ℕ) : Type 0 where
  pub answered : r ≡ cond (is_block before) (number_of (set_up actor name).answer) (number_of Damaged)
  pub block-is : after ≡ cond (is_block before) (state_bytes (set_up actor name).state) before
  pub state-is : state_in after ≡ cond (is_block before) (set_up actor name).state (state_in before)

-- a call that may change block and store and puts bytes out
pub record Leaves (left : Left) (block store out : Bytes) (written r : ℕ) : Type 0 where
  pub answered : r ≡ left.number
  pub block-is : block ≡ left.block
  pub state-is : state_in block ≡ left.state
  pub store_is : store ≡ left.store
  pub out-is : out ≡ left.out
  pub written_is : written ≡ left.written

-- an own add, on what is lent to it
abbrev pub OwnAdds : MutLoan Bytes → MutLoan Bytes → Loan Bytes → Loan Bytes → MutLoan Bytes → MutLoan ℕ → ℕ → Type 0
OwnAdds state store label context out written r =
    Leaves (own_add_left (old state) (old store) (before label) (before context) (old out))
    (new state) (new store) (new out) (new written) r

-- an own remove; its store is only read
abbrev pub OwnRemoves : MutLoan Bytes → Loan Bytes → Loan Bytes → MutLoan Bytes → MutLoan ℕ → ℕ → Type 0
OwnRemoves state store context out written r =
    Leaves (own_remove_left (old state) (before store) (before context) (old out))
    (new state) (before store) (new out) (new written) r

-- a call that may change block and store
pub record Changes (left : Left) (block store : Bytes) (r : ℕ) : Type 0 where
  pub answered : r ≡ left.number
  pub block-is : block ≡ left.block
  pub state-is : state_in block ≡ left.state
  pub store_is : store ≡ left.store

-- a listing
pub record Lists (left : Left) (out : Bytes) (written labels r : ℕ) : Type 0 where
  pub answered : r ≡ left.number
  pub out-is : out ≡ left.out
  pub written_is : written ≡ left.written
  pub labels_are : labels ≡ left.labels

-- the same, on what is lent to it
abbrev pub ListsLabels : Loan Bytes → Loan Bytes → MutLoan Bytes → MutLoan ℕ → MutLoan ℕ → ℕ → Type 0
ListsLabels state store out written labels r =
    Lists (list_left (before state) (before store) (old out))
    (new out) (new written) (new labels) r

-- a page: `follow` says whether more follow
pub record Pages (left : Left) (follow : Bool) (out : Bytes) (written labels : ℕ) (more : Bool) (r : ℕ) : Type 0 where
  pub answered : r ≡ left.number
  pub out-is : out ≡ left.out
  pub written_is : written ≡ left.written
  pub labels_are : labels ≡ left.labels
  pub more-is : more ≡ follow

-- the same, on what is lent to it
abbrev pub PagesLabels : Loan Bytes → Loan Bytes → Loan Bytes → MutLoan Bytes → MutLoan ℕ → MutLoan ℕ → MutLoan Bool → ℕ → Type 0
PagesLabels state store start out written labels more r =
    Pages (page_left (before state) (before store) (before start) (old out)) (more_left (before state) (before store) (before start) (old out))
    (new out) (new written) (new labels) (new more) r

-- a merged read, on what is lent to it: a listing
abbrev pub MergesLabels : Loan Bytes → Loan Bytes → Loan Bytes → Loan Bytes → MutLoan Bytes → MutLoan ℕ → MutLoan ℕ → ℕ → Type 0
MergesLabels first store second store' out written labels r =
    Lists (merge_left (before first) (before store) (before second) (before store') (old out))
    (new out) (new written) (new labels) r

-- a call that puts bytes out and changes neither block nor store
pub record PutsOut (left : Left) (out : Bytes) (written r : ℕ) : Type 0 where
  pub answered : r ≡ left.number
  pub out-is : out ≡ left.out
  pub written_is : written ≡ left.written

-- writing a hand-off image, on what is lent to it
abbrev pub WritesImage : Loan Bytes → Loan Bytes → MutLoan Bytes → MutLoan ℕ → ℕ → Type 0
WritesImage state store out written r =
    PutsOut (image_left (before state) (before store) (old out))
    (new out) (new written) r

-- a lookup: the answer's number, the yes, and the very stretch of the lent store
pub record LooksUp (block : Bytes) (store : Bor Bytes) (label : Bytes) (found : Bor Bytes) (listed : Bool) (r : ℕ) : Type 0 where
  pub answered : r ≡ number_of (lookup_left block store.now label).answer
  pub listed-is : listed ≡ (lookup_left block store.now label).listed
  pub stretch-is : IsPart store (lookup_left block store.now label).start (lookup_left block store.now label).end found

-- writing a key, its type given by a byte
pub record WritesKey (byte : ℕ) (k : Key) (before after : Bytes) (written r : ℕ) : Type 0 where
  pub answered : r ≡ number_of (key_answer byte k (length before))
  pub out-is : after ≡ cond (key_written byte k (length before)) (key_bytes k ++ drop (length (key_bytes k)) before) before
  pub written_is : written ≡ cond (key_written byte k (length before)) (length (key_bytes k)) 0

-- the same for the fields of a key, into the lent output
abbrev pub WritesKeyOf : ℕ → Loan Bytes → Loan Bytes → ℕ → ℕ → MutLoan Bytes → MutLoan ℕ → ℕ → Type 0
WritesKeyOf byte name label actor counter out written r =
    WritesKey byte (key_of (kind_of byte) (before name) (before label) actor counter)
    (old out) (new out) (new written) r

-- a stretch: its first place and its length
pub record Spans (p : Span) (at len : ℕ) : Type 0 where
  pub at-is : at ≡ p.at
  pub len_is : len ≡ p.len

-- reading a key
pub record ReadsKey (read : KeyRead) (kind name-at name-len label_at label-len actor counter r : ℕ) : Type 0 where
  pub answered : r ≡ number_of read.answer
  pub kind-is : kind ≡ read.kind
  pub name-is : Spans read.name name-at name-len
  pub label_is : Spans read.label label_at label-len
  pub actor-is : actor ≡ read.actor
  pub counter-is : counter ≡ read.counter

-- the same for the lent bytes, each field into a lent number
abbrev pub ReadsKeyIn : Loan Bytes → MutLoan ℕ → MutLoan ℕ → MutLoan ℕ → MutLoan ℕ → MutLoan ℕ → MutLoan ℕ → MutLoan ℕ → ℕ → Type 0
ReadsKeyIn bytes kind name-at name-len label_at label-len actor counter r =
    ReadsKey (read_key (before bytes)) (new kind) (new name-at) (new name-len) (new label_at) (new label-len)
    (new actor) (new counter) r

-- reading a message
pub record ReadsMessage (read : MessageRead) (kind name-at name-len label_at label-len actor counter context-at context-len r : ℕ) : Type 0 where
  pub answered : r ≡ number_of read.answer
  pub kind-is : kind ≡ read.kind
  pub name-is : Spans read.name name-at name-len
  pub label_is : Spans read.label label_at label-len
  pub actor-is : actor ≡ read.dot.actor.number
  pub counter-is : counter ≡ read.dot.counter.number
  pub context-is : Spans read.context context-at context-len

-- the same for the lent bytes, each field into a lent number
abbrev pub ReadsMessageIn : Loan Bytes → MutLoan ℕ → MutLoan ℕ → MutLoan ℕ → MutLoan ℕ → MutLoan ℕ → MutLoan ℕ → MutLoan ℕ → MutLoan ℕ → MutLoan ℕ → ℕ → Type 0
ReadsMessageIn bytes kind name-at name-len label_at label-len actor counter context-at context-len r =
    ReadsMessage (read_of (before bytes)) (new kind) (new name-at) (new name-len) (new label_at) (new label-len)
    (new actor) (new counter) (new context-at) (new context-len) r
