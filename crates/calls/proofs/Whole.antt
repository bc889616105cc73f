-- The rules of an undamaged state, as rules of its machine: calls keep them, and a machine that keeps them is written back undamaged. Assumes nothing.
use Prim.Native.Nat.{ℕ, suc, zero, ◌+◌, ◌-◌, ◌*◌, ◌≤◌, Ordering}
use mathlib.Core.Path.{◌≡◌, refl, sym, ap, ap₂, ◌∙◌}
use mathlib.Core.Logic.{inl, inr, ⊎_elim}
use mathlib.Core.Bool.{Bool, true, false}
use mathlib.Core.List.Memᴰ
use mathlib.Core.List.{List, [], ◌∷◌, ◌++◌}
use native.Mathlib.Omega.{arith}
use lib.Dec.{T, eqb}
use lib.ListN.{length, take, drop, replicate, length-append, length-drop, length-replicate, take-append-drop}
use lib.Seq.{length-take-le, drop_at}
use borrow.Author.Tests.{le-leb, eqb-true}
use Rattle.wire.specs.Lists.{◌∈◌, keep, all, insert, place, cons_if, Ascending}
use Rattle.wire.specs.Bytes.{Bytes}
use Rattle.wire.proofs.Tests.{both, both_left, both_right, pass, holds}
use Rattle.wire.proofs.Lists.{member-append, keep-member, all-member, member-all, insert_all-member, ascending-insert_all, ascending-keep}
use Rattle.dots.specs.declared.Dot.{Dot}
use Rattle.dots.specs.Names.{Name}
use Rattle.dots.specs.Dots.{Context, dot_of, compare_dots, dot_ok, tombstone_most}
use Rattle.dots.specs.Wire.{dots_bytes, dot_size, tombstone_size}
use Rattle.dots.specs.Entries.{Entry, entry_dot, compare_entries}
use Rattle.dots.proofs.Orders.{dots, entries}
use Rattle.dots.proofs.Rules.{ascending_up, up_ascending}
use Rattle.dots.proofs.RoundTrip.{length-dots}
use Rattle.clock.specs.Row.{window_width}
use Rattle.clock.specs.Clock.{row_at, sees, clock_ok, clock_words}
use Rattle.clock.proofs.Clocks.{Formed, rows-well, rows-tested}
use Rattle.keys.specs.Entry.{entry_ok, entry_key}
use Rattle.store.specs.Cut.{store_bytes, end_to_end}
use Rattle.store.specs.Valid.{store_most, store_ok}
use Rattle.store.proofs.RoundTrip.{entries-used}
use Rattle.replica.specs.Machine.{seen, joining, live, own_base, apply, compacted}
use Rattle.calls.specs.declared.State.{State}
use Rattle.calls.specs.State.{clock_model, Machine, name_of, tombstone_dots, entries as entries_of, view}
use Rattle.calls.specs.Damage.{zero_from, state_name_ok, tombstone_ok}
use Rattle.calls.specs.Effect.{padded, keys_part, state_of, store_of}
use Rattle.calls.proofs.Reading.{tombstone-read, used-after}
use Rattle.calls.proofs.Validity.{Rules, apply-rules, compacted-rules}
use Rattle.calls.proofs.Clauses.{Undamaged, used-fits, store-fits, name-ok, rows_ok_lem, entries_of_lem, view-rules}
use Rattle.calls.proofs.OwnRow.{joined-formed, joined-sees, own-window}

-- what an undamaged state's machine keeps, but for the sizes of tombstone and store
pub record Whole (m : Machine) : Type 0 where
  pub rules : Rules m
  pub formed : Formed window_width m.clock
  pub own-window : (row_at m.clock m.actor.number).window ≡ 0
  pub tombstone-ascends : Ascending compare_dots m.tombstone
  pub tombstone-seen : (d : Dot) → d ∈ m.tombstone → T (sees m.clock d)
  pub keys-ascend : Ascending compare_entries m.keys
  pub keys-seen : (e : Entry) → e ∈ m.keys → T (sees m.clock e.dot)

-- ---- an undamaged state's machine

pub view-whole : (st : State) (store : Bytes) → Undamaged st store → length st.clock.words ≡ clock_words → Whole (view st store)
unfolding view tombstone_ok clock_ok
view-whole st store u size =
    let used = entries_of_lem st store u in
    let t : tombstone_ok st ≡ true = u.tombstone in
    let c : clock_ok window_width st.actor.number st.clock.words ≡ true = u.clock in
    record {
      rules = view-rules st store u;
      formed = record { size = size; rows = rows-well window_width st.clock.words (rows_ok_lem st store u) };
      own-window = eqb-true _ 0 (search both);
      tombstone-ascends = ascending_up (tombstone_dots st) (search both);
      tombstone-seen = λ d k. pass (all-member (sees st.clock.words) (tombstone_dots st) (search both) d k);
      keys-ascend = used.ascend;
      keys-seen = λ e k. pass (all-member (λ (x : Entry). sees st.clock.words x.dot) (entries_of st store) used.seen e k);
    }

-- ---- calls keep the rules

module _ (m : Machine) (w : Whole m) where
  pub apply-whole : (fresh : List Entry) (context : Context) → all entry_ok fresh ≡ true → all dot_ok context ≡ true
      → T (clock_model.fits m.clock (joining clock_model m fresh context))
      → ((n : ℕ) → dot_of m.actor n ∈ joining clock_model m fresh context → n ≡ own_base clock_model m + 1)
      → Whole (apply clock_model m fresh context)
  unfolding apply
  apply-whole fresh context fresh_ok context-ok fits next = record {
    rules = apply-rules m w.rules fresh context fresh_ok context-ok;
    formed = joined-formed m.clock joined w.formed fits;
    own-window = own-window m.clock m.actor joined w.formed fits w.own-window next;
    tombstone-ascends = ascending-insert_all compare_dots dots (keep (seen clock_model m) context) m.tombstone w.tombstone-ascends;
    tombstone-seen = λ d k. stays d (⊎_elim (λ j. (keep-member (seen clock_model m) context j).1) (w.tombstone-seen d) (insert_all-member compare_dots dots (keep (seen clock_model m) context) m.tombstone k));
    keys-ascend = ascending-insert_all compare_entries entries fresh m.keys w.keys-ascend;
    keys-seen = λ e k. ⊎_elim (λ j. joins e.dot (member-append.1 (inl (Memᴰ.map entry_dot j)))) (λ j. stays e.dot (w.keys-seen e j)) (insert_all-member compare_entries entries fresh m.keys k);
  }
    where
      joined : List Dot
      joined = joining clock_model m fresh context

      stays : (d : Dot) → T (sees m.clock d) → T (sees (clock_model.join_all m.clock (joining clock_model m fresh context)) d)
      stays d t = (joined-sees m.clock (joining clock_model m fresh context) w.formed fits d).1 (inl t)

      joins : (d : Dot) → d ∈ joining clock_model m fresh context → T (sees (clock_model.join_all m.clock (joining clock_model m fresh context)) d)
      joins d k = (joined-sees m.clock (joining clock_model m fresh context) w.formed fits d).1 (inr k)

  pub compacted-whole : Whole (compacted clock_model m)
  unfolding compacted
  compacted-whole = record {
    rules = compacted-rules m w.rules;
    formed = w.formed;
    own-window = w.own-window;
    tombstone-ascends = tt;
    tombstone-seen = λ d k. absurd (Memᴰ.not-nil k);
    keys-ascend = ascending-keep compare_entries entries (live clock_model m) m.keys w.keys-ascend;
    keys-seen = λ e k. w.keys-seen e (keep-member (live clock_model m) m.keys k).0;
  }

-- ---- how much room the keys take

module _ (name : Name) where
  abbrev size : List Entry → ℕ
  size es = length (store_bytes name es)

  size_cons : (e : Entry) (es : List Entry) → size (e ∷ es) ≡ length (entry_key name e) + size es
  unfolding store_bytes end_to_end
  size_cons e es = length-append (entry_key name e) (store_bytes name es)

  pub insert-size : (e : Entry) (es : List Entry) → size (insert compare_entries e es) ≤ length (entry_key name e) + size es
  unfolding insert
  insert-size e [] = omega (arith, size_cons e [])
  insert-size e (f ∷ es) = by (compare_entries e f) (insert-size e es)
    where
      by : (o : Ordering) → size (insert compare_entries e es) ≤ length (entry_key name e) + size es → size (place o e f es (insert compare_entries e es)) ≤ length (entry_key name e) + size (f ∷ es)
      by Ordering.lt ih = omega (arith, size_cons e (f ∷ es))
      by Ordering.eq ih = omega arith
      by Ordering.gt ih = omega (arith, size_cons f (insert compare_entries e es), size_cons f es)

  pub keep-size : (p : Entry → Bool) (es : List Entry) → size (keep p es) ≤ size es
  unfolding keep
  keep-size p [] = omega arith
  keep-size p (e ∷ es) = by (p e) (keep-size p es)
    where
      by : (b : Bool) → size (keep p es) ≤ size es → size (cons_if b e (keep p es)) ≤ size (e ∷ es)
      by true ih = omega (arith, size_cons e (keep p es), size_cons e es)
      by false ih = omega (arith, size_cons e es)

-- ---- written back

pub all-zero : (n : ℕ) → all (λ b. eqb b 0) (replicate n 0) ≡ true
unfolding all
all-zero zero = refl
all-zero (suc n) = all-zero n

-- bytes that are 0
pub zeros_are : (s : Bytes) → all (λ b. eqb b 0) s ≡ true → s ≡ replicate (length s) 0
unfolding all
zeros_are [] h = refl
zeros_are (b ∷ s) h = ap₂ ◌∷◌ (eqb-true b 0 (both_left (eqb b 0) (all (λ x. eqb x 0) s) h)) (zeros_are s (both_right (eqb b 0) (all (λ x. eqb x 0) s) h))

-- bytes that are 0 past a front are that front and zeros
pub padded-front : (n k : ℕ) (bytes : Bytes) → length bytes ≡ n → k ≤ n → zero_from k bytes ≡ true → padded n (take k bytes) ≡ bytes
padded-front n k bytes size h past =
    let front : length (take k bytes) ≡ k = length-take-le k bytes (omega arith) in
    let left : length (drop k bytes) ≡ n - length (take k bytes) = rw (length-drop, front, size) in
    ap (λ (s : Bytes). take k bytes ++ s) (sym (zeros_are (drop k bytes) past ∙ ap (λ (j : ℕ). replicate j 0) left)) ∙ take-append-drop k bytes

zero-past : (ds : List Dot) → zero_from (length ds * dot_size) (padded tombstone_size (dots_bytes ds)) ≡ true
zero-past ds = rw (drop_at (dots_bytes ds) (replicate (tombstone_size - length (dots_bytes ds)) 0) (length ds * dot_size) (omega (arith, length-dots ds))) (all-zero (tombstone_size - length (dots_bytes ds)))

module _ (st : State) (store : Bytes) (u : Undamaged st store) (m : Machine) (w : Whole m) (own : m.actor ≡ st.actor)
    (most : length m.tombstone ≤ tombstone_most) (room : length (keys_part st m) ≤ length store) where
  store_length : length (store_of st store m) ≡ length store
  unfolding store_of
  store_length = rw (length-append, length-append, length-replicate, length-drop) (omega (arith, used-fits st store u))

  clock-after : clock_ok window_width (state_of st m).actor.number (state_of st m).clock.words ≡ true
  unfolding clock_ok state_of
  clock-after = rw (rows-tested window_width m.clock w.formed.rows, ← own, w.own-window)

  tombstone-after : tombstone_ok (state_of st m) ≡ true
  unfolding tombstone_ok state_of
  tombstone-after =
      rw (
        le-leb (length m.tombstone) tombstone_most most,
        tombstone-read m.tombstone w.rules.tombstone,
        up_ascending m.tombstone w.rules.tombstone w.tombstone-ascends,
        member-all (sees m.clock) m.tombstone (λ d k. holds _ (w.tombstone-seen d k)),
      ) (zero-past m.tombstone)

  store-after : store_ok (name_of (state_of st m)) (state_of st m).clock.words (store_of st store m) (state_of st m).used ≡ true
  unfolding store_ok state_of
  store-after =
      let seen_all = member-all (λ (e : Entry). sees m.clock e.dot) m.keys (λ e k. holds _ (w.keys-seen e k)) in
      rw (store_length, le-leb (length store) store_most (store-fits st store u), le-leb (length (keys_part st m)) (length store) room, used-after st store m)
      (entries-used (name_of st) m.clock (name-ok st store u) m.keys w.rules.keys w.keys-ascend seen_all).0

  pub whole-undamaged : Undamaged (state_of st m) (store_of st store m)
  unfolding state_of state_name_ok
  whole-undamaged = record { actor = u.actor; name = u.name; clock = clock-after; tombstone = tombstone-after; stored = store-after }
