-- The entry of a label key by tests of its bytes: the tests are `key_entry`. Assumes nothing.
use mathlib.Core.Path.{◌≡◌, refl, sym, ap, ◌∙◌}
use mathlib.Core.Logic.{◌⊎◌, inl, inr}
use mathlib.Core.Bool.{true, false, cond, ◌&&◌, false≢true}
use mathlib.Core.List.{[], ◌∷◌, ◌++◌, append-nil}
use mathlib.Core.Option.{Option, none, some}
use Prim.Native.Nat.{ℕ, ◌+◌, ◌≤◌}
use native.Mathlib.Omega.{arith}
use lib.Dec.{leb}
use lib.ListN.{length, take, drop, length-append, length-take, drop_of_length-le}
use lib.Seq.{drop_at}
use borrow.Author.Tests.{le-leb, eqb-true, eq-eqb}
use Rattle.wire.specs.Bytes.{Bytes, AreBytes, big_endian, between, byte_at, number_at, zero_at, starts_with}
use Rattle.wire.proofs.Tests.{decided, both}
use Rattle.wire.proofs.BigEndian.{from-fits}
use Rattle.wire.proofs.ByteOrder.{starts-itself, starts-split}
use Rattle.wire.proofs.Fields.{byte_on, number-on, number-back, bytes_drop, bytes_take}
use Rattle.dots.specs.Names.{name_ok, label_most, text_ok}
use Rattle.dots.specs.Dots.{actor_ok, max_counter, dot_ok}
use Rattle.dots.specs.Entries.{Entry}
use Rattle.dots.proofs.RoundTrip.{counter-fits}
use Rattle.keys.specs.Entry.{entry_ok, entry_key, prefix, suffix, key_entry}
use Rattle.keys.specs.Tests.{label_after, entry_after, entry_by}
use Rattle.keys.proofs.Texts.{text_nonzero, text_before, text_on, cons_back, text_back}
use Rattle.keys.proofs.EntryKeys.{entry_key_parts, length-prefix, length-suffix, entry-written, entry_read}
use Rattle.keys.specs.Key.{suffix_size, prefix_fixed}

-- ---- what follows the type byte of an entry's key passes the tests, and gives the entry

record EntryLaid (e : Entry) (t : Bytes) : Type 0 where
  size : zero_at t ≡ length e.label
  label : take (zero_at t) t ≡ e.label
  actor : byte_at t (zero_at t + 1) ≡ e.dot.actor.number
  ended : byte_at t (zero_at t + 2) ≡ 0
  counter : number_at 8 t (zero_at t + 3) ≡ e.dot.counter.number

module _ (e : Entry) (t : Bytes) (ok : entry_ok e ≡ true) (is : t ≡ e.label ++ suffix e.dot) where
  laid : EntryLaid e t
  unfolding suffix entry_ok
  laid =
      let n : ℕ = zero_at t in
      let c : ℕ = e.dot.counter.number in
      let labelled = text_on t 0 (n + 1) e.label (e.dot.actor.number ∷ 0 ∷ big_endian 8 c) (text_nonzero label_most e.label (search both)) is (omega arith) in
      let first = byte_on t (n + 1) e.dot.actor.number (0 ∷ big_endian 8 c) labelled.2 in
      let two : n + 1 + 1 ≡ n + 2 = omega arith in
      let second = byte_on t (n + 2) 0 (big_endian 8 c) (rw two at first.1) in
      let three : n + 2 + 1 ≡ n + 3 = omega arith in
      let third : drop (n + 3) t ≡ big_endian 8 c ++ [] = rw three at second.1 ∙ sym (append-nil (big_endian 8 c)) in
      record { size = labelled.0; label = labelled.1; actor = first.0; ended = second.0; counter = (number-on t 8 (n + 3) c [] (counter-fits e.dot (search both)) third).0 }

  pub after_tests : label_after t ≡ true
  unfolding label_after entry_ok dot_ok text_ok
  after_tests =
      let w : EntryLaid e t = laid in
      let whole : length t ≡ length e.label + suffix_size = rw (is, length-append, length-suffix) in
      let label : between 1 label_most (length e.label) ≡ true = search both in
      let actor : actor_ok e.dot.actor.number ≡ true = search both in
      let low : leb 1 e.dot.counter.number ≡ true = search both in
      rw (w.actor, w.ended, w.counter, w.size, eq-eqb (length t) (length e.label + suffix_size) whole, label, actor, low)

-- ---- what passes the tests follows the type byte of its entry's key

module _ (t : Bytes) (small : AreBytes t) (tests : label_after t ≡ true) where
  whole : length t ≡ zero_at t + suffix_size
  unfolding label_after
  whole = eqb-true (length t) (zero_at t + suffix_size) (search both)

  counter_high : number_at 8 t (zero_at t + 3) ≤ max_counter
  counter_high =
      let part : Bytes = take 8 (drop (zero_at t + 3) t) in
      let fits = from-fits part (bytes_take (drop (zero_at t + 3) t) 8 (bytes_drop t (zero_at t + 3) small)) (rw length-take (omega arith)) in
      omega arith

  pub after-back : (entry_after t).label ++ suffix (entry_after t).dot ≡ t
  unfolding label_after suffix
  after-back =
      let n : ℕ = zero_at t in
      let size = whole in
      let ended : byte_at t (n + 2) ≡ 0 = eqb-true (byte_at t (n + 2)) 0 (search both) in
      let past : length t ≤ n + 3 + 8 = omega arith in
      let end : drop (n + 3 + 8) t ≡ [] = drop_of_length-le t past in
      let counter : big_endian 8 (number_at 8 t (n + 3)) ≡ drop (n + 3) t = sym (append-nil (big_endian 8 (number_at 8 t (n + 3)))) ∙ rw end at (number-back t small 8 (n + 3) (omega arith)) in
      let two : n + 2 ≡ n + 1 + 1 = omega arith in
      let three : n + 3 ≡ n + 2 + 1 = omega arith in
      let second = cons_back t (n + 2) 0 (drop (n + 3) t) ended (rw three) (omega arith) in
      let first = cons_back t (n + 1) (byte_at t (n + 1)) (drop (n + 2) t) refl (rw two) (omega arith) in
      rw (counter, second, first) (text_back t 0 (n + 1) (omega arith) (omega arith))

  pub after-ok : entry_ok (entry_after t) ≡ true
  unfolding label_after entry_ok dot_ok
  after-ok =
      let label : between 1 label_most (zero_at t) ≡ true = search both in
      let actor : actor_ok (byte_at t (zero_at t + 1)) ≡ true = search both in
      let low : leb 1 (number_at 8 t (zero_at t + 3)) ≡ true = search both in
      rw (text_before label_most t, label, actor, low, le-leb (number_at 8 t (zero_at t + 3)) max_counter counter_high)

-- ---- the whole key

module _ (name s : Bytes) (ok : name_ok name ≡ true) (small : AreBytes s) where
  t : Bytes
  t = drop (length name + prefix_fixed) s

  -- bytes that pass are the key of their entry
  passed : (starts_with (prefix name) s && label_after t) ≡ true → entry_key name (entry_after t) ≡ s
  unfolding t
  passed h =
      let split : prefix name ++ drop (length name + prefix_fixed) s ≡ s = rw length-prefix at (starts-split (prefix name) s (search both)) in
      rw (entry_key_parts name (entry_after t), after-back t (bytes_drop s (length name + prefix_fixed) small) (search both)) split

  -- the key of an entry passes
  passes : (e : Entry) → entry_ok e ≡ true → entry_key name e ≡ s → (starts_with (prefix name) s && label_after t) ≡ true
  unfolding t
  passes e e-ok h =
      let parts : s ≡ prefix name ++ (e.label ++ suffix e.dot) = sym h ∙ entry_key_parts name e in
      let after : t ≡ e.label ++ suffix e.dot = ap (drop (length name + prefix_fixed)) parts ∙ drop_at (prefix name) (e.label ++ suffix e.dot) (length name + prefix_fixed) (length-prefix name) in
      let starts : starts_with (prefix name) s ≡ true = rw parts (starts-itself (prefix name) (e.label ++ suffix e.dot)) in
      rw (starts, after_tests e t e-ok after)

  pub entry_tests : key_entry name s ≡ entry_by name s
  unfolding entry_by t
  entry_tests = by_tests (decided (starts_with (prefix name) s && label_after t))
    where
      refused : (starts_with (prefix name) s && label_after t) ≡ false → (o : Option Entry) → key_entry name s ≡ o → o ≡ none
      refused f none h = refl
      refused f (some e) h = let w = entry_read name s e h in absurd (false≢true (sym f ∙ passes e w.1 w.0))

      by_tests : ((starts_with (prefix name) s && label_after t) ≡ true) ⊎ ((starts_with (prefix name) s && label_after t) ≡ false)
          → key_entry name s ≡ cond (starts_with (prefix name) s && label_after t) (some (entry_after t)) none
      by_tests (inl h) = rw h (rw (passed h) at (entry-written name (entry_after t) ok (after-ok t (bytes_drop s (length name + prefix_fixed) small) (search both))))
      by_tests (inr f) = rw f (refused f (key_entry name s) refl)
