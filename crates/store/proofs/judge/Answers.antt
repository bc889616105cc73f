-- The lengths, and then the pass over the used bytes, with the prefix as it was put.
use Rattle.std.proofs.Common.{◌≡◌, ℕ, ◌+◌, ◌<◌, ◌≤◌, true, false, Option, Some, List, ◌++◌, length, take, sym, ap, ◌∙◌, arith, length-take, length-take-le, rules, le-leb}
use borrow.Author.Tests.{lt-leb}
use Rattle.wire.specs.Bytes.{Bytes}
use Rattle.dots.specs.Names.{Name, name_ok, name_most}
use Rattle.keys.proofs.EntryKeys.{length-prefix}
use Rattle.wire.specs.Lists.{all, ascends}
use Rattle.store.specs.Cut.{keys_after}
use Rattle.store.specs.Place.{Judged, KeysJudged, StoreJudged}
use Rattle.store.specs.Pass.{name_in, IsStart}
use Rattle.store.proofs.Prefixes.{name_in_lem}
use Rattle.keys.specs.Entry.{prefix}
use Rattle.store.specs.Valid.{used_ok, store_ok, store_most}
use Rattle.store.proofs.LowFront.{passed_none, judged-bad, judged_good}
use Rattle.store.proofs.Starts.{name_most_lem, put-read, put-size, put-room}
use Rattle.keys.specs.Key.{prefix_fixed}
use Rattle.store.proofs.judge.Goals as goal

module _ (name : Name) (words : List ℕ) (store : Bytes) (used : ℕ) where
  too_long : store_most < length store → false ≡ store_ok name words store used
  unfolding store_ok
  too_long h = rw (lt-leb (length store) store_most h)

  module _ (most : length store ≤ store_most) where
    past_end : length store < used → false ≡ store_ok name words store used
    unfolding store_ok
    past_end h = rw (le-leb (length store) store_most most, lt-leb used (length store) h)

    by-keys : used ≤ length store → used_ok name words (take used store) ≡ store_ok name words store used
    unfolding store_ok
    by-keys h = rw (le-leb (length store) store_most most, le-leb used (length store) h)

    judged : (n : ℕ) (start : Bytes) (r : Option ℕ) → used ≤ length store → Judged (used_ok name words (take used store)) n start (take used store) r → Judged (store_ok name words store used) n start (take used store) r
    judged n start r h j = rw (← by-keys h) j

    -- no keys at all
    none : (n : ℕ) (start : Bytes) → used ≡ 0 → Judged (store_ok name words store used) n start (take used store) (Some 0)
    unfolding used_ok keys_after all ascends
    none n start e =
        let ok : true ≡ used_ok name words (take used store) = rw e in
        judged_good n start (take used store) (store_ok name words store used) 0 (ok ∙ by-keys (omega arith)) (passed_none n start (take used store))

-- the prefix as it was put
module _ (name : Name) (ok : name_ok name ≡ true) (start : Bytes) (put : start ≡ prefix name) where
  named : name_in start ≡ name
  named = ap name_in put ∙ name_in_lem name

  is-start : IsStart start
  is-start = (rw named ok, rw named put)

  store-judged : (words : List ℕ) (store label : Bytes) (used : ℕ) (r : Option ℕ) → length store ≤ store_most → used ≤ length store
      → KeysJudged (name_in start) words (take used store) label r → StoreJudged name words store used label r
  store-judged words store label used r most h j = judged name words store used most (length name) (prefix name ++ label) r h (rw named at j)

fits : (name : Name) → name_ok name ≡ true → length name + prefix_fixed ≤ name_most + prefix_fixed
fits name ok = omega (arith, name_most_lem name ok)

used-few : (store : Bytes) (used : ℕ) → length store ≤ store_most → length (take used store) ≤ store_most
used-few store used h = rw length-take (omega arith)

used-size : (store : Bytes) (used : ℕ) → used ≤ length store → used ≡ length (take used store)
used-size store used h = sym (length-take-le used store h)

pub returns-then-store-gt-STORE_MOST : goal.returns-then-store-gt-STORE_MOST
returns-then-store-gt-STORE_MOST c = search (rules, too_long, judged-bad)

pub returns-then-store-used : goal.returns-then-store-used
returns-then-store-used c = search (rules, past_end, judged-bad)

pub returns-then-used-eq0 : goal.returns-then-used-eq0
returns-then-used-eq0 c = search (rules, none)

pub put_prefix-n-requires : goal.put_prefix-n-requires
put_prefix-n-requires c = search (rules, fits)

pub slice_bounds-start-end : goal.slice_bounds-start-end
slice_bounds-start-end c = search (rules, put-room, length-prefix)

pub slice_bounds-judge_keys-end : goal.slice_bounds-judge_keys-end
slice_bounds-judge_keys-end c = search (rules, put-size, length-prefix)

pub slice_bounds-judge_keys-end-2 : goal.slice_bounds-judge_keys-end-2
slice_bounds-judge_keys-end-2 c = search (rules, used-size)

pub judge_keys-requires : goal.judge_keys-requires
judge_keys-requires c = (search (rules, is-start, put-read, length-prefix), search (rules, used-few))

pub returns : goal.returns
returns c = search (rules, store-judged, put-read, length-prefix)
