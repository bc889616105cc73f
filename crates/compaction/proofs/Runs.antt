-- A run of kept keys moves down: the part from its place to its end, so that the run comes first in it. One key more. Assumes nothing.
use Prim.Native.Nat.{ℕ, ◌+◌, ◌-◌, ◌≤◌}
use mathlib.Core.Path.{◌≡◌, refl, sym, ap, ◌∙◌}
use mathlib.Core.Bool.{Bool, true, false, not, cond}
use mathlib.Core.List.{[], ◌++◌, append-nil, append_assoc}
use native.Mathlib.Omega.{arith}
use lib.ListN.{length, take, drop, length-append, length-drop}
use lib.Seq.{length-take-le, drop-drop, take_at, take-add}
use borrow.Rule.Slice.PartMut.{mid_len, drop_put}
use borrow.Author.Tests.{not-true, not-false}
use Rattle.wire.specs.Bytes.{Bytes}
use Rattle.wire.proofs.Parts.{drop-take}
use Rattle.dots.specs.declared.Dot.{Dot}
use Rattle.keys.specs.Key.{suffix_size}
use Rattle.store.specs.Cut.{key_dot}
use Rattle.compaction.specs.declared.Run.{Run}
use Rattle.compaction.specs.Runs.{kept_to, MovesRun, WalksKey}

-- ---- a run moved

module _ (s : Bytes) (run : Run) (start : run.to ≤ run.from) (more : run.from ≤ run.end) (fits : run.end ≤ length s) where
  abbrev from : ℕ
  from = run.from

  abbrev end : ℕ
  end = run.end

  abbrev to : ℕ
  to = run.to

  pub run_in_place : to ≡ from → MovesRun run end s s
  run_in_place e =
      let size : from + (end - from) ≡ end = omega arith in
      let front : take end s ≡ take from s ++ take (end - from) (drop from s) = ap (λ (k : ℕ). take k s) (sym size) ∙ take-add from (end - from) s in
      record { front = front ∙ ap (λ (k : ℕ). take k s ++ take (end - from) (drop from s)) (sym e); rest = refl; within = omega arith }

  -- the part as it comes back: the run, and what is left of the old bytes
  module _ (part : Bytes) (e : part ≡ drop (from - to) (take (end - to) (drop to s)) ++ drop (length (take (end - to) (drop to s)) - (from - to)) (take (end - to) (drop to s))) where
    run-first : drop (from - to) (take (end - to) (drop to s)) ≡ take (end - from) (drop from s)
    run-first =
        let size : end - to - (from - to) ≡ end - from = omega arith in
        let at : to + (from - to) ≡ from = omega arith in
        rw (drop-take, drop-drop, size, at)

    same_size : length part ≡ end - to
    same_size = rw (e, length-append, length-drop, length-drop, mid_len to end s fits) (omega arith)

    pub run_moved : MovesRun run (end - (from - to)) s (take to s ++ (part ++ drop (end - to) (drop to s)))
    run_moved =
        let moved : Bytes = take (end - from) (drop from s) in
        let left : Bytes = drop (length (take (end - to) (drop to s)) - (from - to)) (take (end - to) (drop to s)) in
        let size : length (take to s ++ moved) ≡ end - (from - to) =
        rw (length-append, length-take-le to s (omega arith), mid_len from end s fits) (omega arith) in
        record {
          front = rw (e, run-first, append_assoc moved left (drop (end - to) (drop to s)), ← append_assoc (take to s) moved (left ++ drop (end - to) (drop to s)))
              (take_at (take to s ++ moved) (left ++ drop (end - to) (drop to s)) (end - (from - to)) size);
          rest = drop_put to end s part (omega arith) fits same_size;
          within = omega arith;
        }

-- ---- one key more

-- a run with the key after it
grown : (s : Bytes) (from end next : ℕ) → from ≤ end → end ≤ next → take (next - from) (drop from s) ≡ take (end - from) (drop from s) ++ take (next - end) (drop end s)
grown s from end next more later =
    let size : end - from + (next - end) ≡ next - from = omega arith in
    let at : from + (end - from) ≡ end = omega arith in
    ap (λ (k : ℕ). take k (drop from s)) (sym size) ∙ take-add (end - from) (next - end) (drop from s)
    ∙ ap (λ (t : Bytes). take (end - from) (drop from s) ++ take (next - end) t) (drop-drop (end - from) from s ∙ ap (λ (k : ℕ). drop k s) at)

module _ (dead : Dot → Bool) (s : Bytes) (run : Run) (next : ℕ) (start : run.to ≤ run.from) (more : run.from ≤ run.end) (room : run.end + (suffix_size - 1) ≤ next)
    (dot : Dot) (gone : Bool) (said : dot ≡ key_dot (take (next - run.end) (drop run.end s))) (tested : gone ≡ dead dot) where
  abbrev key : Bytes
  key = take (next - run.end) (drop run.end s)

  is_gone : gone ≡ dead (key_dot key)
  is_gone = tested ∙ ap dead said

  -- the run grows
  pub key-kept : not gone ≡ true → WalksKey dead run next (record { from = run.from; end = next; to = run.to }) s s
  key-kept h = record {
    kept = ap (λ (t : Bytes). take run.to s ++ t) (grown s run.from run.end next more (omega arith))
        ∙ sym (append_assoc (take run.to s) (take (run.end - run.from) (drop run.from s)) key)
        ∙ ap (λ (b : Bool). kept_to run s ++ cond b [] key) (sym (not-true gone h) ∙ is_gone);
    rest = refl;
    ends = refl;
    fits = (start, omega arith, omega arith);
  }

  -- the run has moved, and the next one begins after the key
  pub key-dropped : not gone ≡ false → (s' : Bytes) (to' : ℕ) → MovesRun run to' s s' → WalksKey dead run next (record { from = next; end = next; to = to' }) s s'
  key-dropped h s' to' m =
      let none : next - next ≡ 0 = omega arith in
      record {
        kept = ap (λ (k : ℕ). take to' s' ++ take k (drop next s')) none ∙ append-nil (take to' s') ∙ m.front ∙ sym (append-nil (kept_to run s))
            ∙ ap (λ (b : Bool). kept_to run s ++ cond b [] key) (sym (not-false gone h) ∙ is_gone);
        rest = sym (past s') ∙ ap (drop (next - run.end)) m.rest ∙ past s;
        ends = refl;
        fits = (omega (arith, m.within), omega arith, omega arith);
      }
    where
      past : (t : Bytes) → drop (next - run.end) (drop run.end t) ≡ drop next t
      past t = let at : run.end + (next - run.end) ≡ next = omega arith in drop-drop (next - run.end) run.end t ∙ ap (λ (k : ℕ). drop k t) at
