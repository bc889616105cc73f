-- What the calls that apply a context share: their tables of refusals as the code groups them, and what the first refusals leave to go on with. Assumes nothing.
use Prim.Native.Nat.{ℕ, ◌*◌, ◌/◌, ◌%◌, ◌≤◌}
use mathlib.Core.Path.{◌≡◌, refl, sym, ap, ◌∙◌, subst}
use mathlib.Core.Bool.{Bool, true, false, cond, ◌&&◌}
use mathlib.Core.List.{List, [], ◌∷◌, ◌++◌}
use native.Mathlib.Omega.{arith}
use lib.Dec.{eqb}
use lib.ListN.{length, get_or}
use mir.Val.{Fits}
use mir.Syntax.{w8}
use borrow.Author.Tests.{eqb-true, eq-eqb, ne_eqb, leb-true, not-false}
use Rattle.wire.specs.Lists.{member}
use Rattle.wire.specs.Bytes.{Bytes}
use Rattle.wire.proofs.Tests.{both, neither}
use Rattle.dots.specs.declared.Answer.{Answer}
use Rattle.dots.specs.declared.Dot.{Dot}
use Rattle.dots.specs.Answer.{number_of, Refusals, first_of}
use Rattle.dots.specs.Names.{name_ok, label_most, text_ok, label_ok, name_most}
use Rattle.dots.specs.Dots.{dot_ok, compare_dots, ascending_dots, context_ok, context_most, tombstone_most}
use Rattle.dots.specs.Wire.{whole_dots, dots_of, dot_size}
use Rattle.dots.proofs.Table.{Refuses, NoneHolds, none-holds}
use Rattle.dots.proofs.Loops.{length-dots_at}
use Rattle.clock.specs.Row.{window_width}
use Rattle.clock.specs.Clock.{rows_ok, clock_ok}
use Rattle.clock.specs.Reach.{Offer, OfferWith}
use Rattle.calls.specs.declared.State.{State}
use Rattle.calls.specs.declared.Tombstone.{Tombstone}
use Rattle.calls.specs.declared.Outcome.{Outcome}
use Rattle.calls.specs.State.{name_of, tombstone_dots, Sized}
use Rattle.calls.specs.Damage.{zero_from, state_name_ok, tombstone_ok, damaged}
use Rattle.calls.specs.Refusals.{bad_context}
use Rattle.calls.specs.Calls.{Result, refused, decided}
use Rattle.calls.specs.Promise.{Leaves}
use Rattle.steps.specs.Tests.{state_with, Tombstoned, Padded, ContextFits}
use Rattle.judging.specs.Judging.{state_ok}
use Rattle.judging.proofs.DamageTest.{damaged-is}
use Rattle.steps.proofs.Performed.{tombstone-padded}

-- ---- two tables in a row

table-stops : (rs late : Refusals) → (number_of (first_of rs) ≡ 0 → ⊥) → first_of rs ≡ first_of (rs ++ late)
table-stops [] late t = absurd (t refl)
table-stops (r ∷ rs) late t = by r.0 t (table-stops rs late)
  where
    by : (b : Bool) → (number_of (cond b r.1 (first_of rs)) ≡ 0 → ⊥) → ((number_of (first_of rs) ≡ 0 → ⊥) → first_of rs ≡ first_of (rs ++ late))
        → cond b r.1 (first_of rs) ≡ cond b r.1 (first_of (rs ++ late))
    by true t ih = refl
    by false t ih = ih t

table-passes : (rs late : Refusals) → NoneHolds rs → first_of (rs ++ late) ≡ first_of late
table-passes [] late n = refl
table-passes (r ∷ rs) late n = rw n.0 (table-passes rs late n.1)

-- r is the answer of the first table, and k its number
module _ (rs : Refusals) (r : Answer) (k : ℕ) (answered : r ≡ first_of rs) (numbered : k ≡ number_of r) where
  pub stops : (late : Refusals) → (k ≡ 0 → ⊥) → r ≡ first_of (rs ++ late)
  stops late t = answered ∙ table-stops rs late (λ z. t (numbered ∙ ap number_of answered ∙ z))

  pub none_of : Refuses rs → k ≡ 0 → NoneHolds rs
  none_of n z = none-holds rs n (sym (numbered ∙ ap number_of answered) ∙ z)

  pub passes : (late : Refusals) (q : Answer) → Refuses rs → k ≡ 0 → q ≡ first_of late → q ≡ first_of (rs ++ late)
  passes late q n z h = h ∙ sym (table-passes rs late (none_of n z))

-- ---- what a call leaves

module _ (st : State) (store out : Bytes) (rs : Refusals) (done : Result) (a : Answer) (k : ℕ) (answered : a ≡ first_of rs) (numbered : k ≡ number_of a) where
  pub leaves_refused : (k ≡ 0 → ⊥) → Leaves (decided st store out rs done) store out (record { answer = a; state = st; written = 0 })
  leaves_refused h =
      let no : eqb (number_of (first_of rs)) 0 ≡ false = ne_eqb (number_of (first_of rs)) 0 (λ e. h (numbered ∙ ap number_of answered ∙ e)) in
      let whole : decided st store out rs done ≡ refused st store out (first_of rs) = ap (λ (b : Bool). cond b done (refused st store out (first_of rs))) no in
      subst (λ (x : Result). Leaves x store out (record { answer = a; state = st; written = 0 })) (sym whole)
      (record { answered = answered; state-is = refl; written_is = refl; store_is = refl; out-is = refl })

  pub leaves_done : k ≡ 0 → (store' out' : Bytes) (r : Outcome) → Leaves done store' out' r → Leaves (decided st store out rs done) store' out' r
  leaves_done h store' out' r left =
      let yes : eqb (number_of (first_of rs)) 0 ≡ true = eq-eqb (number_of (first_of rs)) 0 (sym (numbered ∙ ap number_of answered) ∙ h) in
      let whole : decided st store out rs done ≡ done = ap (λ (b : Bool). cond b done (refused st store out (first_of rs))) yes in
      subst (λ (x : Result). Leaves x store' out' r) (sym whole) left

pub with-parts : (st : State) (words words' : List ℕ) (t t' : Tombstone) (used : ℕ) (r : State) → words ≡ words' → t ≡ t' → r ≡ state_with st words t used → r ≡ state_with st words' t' used
with-parts st words words' t t' used r e f g = g ∙ rw (e, f)

-- ---- what the first refusals leave

pub state-kept : (st : State) (store : Bytes) → damaged st store ≡ false → state_ok st ≡ true
state-kept st store h = let whole = sym (damaged-is st store) ∙ h in not-false (state_ok st) (search neither)

pub dots_many : (s : Bytes) → length (dots_of s) ≡ length s / dot_size
unfolding dots_of
dots_many s = length-dots_at (length s / dot_size) s 0

pub context-fits : (context : Bytes) → bad_context context ≡ false → ContextFits context
context-fits context h =
    let rule : (whole_dots context && context_ok (dots_of context)) ≡ true = not-false _ h in
    let few : length (dots_of context) ≤ context_most = leb-true _ _ (search both) in
    let whole : length context % dot_size ≡ 0 = eqb-true _ 0 (search both) in
    let many = dots_many context in
    record { whole = whole; short = omega arith; ascends = search both }

-- what an undamaged state keeps, whatever its store is
pub record Kept (st : State) : Type 0 where
  pub named : name_ok (name_of st) ≡ true
  pub short : st.name.len ≤ name_most
  pub rows : rows_ok window_width st.clock.words ≡ true
  pub few : st.tombstone.count ≤ tombstone_most
  pub ascends : ascending_dots (tombstone_dots st) ≡ true
  pub zeros : zero_from (st.tombstone.count * dot_size) st.tombstone.bytes ≡ true

pub kept : (st : State) → state_ok st ≡ true → Kept st
unfolding state_ok state_name_ok tombstone_ok clock_ok
kept st h = record {
  named = search both;
  short = leb-true st.name.len name_most (search both);
  rows = search both;
  few = leb-true st.tombstone.count tombstone_most (search both);
  ascends = search both;
  zeros = search both;
}

module _ (st : State) (k : Kept st) where
  pub tombstoned : Sized st → Tombstoned st.tombstone.bytes st.tombstone.count
  tombstoned sized = record { size = sized.tombstone-size; few = k.few; ascends = k.ascends }

  pub padded-tombstone : Sized st → ((j : ℕ) → Fits w8 (get_or st.tombstone.bytes j 0)) → Padded st.tombstone.bytes st.tombstone.count
  padded-tombstone sized small = tombstone-padded st.tombstone.bytes st.tombstone.count small sized.tombstone-size k.few k.ascends k.zeros

  pub offer : (context : Bytes) → ContextFits context → Offer window_width st.clock.words (dots_of context)
  offer context f = record { rows = k.rows; ascends = f.ascends }

  -- the same with one dot more
  pub offer-with : (context : Bytes) (d : Dot) → ContextFits context → dot_ok d ≡ true → member compare_dots d (dots_of context) ≡ false → OfferWith window_width st.clock.words context d
  offer-with context d f ok new = record { rows = k.rows; ascends = f.ascends; ok = ok; new = new }

-- the numbers that the later refusals add up are small
pub label-short : (label : Bytes) → label_ok label ≡ true → length label ≤ label_most
unfolding text_ok
label-short label ok = leb-true _ _ (search both)
