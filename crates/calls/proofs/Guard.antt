-- What the refusals let through is what the machine allows. Assumes nothing.
use Prim.Native.Nat.{ℕ, ◌+◌, ◌≤◌}
use mathlib.Core.Path.{◌≡◌, refl, sym, ap, ◌∙◌}
use mathlib.Core.Bool.{Bool, true, false, not}
use mathlib.Core.List.{List, ◌++◌}
use native.Mathlib.Omega.{arith}
use lib.Dec.{T, leb}
use borrow.Author.Tests.{leb-true, le-leb, eqb-false}
use Rattle.wire.specs.Lists.{◌∈◌, keep, any, all, member}
use Rattle.wire.specs.Bytes.{Bytes}
use Rattle.wire.proofs.Tests.{pass, fail, T_and}
use Rattle.wire.proofs.Lists.{keep-member, member-keep, any-member, all-member}
use Rattle.dots.specs.declared.Dot.{Dot}
use Rattle.dots.specs.Names.{Label, label_ok}
use Rattle.dots.specs.Dots.{Context, dot_of, max_counter, dot_ok, compare_dots}
use Rattle.dots.specs.Entries.{Entry, entry}
use Rattle.dots.proofs.Orders.{actors}
use Rattle.dots.proofs.Rules.{valid}
use Rattle.clock.specs.Row.{window_width, seen}
use Rattle.clock.specs.Clock.{row_at, sees, rows_ok, near}
use Rattle.clock.proofs.Rows.{seen_low, next-unseen as row-next-unseen}
use Rattle.clock.proofs.Clocks.{near-unseen, rows-well}
use Rattle.keys.specs.Entry.{entry_ok}
use Rattle.replica.specs.Machine.{unseen, joining, next_dot, own_base, above_own_base, may_apply, may_add}
use Rattle.calls.specs.declared.State.{State}
use Rattle.calls.specs.State.{clock_model, Machine, view}
use Rattle.calls.specs.Refusals.{counter_end}
use Rattle.calls.proofs.Validity.{all-kept}
use Rattle.calls.proofs.Clauses.{Undamaged, rows_ok_lem}

pub entry-ok : (label : Label) (d : Dot) → label_ok label ≡ true → dot_ok d ≡ true → entry_ok (entry label d) ≡ true
unfolding entry_ok
entry-ok label d text ok = rw (text, ok)

-- the dot that an own add takes keeps its rule, refusal 9 aside
pub next-ok : (st : State) (store : Bytes) → Undamaged st store → counter_end st store ≡ false → dot_ok (next_dot clock_model (view st store)) ≡ true
unfolding view dot_ok
next-ok st store u h =
    let small : (row_at st.clock.words st.actor.number).base ≤ max_counter = (rows-well window_width st.clock.words (rows_ok_lem st store u) st.actor.number).small in
    let other = eqb-false (row_at st.clock.words st.actor.number).base max_counter h in
    rw (u.actor, le-leb 1 ((row_at st.clock.words st.actor.number).base + 1) (omega arith), le-leb ((row_at st.clock.words st.actor.number).base + 1) max_counter (omega arith))

-- and is not seen
pub next-unseen : (st : State) (store : Bytes) → Undamaged st store → sees st.clock.words (next_dot clock_model (view st store)) ≡ false
unfolding view sees
next-unseen st store u = row-next-unseen (rows-well window_width st.clock.words (rows_ok_lem st store u) st.actor.number)

-- Refusals 6 and 10: what joins the clock is the unseen ones of the dots offered, and fits it.
pub may-join : (m : Machine) (offered : List Dot) → rows_ok window_width m.clock ≡ true → all dot_ok offered ≡ true → near window_width m.clock offered ≡ true
    → T (clock_model.fits m.clock (keep (unseen clock_model m) offered))
may-join m offered rows ok close =
    let joined : List Dot = keep (unseen clock_model m) offered in
    let same = near-unseen window_width m.clock offered joined rows (λ d s k. member-keep (unseen clock_model m) offered k (pass (ap not s))) (λ d s k. (keep-member (unseen clock_model m) offered k).0) in
    T_and (all dot_ok joined) (near window_width m.clock joined) (pass (all-kept dot_ok (unseen clock_model m) offered ok)) (pass (sym same ∙ close))

module _ (m : Machine) (fresh : List Entry) (context : Context) where
  -- and no own dot is above the own base (8)
  pub may-apply : (others : List Dot) → T (clock_model.fits m.clock (joining clock_model m fresh context)) → any (above_own_base clock_model m) (others ++ context) ≡ false
      → T (may_apply clock_model m fresh others context)
  may-apply others fits ahead =
      T_and (clock_model.fits m.clock (joining clock_model m fresh context)) (not (any (above_own_base clock_model m) (others ++ context))) fits (pass (ap not ahead))

  -- and an add's context has not its own dot (6)
  pub may_add_lem : (d : Dot) (others : List Dot) → T (may_apply clock_model m fresh others context) → member compare_dots d context ≡ false → T (may_add clock_model m fresh d others context)
  may_add_lem d others applies own = T_and (may_apply clock_model m fresh others context) (not (member compare_dots d context)) applies (pass (ap not own))

-- an own dot that refusal 8 lets through is seen
pub own-seen : (m : Machine) (offered : List Dot) → any (above_own_base clock_model m) offered ≡ false → all dot_ok offered ≡ true → (n : ℕ) → dot_of m.actor n ∈ offered
    → sees m.clock (dot_of m.actor n) ≡ true
unfolding sees
own-seen m offered ahead ok n k =
    let low : 1 ≤ n = (valid (dot_of m.actor n) (all-member dot_ok offered ok (dot_of m.actor n) k)).counter-low in
    by (leb n (own_base clock_model m)) refl low
  where
    by : (b : Bool) → leb n (own_base clock_model m) ≡ b → 1 ≤ n → seen (row_at m.clock m.actor.number) n ≡ true
    by true e low = seen_low (row_at m.clock m.actor.number) n low (leb-true n (own_base clock_model m) e)
    by false e low =
        let above : above_own_base clock_model m (dot_of m.actor n) ≡ true = rw (e, actors.self m.actor) in
        absurd (fail ahead (any-member (above_own_base clock_model m) offered k (pass above)))
