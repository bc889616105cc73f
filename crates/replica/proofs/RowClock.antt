-- The clock of 16 rows keeps the clock's laws, so demand 3 holds of every controller that has it. Assumes nothing.
use mathlib.Core.Path.{◌≡◌, ap, ◌∙◌}
use mathlib.Core.Logic.{◌↔◌, ◌⊎◌}
use mathlib.Core.List.{List}
use Prim.Native.Nat.{ℕ, ◌+◌, ◌≤◌}
use native.Mathlib.Omega.{arith}
use lib.Dec.{T, eqb, eqb→eq}
use lib.ListN.{length-replicate}
use Rattle.wire.specs.Lists.{◌∈◌, SameMembers, sort}
use Rattle.wire.proofs.Tests.{both_ways, pass, fail, holds, T_both}
use Rattle.dots.specs.declared.Dot.{Dot}
use Rattle.dots.specs.Dots.{actor_of, dot_of, compare_dots}
use Rattle.clock.specs.Row.{Row, window_width, seen}
use Rattle.clock.specs.Clock.{zero_row, row_at, unused, sees, join_all, clock_words}
use Rattle.clock.proofs.Rows.{row_eq, seen_low, next-unseen, one_form}
use Rattle.clock.proofs.Clocks.{Formed, row-empty, rows_eq, zero-formed, zero-unseen as zero-row-unseen, join_each-formed, sorted_ready, join-sees}
use Rattle.replica.specs.Clock.{ClockModel, ClockLaws}
use Rattle.replica.specs.Machine.{Controller}
use Rattle.replica.specs.Demand3.{Life, accepted, traffic_of, FollowsTheRule, ReplicasAgree}
use Rattle.replica.specs.Read.{TwoRacks}
use Rattle.replica.specs.Network.{WorkshopsHold}
use Rattle.replica.specs.RowClock.{row_clock}
use Rattle.replica.proofs.Theorems.{traffic-is, follows_the_rule, replicas_agree, two_racks}
use Rattle.replica.proofs.Networks.{workshops_hold}

pub unused-row : (words : List ℕ) (a : ℕ) → T (unused words a) → row_at words a ≡ zero_row
unfolding unused
unused-row words a t = let w = T_both (eqb (row_at words a).base 0) (eqb (row_at words a).window 0) t in row_eq (eqb→eq (row_at words a).base 0 w.0) (eqb→eq (row_at words a).window 0 w.1)

-- nothing is seen of an empty row
pub empty-unseen : {r : Row} → r ≡ zero_row → (n : ℕ) → T (seen r n) → ⊥
empty-unseen e n t = fail (ap (λ (r : Row). seen r n) e ∙ zero-row-unseen n) t

unfoldable pub row_clock_laws : (W : ℕ) → 1 ≤ W → ClockLaws (row_clock W)
unfolding sees join_all
row_clock_laws W w = record {
  WellFormed = Formed W;
  zero-well = record { size = length-replicate {A = ℕ} clock_words 0; rows = λ a. rw (row-empty a) (zero-formed W) };
  zero-unseen = λ d. empty-unseen (row-empty d.actor.number) d.counter.number;
  join-well = λ words ds f t. join_each-formed W words (sort compare_dots ds) (sorted_ready W w words ds f t);
  join-sees = λ words ds f t d. join-sees W w words ds f t d;
  run-seen = λ words f a n h. pass (seen_low (row_at words a.number) (n + 1) (omega arith) (omega arith));
  run_ends = λ words f a t. fail (next-unseen (f.rows a.number)) t;
  unused-unseen = λ words a t. empty-unseen (unused-row words a.number t);
  one_form = λ v w f g same. rows_eq v w f.size g.size (λ a.
      one_form (f.rows a) (g.rows a) (λ e.
      both_ways (seen (row_at v a) e) (seen (row_at w a) e)
      (λ t. holds (seen (row_at w a) e) ((same (dot_of (actor_of a) e)).0 (pass t)))
      (λ t. holds (seen (row_at v a) e) ((same (dot_of (actor_of a) e)).1 (pass t)))));
}

-- any clock: joins that leave the same dots seen are equal
pub join-same : (C : ClockModel) (L : ClockLaws C) (c : C.Clock) (ds ds' : List Dot) → L.WellFormed c → T (C.fits c ds) → T (C.fits c ds')
    → ((d : Dot) → (T (C.sees c d) ⊎ (d ∈ ds)) ↔ (T (C.sees c d) ⊎ (d ∈ ds'))) → C.join_all c ds ≡ C.join_all c ds'
join-same C L c ds ds' w t t' same =
    L.one_form (C.join_all c ds) (C.join_all c ds') (L.join-well c ds w t) (L.join-well c ds' w t')
    (λ d. (λ s. (L.join-sees c ds' w t' d).1 ((same d).0 ((L.join-sees c ds w t d).0 s)), λ s. (L.join-sees c ds w t d).1 ((same d).1 ((L.join-sees c ds' w t' d).0 s))))

-- ---- demand 3, for every controller whose clock is this one

pub controllers_follow : (K : Controller (row_clock window_width)) → FollowsTheRule (row_clock window_width) K
controllers_follow = follows_the_rule (row_clock window_width) (row_clock_laws window_width (omega arith))

pub controllers_agree : (K : Controller (row_clock window_width)) → ReplicasAgree (row_clock window_width) K
controllers_agree = replicas_agree (row_clock window_width) (row_clock_laws window_width (omega arith))

pub controllers_merge : (K : Controller (row_clock window_width)) → TwoRacks (row_clock window_width) K
controllers_merge = two_racks (row_clock window_width) (row_clock_laws window_width (omega arith))

-- the rule's messages are the traffic
pub controllers_exchange : (K : Controller (row_clock window_width)) (c : Life (row_clock window_width) K) → SameMembers (accepted (row_clock window_width) K c) (traffic_of (row_clock window_width) K c)
controllers_exchange = traffic-is (row_clock window_width) (row_clock_laws window_width (omega arith))

pub controllers_hold : (K : Controller (row_clock window_width)) → WorkshopsHold (row_clock window_width) K
controllers_hold = workshops_hold (row_clock window_width) (row_clock_laws window_width (omega arith))
