-- "When a controller says no": the table of answers, and a call's refusals in its order.
use Rattle.std.specs.Prelude.{ℕ, Bool, false, cond, List, [], ◌∷◌, ◌≡◌, eqb, Result, Ok, Err, MatchResult}
use Rattle.dots.specs.declared.Answer.{Answer}
use Rattle.dots.specs.declared.Answer.TheVariants.{Done, Damaged, NoMark, BadVersion, BadShape, BadName, BadDot, OtherSet, OwnAhead, CounterEnd, TooFar, TombstoneFull, StoreFull, OutputShort, BadChecksum, ActorTaken}

-- the number that the table gives each answer
abbrev pub number_of : Answer → ℕ
number_of Done = 0
number_of Damaged = 1
number_of NoMark = 2
number_of BadVersion = 3
number_of BadShape = 4
number_of BadName = 5
number_of BadDot = 6
number_of OtherSet = 7
number_of OwnAhead = 8
number_of CounterEnd = 9
number_of TooFar = 10
number_of TombstoneFull = 11
number_of StoreFull = 12
number_of OutputShort = 13
-- document 02, request 7
number_of BadChecksum = 14
number_of ActorTaken = 15

-- a table of refusals: tests with their answers, in document 01's order
abbrev pub Refusals : Type 0
Refusals = List (Bool × Answer)

-- the first refusal that holds, else done
abbrev pub first_of : Refusals → Answer
first_of [] = Done
first_of (r ∷ rs) = cond r.0 r.1 (first_of rs)

-- the answer of a result: done where there is a value, else the refusal
abbrev pub answer_of : {A : Type 0} → Result A Answer → Answer
answer_of (Ok x) = Done
answer_of (Err a) = a

-- how many bytes a result says were put out: none where it is refused
abbrev pub written_of : Result ℕ Answer → ℕ
written_of (Ok n) = n
written_of (Err a) = 0

-- r is a value where the answer a is done, and the refusal a where it is none
abbrev pub Answered : {A : Type 0} → Answer → Result A Answer → Type 0
Answered a r = MatchResult r (λ _. a ≡ Done) (λ e. (a ≡ e) × (eqb (number_of a) 0 ≡ false))
