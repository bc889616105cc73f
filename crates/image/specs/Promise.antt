-- What the two calls promise: one record that equates answer, counts, state and lent buffers with the call's result on bytes.
use Rattle.std.specs.Prelude.{ℕ, ◌≡◌, Result}
use Rattle.wire.specs.Bytes.{Bytes}
use Rattle.calls.specs.declared.SetUp.{SetUp}
use Rattle.calls.specs.Calls as calls
use Rattle.dots.specs.declared.Answer.{Answer}
use Rattle.dots.specs.Answer.{answer_of, written_of}

pub record WritesImage (result : calls.Result) (out : Bytes) (r : Result ℕ Answer) : Type 0 where
  pub answered : answer_of r ≡ result.answer
  pub written_is : written_of r ≡ result.written
  pub out-is : out ≡ result.out

pub record LoadsImage (result : calls.Result) (store : Bytes) (r : SetUp) : Type 0 where
  pub answered : r.answer ≡ result.answer
  pub state-is : r.state ≡ result.state
  pub store_is : store ≡ result.store
