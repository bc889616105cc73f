-- Writing a key: "answers 5, 6 or 13 as in the table".
use Rattle.std.specs.Prelude.{ℕ, Bool, not, cond, [], ◌∷◌, ◌++◌, ◌≡◌, ltb, eqb, length, drop, Result}
use Rattle.wire.specs.Bytes.{Bytes, put_at}
use Rattle.dots.specs.Answer.{Refusals, first_of, number_of, answer_of, written_of}
use Rattle.dots.specs.declared.Answer.{Answer}
use Rattle.dots.specs.declared.Answer.TheVariants.{BadName, BadDot, OutputShort}
use Rattle.keys.specs.declared.NewKey.{NewKey}
use Rattle.keys.specs.Key.{Key, key_of, names_ok, key_counter_ok, key_bytes}

-- what a key to write says
abbrev pub key_in : NewKey → Key
key_in k = key_of k.kind k.name.now k.label.now k.actor k.counter

-- the refusals, in the table's order; n is the output's length
abbrev pub write_refusals : Key → ℕ → Refusals
write_refusals k n = (not (names_ok k), BadName) ∷ (not (key_counter_ok k), BadDot) ∷ (ltb n (length (key_bytes k)), OutputShort) ∷ []

unfoldable pub write_answer : Key → ℕ → Answer
write_answer k n = first_of (write_refusals k n)

abbrev pub writes : Key → ℕ → Bool
writes k n = eqb (number_of (write_answer k n)) 0

-- k put at the front of out, which becomes out'; r is its length
abbrev pub KeyPut : Key → Bytes → Bytes → ℕ → Type 0
KeyPut k out out' r = (r ≡ length (key_bytes k)) × (out' ≡ put_at out 0 (key_bytes k))

-- what writing k into `out` leaves: the answer, the count and every byte; refused, nothing is written and the count is 0
pub record WroteKey (k : Key) (out out' : Bytes) (r : Result ℕ Answer) : Type 0 where
  pub answered : answer_of r ≡ write_answer k (length out)
  pub counted : written_of r ≡ cond (writes k (length out)) (length (key_bytes k)) 0
  pub bytes : out' ≡ cond (writes k (length out)) (key_bytes k ++ drop (length (key_bytes k)) out) out
