-- What lies behind a reference that is lent to a function, before it and after it.
use Rattle.std.specs.Borrow.{Bor}
use denote.Triple.Both.{Both}

abbrev pub Loan : Type 0 → Type 0
Loan A = Both (Bor A) (Bor A)

abbrev pub before : {A : Type 0} → Loan A → A
before x = x.entry.now

abbrev pub after : {A : Type 0} → Loan A → A
after x = x.exit.now
