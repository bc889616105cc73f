-- The dots and entries that a call's effect leaves keep their rules. Assumes nothing.
use mathlib.Core.Path.{◌≡◌, refl}
use mathlib.Core.Logic.{⊎_elim}
use mathlib.Core.Bool.{Bool, true}
use mathlib.Core.List.{List}
use Rattle.wire.specs.Lists.{keep, all}
use Rattle.wire.proofs.Lists.{keep-member, all-member, member-all, insert_all-member}
use Rattle.dots.specs.Dots.{Context, compare_dots, dot_ok}
use Rattle.dots.specs.Entries.{Entry, compare_entries}
use Rattle.dots.proofs.Orders.{dots, entries}
use Rattle.keys.specs.Entry.{entry_ok}
use Rattle.replica.specs.Machine.{seen, live, apply, compacted}
use Rattle.calls.specs.State.{clock_model, Machine}

pub all-kept : {A : Type 0} (p q : A → Bool) (xs : List A) → all p xs ≡ true → all p (keep q xs) ≡ true
all-kept p q xs h = member-all p (keep q xs) (λ x k. all-member p xs h x (keep-member q xs k).0)

-- a machine's dots and entries keep their rules
pub record Rules (m : Machine) : Type 0 where
  pub tombstone : all dot_ok m.tombstone ≡ true
  pub keys : all entry_ok m.keys ≡ true

module _ (m : Machine) (rules : Rules m) where
  pub apply-rules : (fresh : List Entry) (context : Context) → all entry_ok fresh ≡ true → all dot_ok context ≡ true → Rules (apply clock_model m fresh context)
  unfolding apply
  apply-rules fresh context f c = record {
    tombstone = member-all dot_ok _ (λ d k. ⊎_elim
        (all-member dot_ok (keep (seen clock_model m) context) (all-kept dot_ok (seen clock_model m) context c) d)
        (all-member dot_ok m.tombstone rules.tombstone d)
        (insert_all-member compare_dots dots (keep (seen clock_model m) context) m.tombstone k));
    keys = member-all entry_ok _ (λ e k. ⊎_elim
        (all-member entry_ok fresh f e)
        (all-member entry_ok m.keys rules.keys e)
        (insert_all-member compare_entries entries fresh m.keys k));
  }

  pub compacted-rules : Rules (compacted clock_model m)
  unfolding compacted all
  compacted-rules = record { tombstone = refl; keys = all-kept entry_ok (live clock_model m) m.keys rules.keys }
