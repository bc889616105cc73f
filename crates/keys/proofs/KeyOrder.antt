-- "Plain byte order of keys equals the order of set name, type, label, actor, counter." Assumes nothing.
use mathlib.Core.Path.{◌≡◌, refl, sym, ap, ◌∙◌}
use mathlib.Core.Bool.{cond}
use mathlib.Core.List.{◌∷◌}
use Prim.Native.Nat.{ℕ, ◌^◌, ◌<◌, compare, Ordering}
use Rattle.wire.specs.Lists.{then, compare_lists}
use Rattle.wire.specs.Bytes.{compare_bytes}
use Rattle.wire.proofs.Orders.{numbers}
use Rattle.wire.proofs.ByteOrder.{compare_ended, compare_big_endian}
use Rattle.keys.specs.declared.KeyKind.{KeyKind}
use Rattle.keys.specs.declared.KeyKind.TheVariants.{ClockKey, TombstoneKey, LabelKey, EndKey}
use Rattle.keys.specs.Key.{Key, type_byte, has_label, has_actor, after_type, key_bytes, compare_keys}
use Rattle.keys.specs.Parts.{actor_counter}
use Rattle.keys.specs.Tests.{kind_of}
use Rattle.keys.proofs.Valid.{ValidKey, name-nonzero, label-nonzero, actor-kept, counter-kept, counter-fits}
use Rattle.keys.proofs.RoundTrip.{kind-type}

-- after the labels, of one type
pub tail-order : (t : KeyKind) (a b c d : ℕ) → c < 256 ^ 8 → d < 256 ^ 8
    → compare_bytes (actor_counter t a c) (actor_counter t b d) ≡ then (compare (cond (has_actor t) a 0) (cond (has_actor t) b 0)) (compare (cond (has_label t) c 0) (cond (has_label t) d 0))
unfolding compare_lists
tail-order ClockKey a b c d h k = refl
tail-order TombstoneKey a b c d h k = refl
tail-order LabelKey a b c d h k = ap (then (compare a b)) (compare_big_endian 8 c d h k)
tail-order EndKey a b c d h k = refl

-- what breaks ties matters at a tie only
tied : (o p q : Ordering) → (o ≡ Ordering.eq → p ≡ q) → then o p ≡ then o q
tied Ordering.lt p q f = refl
tied Ordering.eq p q f = f refl
tied Ordering.gt p q f = refl

module _ (k j : Key) (valid : ValidKey k) (valid' : ValidKey j) where
  tails : k.kind ≡ j.kind → compare_bytes (actor_counter k.kind k.actor k.counter) (actor_counter j.kind j.actor j.counter) ≡ then (compare k.actor j.actor) (compare k.counter j.counter)
  tails e =
      let actors : cond (has_actor k.kind) j.actor 0 ≡ j.actor = rw e (actor-kept j valid') in
      let counters : cond (has_label k.kind) j.counter 0 ≡ j.counter = rw e (counter-kept j valid') in
      rw (← e, tail-order k.kind k.actor j.actor k.counter j.counter (counter-fits k valid) (counter-fits j valid'), actor-kept k valid, counter-kept k valid, actors, counters)

  pub key-order : compare_bytes (key_bytes k) (key_bytes j) ≡ compare_keys k j
  unfolding key_bytes after_type compare_lists
  key-order =
      compare_ended k.name j.name (type_byte k.kind ∷ after_type k) (type_byte j.kind ∷ after_type j) (name-nonzero k valid) (name-nonzero j valid')
      ∙ ap (then (compare_bytes k.name j.name)) (tied (compare (type_byte k.kind) (type_byte j.kind)) (compare_bytes (after_type k) (after_type j)) _ after)
    where
      after : compare (type_byte k.kind) (type_byte j.kind) ≡ Ordering.eq
          → compare_bytes (after_type k) (after_type j) ≡ then (compare_bytes k.label j.label) (then (compare k.actor j.actor) (compare k.counter j.counter))
      after e =
          compare_ended k.label j.label (actor_counter k.kind k.actor k.counter) (actor_counter j.kind j.actor j.counter) (label-nonzero k valid) (label-nonzero j valid')
          ∙ ap (then (compare_bytes k.label j.label)) (tails (sym (kind-type k.kind) ∙ ap kind_of (numbers.tie (type_byte k.kind) (type_byte j.kind) e) ∙ kind-type j.kind))
