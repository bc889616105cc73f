-- Compaction of keys is compaction of the entries that they are keys of, for any test of what is dropped. Assumes nothing.
use mathlib.Core.Path.{◌≡◌, refl, ap, ◌∙◌}
use mathlib.Core.Bool.{Bool, true, false, not}
use mathlib.Core.List.{List, [], ◌∷◌, map}
use lib.ListN.{length}
use Rattle.wire.specs.Lists.{cons_if, keep, all}
use Rattle.wire.specs.Bytes.{Bytes}
use Rattle.wire.proofs.Tests.{both_left, both_right}
use Rattle.dots.specs.declared.Dot.{Dot}
use Rattle.dots.specs.Names.{Name}
use Rattle.dots.specs.Entries.{Entry}
use Rattle.keys.specs.Entry.{entry_ok, entry_key}
use Rattle.store.specs.Cut.{end_to_end, store_bytes, keys_of}
use Rattle.store.proofs.KeySays.{dot_said}
use Rattle.compaction.specs.Compaction.{kept_keys, kept_bytes}

module _ (dead : Dot → Bool) (name : Name) where
  abbrev stays : Entry → Bool
  stays e = not (dead e.dot)

  kept-keys : (es : List Entry) → all entry_ok es ≡ true → kept_keys dead (map (entry_key name) es) ≡ map (entry_key name) (keep stays es)
  unfolding keep all
  kept-keys [] ok = refl
  kept-keys (e ∷ es) ok =
      rw (dot_said name e (both_left (entry_ok e) (all entry_ok es) ok), kept-keys es (both_right (entry_ok e) (all entry_ok es) ok)) (step (stays e))
    where
      step : (b : Bool) → cons_if b (entry_key name e) (map (entry_key name) (keep stays es)) ≡ map (entry_key name) (cons_if b e (keep stays es))
      step true = refl
      step false = refl

  -- the bytes of the keys kept are the store bytes of the entries kept
  pub kept-bytes : (s : Bytes) (es : List Entry) → all entry_ok es ≡ true → keys_of (length name) s ≡ map (entry_key name) es → kept_bytes dead (length name) s ≡ store_bytes name (keep stays es)
  unfolding store_bytes
  kept-bytes s es ok keys = ap (λ (ks : List Bytes). end_to_end (kept_keys dead ks)) keys ∙ ap end_to_end (kept-keys es ok)
