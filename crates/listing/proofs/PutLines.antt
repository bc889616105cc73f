-- The bytes of a line, put one part after the other: a walk over keys of one length puts their listed dots. Assumes nothing.
use mathlib.Core.Path.{◌≡◌, refl, sym, ap, ◌∙◌}
use mathlib.Core.Bool.{Bool, true, false, not}
use mathlib.Core.List.{List, [], ◌∷◌, ◌++◌, append_assoc, append-nil}
use Prim.Native.Nat.{ℕ, ◌+◌, ◌-◌, ◌*◌, ◌≤◌, ◌<◌}
use native.Mathlib.Omega.{arith}
use lib.Dec.{leb, eqb}
use lib.ListN.{length, take, drop, length-append, length-drop, drop_of_length-le}
use lib.Seq.{take_at, drop_at, drop-drop}
use borrow.Author.Tests.{leb-true, leb-false, eqb-true}
use Rattle.std.specs.Prelude.{Option}
use Rattle.std.specs.Bool.{then_some}
use Rattle.wire.specs.Lists.{cons_if, keep, all}
use Rattle.wire.specs.Bytes.{Bytes, put_at}
use Rattle.wire.proofs.BigEndian.{length-big_endian}
use Rattle.wire.proofs.Fields.{put_next, put_front, part_length}
use Rattle.wire.proofs.Parts.{rest_part, size-part}
use Rattle.dots.specs.declared.Dot.{Dot}
use Rattle.dots.specs.Names.{Label, label_most}
use Rattle.dots.specs.Wire.{dots_of, dot_bytes, dots_bytes, dot_size}
use Rattle.dots.proofs.RoundTrip.{length-dots, dots-append}
use Rattle.keys.specs.Key.{prefix_fixed, suffix_size}
use Rattle.store.specs.Cut.{key_length, keys_of, key_dot, entries_in}
use Rattle.store.proofs.Walk.{first_key_lem, key-size, end-within, every_here, every_later}
use Rattle.slots.specs.declared.SlottedDots.{SlottedDots}
use Rattle.listing.specs.declared.ListedLine.{ListedLine}
use Rattle.listing.specs.Listing.{is_live, line_fixed, line_bytes, line_size}
use Rattle.listing.specs.Lines.{label_of, dots_in, listed_dots, listed_by, FirstLine, line_head, line_of}
use Rattle.listing.proofs.Listings.{length-line}
use Rattle.listing.proofs.ListedKeys.{no_entries}

-- ---- the dots of keys of one length

-- each of the keys has `size` bytes
abbrev pub EachSized : ℕ → ℕ → Bytes → Type 0
EachSized n size keys = all (λ (k : Bytes). eqb (length k) size) (keys_of n keys) ≡ true

-- the dots of keys that pass a test
abbrev pub kept_dots : ℕ → Bytes → (Dot → Bool) → List Dot
kept_dots n keys p = keep p (dots_in n keys)

-- keys are left, each of `size` bytes
module _ (n size : ℕ) (keys : Bytes) (at : ℕ) (more : at < length keys) (every : EachSized n size (drop at keys)) where
  size-read : size ≡ key_length n (take (length keys - at) (drop at keys))
  size-read =
      let len : ℕ = key_length n (take (length keys - at) (drop at keys)) in
      let here : length (take (at + len - at) (drop at keys)) ≡ size = eqb-true (length (take (at + len - at) (drop at keys))) size (every_here n keys at len more refl (λ (k : Bytes). eqb (length k) size) every) in
      sym here ∙ rw size-part (key-size n keys at len more refl)

  size-within : at + size ≤ length keys
  size-within = end-within n keys at size more size-read

  sized-later : EachSized n size (drop (at + size) keys)
  sized-later = every_later n keys at size more size-read (λ (k : Bytes). eqb (length k) size) every

  kept_step : (p : Dot → Bool) (dot : Dot) → dot ≡ key_dot (take (at + size - at) (drop at keys))
      → kept_dots n (drop at keys) p ≡ cons_if (p dot) dot (kept_dots n (drop (at + size) keys) p)
  unfolding keep entries_in
  kept_step p dot said = rw (first_key_lem n keys at size more size-read, said, size-part)

-- the dots that are put, and those of the keys from `at` on
pub record DotsWalk (n : ℕ) (keys : Bytes) (p : Dot → Bool) (size : ℕ) (out₀ out : Bytes) (next at : ℕ) : Type 0 where
  pub done : List Dot
  pub within : at ≤ length keys
  pub sized : EachSized n size (drop at keys)
  pub dots_are : done ++ kept_dots n (drop at keys) p ≡ kept_dots n keys p
  pub put_are : out ≡ put_at out₀ 0 (dots_bytes done)
  pub next-is : next ≡ dot_size * length done
  pub same_size : length out ≡ length out₀

module _ (n : ℕ) (keys : Bytes) (p : Dot → Bool) (size : ℕ) (out₀ : Bytes) where
  walk_start : EachSized n size keys → DotsWalk n keys p size out₀ out₀ 0 0
  unfolding dots_bytes
  walk_start every = record { done = []; within = omega arith; sized = every; dots_are = refl; put_are = sym (put_front out₀ []); next-is = refl; same_size = refl }

  module _ (out : Bytes) (next at : ℕ) (w : DotsWalk n keys p size out₀ out next at) where
    walk_end : length keys ≤ at → out ≡ put_at out₀ 0 (dots_bytes (kept_dots n keys p))
    unfolding keep
    walk_end h =
        let all_done : w.done ≡ kept_dots n keys p = sym (append-nil w.done) ∙ rw (no_entries n keys at h) at w.dots_are in
        w.put_are ∙ ap (λ (ds : List Dot). put_at out₀ 0 (dots_bytes ds)) all_done

    -- the key at `at`
    module _ (more : at < length keys) (dot : Dot) (said : dot ≡ key_dot (take (at + size - at) (drop at keys))) where
      walk-past : p dot ≡ false → DotsWalk n keys p size out₀ out next (at + size)
      walk-past f = record {
        done = w.done;
        within = size-within n size keys at more w.sized;
        sized = sized-later n size keys at more w.sized;
        dots_are = rw (kept_step n size keys at more w.sized p dot said, f) at w.dots_are;
        put_are = w.put_are;
        next-is = w.next-is;
        same_size = w.same_size;
      }

      module _ (kept : p dot ≡ true) (room : dot_size * length (kept_dots n keys p) ≤ length out₀) where
        more-dots : (w.done ++ (dot ∷ [])) ++ kept_dots n (drop (at + size) keys) p ≡ kept_dots n keys p
        more-dots = rw append_assoc (rw (kept_step n size keys at more w.sized p dot said, kept) at w.dots_are)

        more-length : length (w.done ++ (dot ∷ [])) ≡ length w.done + 1
        more-length = length-append w.done (dot ∷ [])

        room_next : next + dot_size ≤ length out
        room_next =
            let count : length (w.done ++ (dot ∷ [])) + length (kept_dots n (drop (at + size) keys) p) ≡ length (kept_dots n keys p) =
            sym (length-append (w.done ++ (dot ∷ [])) (kept_dots n (drop (at + size) keys) p)) ∙ ap length more-dots in
            omega (arith, w.next-is, w.same_size, more-length, count)

        walk_put : (out' : Bytes) (next' : ℕ) → next' ≡ next + dot_size → out' ≡ put_at out next (dot_bytes dot) → length out' ≡ length out → DotsWalk n keys p size out₀ out' next' (at + size)
        unfolding dots_bytes
        walk_put out' next' e put same = record {
          done = w.done ++ (dot ∷ []);
          within = size-within n size keys at more w.sized;
          sized = sized-later n size keys at more w.sized;
          dots_are = more-dots;
          put_are =
              put_next out₀ out out' (dots_bytes w.done) (dot_bytes dot) 0 next w.put_are (omega (arith, w.next-is, length-dots w.done)) put (omega (arith, room_next, w.same_size))
              ∙ ap (put_at out₀ 0) (rw (dots-append, append-nil));
          next-is = omega (arith, w.next-is, more-length);
          same_size = same ∙ w.same_size;
        }

-- a walk by chunks: those that are left are the keys from a place on
pub record ChunksWalk (n : ℕ) (keys : Bytes) (p : Dot → Bool) (size : ℕ) (out₀ out : Bytes) (next : ℕ) (rest : Bytes) (chunk : ℕ) : Type 0 where
  pub place : ℕ
  pub walk : DotsWalk n keys p size out₀ out next place
  pub left : rest ≡ drop place keys
  pub chunk-is : chunk ≡ size

pub chunks_start : (n : ℕ) (keys : Bytes) (p : Dot → Bool) (size : ℕ) (out₀ : Bytes) → EachSized n size keys → (rest : Bytes) (chunk : ℕ) → rest ≡ keys → chunk ≡ size
    → ChunksWalk n keys p size out₀ out₀ 0 rest chunk
chunks_start n keys p size out₀ every rest chunk e f = record { place = 0; walk = walk_start n keys p size out₀ every; left = e; chunk-is = f }

module _ (n : ℕ) (keys : Bytes) (p : Dot → Bool) (size : ℕ) (out₀ out : Bytes) (next : ℕ) (rest : Bytes) (chunk : ℕ) (w : ChunksWalk n keys p size out₀ out next rest chunk) where
  no_more : length rest < chunk → length keys ≤ w.place
  no_more h = go (leb (length keys) w.place) refl
    where
      go : (b : Bool) → leb (length keys) w.place ≡ b → length keys ≤ w.place
      go true t = leb-true (length keys) w.place t
      go false f =
          let more : w.place < length keys = leb-false (length keys) w.place f in
          absurd (omega (arith, size-within n size keys w.place more w.walk.sized, w.chunk-is, ap length w.left, length-drop w.place keys))

  pub chunks_end : length rest < chunk → out ≡ put_at out₀ 0 (dots_bytes (kept_dots n keys p))
  chunks_end h = walk_end n keys p size out₀ out next w.place w.walk (no_more h)

  -- the next of them
  module _ (some : 0 < size) (key rest' : Bytes) (cut : rest ≡ key ++ rest') (long : length key ≡ chunk) where
    more : w.place < length keys
    more = omega (arith, w.chunk-is, ap length cut, length-append key rest', ap length w.left, length-drop w.place keys)

    key-is : key ≡ take (w.place + size - w.place) (drop w.place keys)
    key-is = rw size-part (sym (ap (take size) (sym w.left ∙ cut) ∙ take_at key rest' size (long ∙ w.chunk-is)))

    rest-is : rest' ≡ drop (w.place + size) keys
    rest-is = sym (sym (drop-drop size w.place keys) ∙ ap (drop size) (sym w.left ∙ cut) ∙ drop_at key rest' size (long ∙ w.chunk-is))

    pub key-long : suffix_size - 1 ≤ size → suffix_size - 1 ≤ length key
    key-long h = omega (arith, long, w.chunk-is)

    module _ (dot : Dot) (said : dot ≡ key_dot key) where
      pub chunk_past : p dot ≡ false → (chunk' : ℕ) → chunk' ≡ chunk → ChunksWalk n keys p size out₀ out next rest' chunk'
      chunk_past f chunk' e = record {
        place = w.place + size;
        walk = walk-past n keys p size out₀ out next w.place w.walk more dot (said ∙ ap key_dot key-is) f;
        left = rest-is;
        chunk-is = e ∙ w.chunk-is;
      }

      module _ (kept : p dot ≡ true) (room : dot_size * length (kept_dots n keys p) ≤ length out₀) where
        pub chunk_room : next + dot_size ≤ length out
        chunk_room = room_next n keys p size out₀ out next w.place w.walk more dot (said ∙ ap key_dot key-is) kept room

        pub chunk_put : (out' : Bytes) (next' : ℕ) → next' ≡ next + dot_size → out' ≡ put_at out next (dot_bytes (key_dot key)) → length out' ≡ length out → (chunk' : ℕ) → chunk' ≡ chunk
            → ChunksWalk n keys p size out₀ out' next' rest' chunk'
        chunk_put out' next' e put same chunk' f = record {
          place = w.place + size;
          walk = walk_put n keys p size out₀ out next w.place w.walk more dot (said ∙ ap key_dot key-is) kept room out' next' e (put ∙ ap (λ (d : Dot). put_at out next (dot_bytes d)) (sym said)) same;
          left = rest-is;
          chunk-is = f ∙ w.chunk-is;
        }

-- all dots
abbrev every_dot : Dot → Bool
every_dot d = true

keep_every : (ds : List Dot) → keep every_dot ds ≡ ds
unfolding keep
keep_every [] = refl
keep_every (d ∷ ds) = ap (λ (t : List Dot). d ∷ t) (keep_every ds)

-- where all dots are listed, no dead ones are given
keep_chosen : (all : Bool) (s : SlottedDots) (ds : List Dot) → (all ≡ true → keep (is_live (dots_of s.dots.now)) ds ≡ ds)
    → keep (listed_by (then_some (not all) s)) ds ≡ keep (is_live (dots_of s.dots.now)) ds
keep_chosen true s ds e = keep_every ds ∙ sym (e refl)
keep_chosen false s ds e = refl

-- ---- the parts of a line

-- bytes put at the front of the rest of a buffer
pub put-part : (s part x : Bytes) (at : ℕ) → part ≡ put_at (take (length s - at) (drop at s)) 0 x → take at s ++ (part ++ drop (length s - at) (drop at s)) ≡ put_at s at x
unfolding put_at
put-part s part x at e =
    let past : length (drop at s) ≤ length s - at = rw length-drop (omega arith) in
    rw (drop_of_length-le (drop at s) past, append-nil, e, rest_part, put_front, drop-drop)

-- the label, as a part of the keys
abbrev label_part : ℕ → Bytes → ℕ → Label
label_part n keys len = take (n + prefix_fixed + len - (n + prefix_fixed)) (drop (n + prefix_fixed) keys)

-- the line at the front of keys
module _ (n : ℕ) (keys : Bytes) (tombstone : List Dot) (l : ListedLine) (first : FirstLine n keys tombstone l) where
  label-long : length (label_of n keys l.len) ≡ l.len
  label-long = part_length keys (n + prefix_fixed) l.len first.label-within

  pub label-fits : length (label_part n keys l.len) ≤ label_most
  label-fits = rw (size-part, label-long) first.label-short

  module _ (room : ℕ) (fits : line_size (line_of n keys tombstone l) ≤ room) where
    line-room : line_fixed + l.len + dot_size * l.count ≤ room
    line-room = omega (arith, length-line (label_of n keys l.len) (listed_dots n (take l.end keys) tombstone), label-long, first.count-is)

    pub head-room : length (label_part n keys l.len) + line_fixed ≤ room
    head-room = rw (size-part, label-long) (omega (arith, line-room))

    module _ (head : Bytes) (next : ℕ) (same : length head ≡ room) (after : next ≡ length (label_part n keys l.len) + line_fixed) where
      next-is : next ≡ l.len + line_fixed
      next-is = rw (size-part, label-long) at after

      pub next-within : next ≤ length head
      next-within = omega (arith, next-is, line-room)

      pub dots-room : dot_size * length (listed_dots n (take l.end keys) tombstone) ≤ length (take (length head - next) (drop next head))
      dots-room = rw (rest_part, length-drop) (omega (arith, next-is, line-room, first.count-is))

      pub line-put : (out part : Bytes) → length out ≡ room → head ≡ put_at out 0 (line_head (label_part n keys l.len) l.count)
          → part ≡ put_at (take (length head - next) (drop next head)) 0 (dots_bytes (listed_dots n (take l.end keys) tombstone))
          → take next head ++ (part ++ drop (length head - next) (drop next head)) ≡ put_at out 0 (line_bytes (line_of n keys tombstone l))
      line-put out part size e f =
          let label : Bytes = label_of n keys l.len in
          let ds : List Dot = listed_dots n (take l.end keys) tombstone in
          let long : length (line_head label l.count) ≡ l.len + line_fixed = rw (length-append, length-big_endian, label-long) (omega arith) in
          put_next out head (take next head ++ (part ++ drop (length head - next) (drop next head))) (line_head label l.count) (dots_bytes ds) 0 next (rw size-part at e)
          (omega (arith, next-is)) (put-part head part (dots_bytes ds) next f) (omega (arith, next-within))
          ∙ ap (put_at out 0) (rw (append_assoc, first.count-is))

-- the same with the dead dots that are given
module _ (n : ℕ) (keys : Bytes) (s : SlottedDots) (l : ListedLine) (first : FirstLine n keys (dots_of s.dots.now) l) (dead : Option SlottedDots) (given : dead ≡ then_some (not l.all) s) where
  chosen : keep (listed_by dead) (dots_in n (take l.end keys)) ≡ listed_dots n (take l.end keys) (dots_of s.dots.now)
  chosen = rw given (keep_chosen l.all s (dots_in n (take l.end keys)) first.all-is)

  module _ (room : ℕ) (fits : line_size (line_of n keys (dots_of s.dots.now) l) ≤ room) (head : Bytes) (next : ℕ) (same : length head ≡ room) (after : next ≡ length (label_part n keys l.len) + line_fixed) where
    pub given-room : dot_size * length (keep (listed_by dead) (dots_in n (take l.end keys))) ≤ length (take (length head - next) (drop next head))
    given-room = rw chosen (dots-room n keys (dots_of s.dots.now) l first room fits head next same after)

    pub given-put : (out part : Bytes) → length out ≡ room → head ≡ put_at out 0 (line_head (label_part n keys l.len) l.count)
        → part ≡ put_at (take (length head - next) (drop next head)) 0 (dots_bytes (keep (listed_by dead) (dots_in n (take l.end keys))))
        → take next head ++ (part ++ drop (length head - next) (drop next head)) ≡ put_at out 0 (line_bytes (line_of n keys (dots_of s.dots.now) l))
    given-put out part size e f =
        line-put n keys (dots_of s.dots.now) l first room fits head next same after out part size e
        (f ∙ ap (λ (ds : List Dot). put_at (take (length head - next) (drop next head)) 0 (dots_bytes ds)) chosen)
