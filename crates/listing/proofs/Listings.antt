-- The lines of entries, one label after the other, and how many bytes they take. Assumes nothing.
use mathlib.Core.Path.{◌≡◌, refl, sym, ap, ◌∙◌}
use mathlib.Core.Bool.{Bool, true, false}
use mathlib.Core.List.{List, [], ◌∷◌, ◌++◌, map, append_assoc, append-nil}
use Prim.Native.Nat.{◌+◌, ◌*◌}
use native.Mathlib.Omega.{arith}
use lib.Dec.{compare_is_eq}
use lib.ListN.{length, length-append}
use Rattle.wire.specs.Bytes.{compare_bytes}
use Rattle.wire.proofs.Tests.{pass}
use Rattle.wire.proofs.Lists.{tie-is}
use Rattle.wire.proofs.Orders.{bytes_lawful}
use Rattle.wire.proofs.BigEndian.{length-big_endian}
use Rattle.dots.specs.declared.Dot.{Dot}
use Rattle.dots.specs.Names.{Label}
use Rattle.dots.specs.Entries.{Entry, entry, Line, line, prepend_to, prepend, lines_of}
use Rattle.dots.proofs.RoundTrip.{length-dots}
use Rattle.dots.proofs.Lines.{lines_of_label}
use Rattle.listing.specs.Listing.{line_bytes, listing_bytes}
use Rattle.listing.specs.Lines.{line_if}
use Rattle.dots.specs.Wire.{dot_size}

pub same-label : (l m : Label) → compare_is_eq (compare_bytes l m) ≡ true → l ≡ m
same-label l m t = bytes_lawful.tie l m (tie-is (compare_bytes l m) (pass t))

-- ---- entries of one label, and entries after them

-- an entry of the label goes into its line
pub line_grows : (l : Label) (ds : List Dot) (d : Dot) (es : List Entry) → map (entry l) ds ++ (entry l d ∷ es) ≡ map (entry l) (ds ++ (d ∷ [])) ++ es
line_grows l [] d es = refl
line_grows l (c ∷ ds) d es = ap (λ (t : List Entry). entry l c ∷ t) (line_grows l ds d es)

-- the first line has the first entry's label
first-line : (e : Entry) (es : List Entry) → (ds : List Dot) × (ls : List Line) × (lines_of (e ∷ es) ≡ line e.label ds ∷ ls)
unfolding lines_of prepend
first-line e es = go (lines_of es)
  where
    go : (ks : List Line) → (ds : List Dot) × (ls : List Line) × (prepend e ks ≡ line e.label ds ∷ ls)
    go [] = (e.dot ∷ [], [], refl)
    go (k ∷ ks) = step (compare_is_eq (compare_bytes e.label k.label)) refl
      where
        step : (b : Bool) → compare_is_eq (compare_bytes e.label k.label) ≡ b → (ds : List Dot) × (ls : List Line) × (prepend_to b e k ks ≡ line e.label ds ∷ ls)
        step true t = (e.dot ∷ k.dots, ks, ap (λ (m : Label). line m (e.dot ∷ k.dots) ∷ ks) (sym (same-label e.label k.label t)))
        step false t = (e.dot ∷ [], k ∷ ks, refl)

-- an entry of another label begins a line
lines-apart : (l : Label) (d : Dot) (ds : List Dot) (e : Entry) (es : List Entry) → compare_is_eq (compare_bytes l e.label) ≡ false
    → lines_of (map (entry l) (d ∷ ds) ++ (e ∷ es)) ≡ line l (d ∷ ds) ∷ lines_of (e ∷ es)
unfolding lines_of prepend
lines-apart l d [] e es f = let w = first-line e es in rw (w.2, f)
lines-apart l d (c ∷ ds) e es f = rw (lines-apart l c ds e es f, ap compare_is_eq (bytes_lawful.self l))

-- entries of a label, then entries of which the first has another
pub lines_split : (l : Label) (ds : List Dot) (es : List Entry) → ((e : Entry) (fs : List Entry) → es ≡ e ∷ fs → compare_is_eq (compare_bytes l e.label) ≡ false)
    → lines_of (map (entry l) ds ++ es) ≡ line_if l ds ++ lines_of es
unfolding lines_of
lines_split l [] es other = refl
lines_split l (d ∷ ds) [] other = ap lines_of (append-nil (map (entry l) (d ∷ ds))) ∙ lines_of_label l d ds
lines_split l (d ∷ ds) (e ∷ es) other = lines-apart l d ds e es (other e es refl)

-- ---- bytes

pub length-line : (l : Label) (ds : List Dot) → length (line_bytes (line l ds)) ≡ length l + 3 + dot_size * length ds
length-line l ds = rw (length-append, length-append, length-big_endian, length-dots) (omega arith)

pub listing-append : (ls ks : List Line) → listing_bytes (ls ++ ks) ≡ listing_bytes ls ++ listing_bytes ks
unfolding listing_bytes
listing-append [] ks = refl
listing-append (l ∷ ls) ks = rw (listing-append ls ks, append_assoc)
