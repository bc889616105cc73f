-- Pages of a listing: "starting after a named label (an empty one means the front), write as many whole entries as fit and say whether more follow".
use Rattle.std.specs.Prelude.{ℕ, ◌+◌, ◌-◌, ◌≤◌, ◌<◌, Bool, true, false, not, cond, ◌&&◌, ◌||◌, List, [], ◌∷◌, ◌++◌, ◌↔◌, ◌≡◌, T, leb, ltb, length}
use Rattle.wire.specs.Lists.{is_lt, keep}
use Rattle.wire.specs.Bytes.{compare_bytes}
use Rattle.dots.specs.Names.{Label}
use Rattle.dots.specs.Entries.{Line}

-- the empty label comes before every other
abbrev pub is_after : Label → Label → Bool
is_after start l = is_lt (compare_bytes start l)

-- the lines whose labels come after a starting label; "it need not be in the store"
abbrev pub lines_after : Label → List Line → List Line
lines_after start ls = keep (λ (l : Line). is_after start l.label) ls

unfoldable pub last_label : Label → List Line → Label
last_label start [] = start
last_label start (l ∷ ls) = last_label l.label ls

-- for the bytes that a line takes
module _ (size : Line → ℕ) where
  -- as many whole lines as fit, from the front
  unfoldable pub fitting : ℕ → List Line → List Line
  fitting room [] = []
  fitting room (l ∷ ls) =
      let further = fitting (room - size l) ls in
      cond (leb (size l) room) (l ∷ further) []

  unfoldable pub sizes : List Line → ℕ
  sizes [] = 0
  sizes (l ∷ ls) = size l + sizes ls

  -- "If the first entry doesn't fit, answer 13."
  unfoldable pub first_fits : ℕ → List Line → Bool
  first_fits room [] = true
  first_fits room (l ∷ ls) = leb (size l) room

  -- whether lines are left past those that fit
  abbrev pub more_than_fit : ℕ → List Line → Bool
  more_than_fit room ls = ltb (length (fitting room ls)) (length ls)

  -- of the lines of a listing
  module _ (ls : List Line) where
    abbrev pub page_after : Label → ℕ → List Line
    page_after start room = fitting room (lines_after start ls)

    abbrev pub page_fits : Label → ℕ → Bool
    page_fits start room = first_fits room (lines_after start ls)

    -- whether more follow; else the page says "ended"
    abbrev pub page_more : Label → ℕ → Bool
    page_more start room = more_than_fit room (lines_after start ls)

    -- where the next page starts: after "the last label before"
    abbrev pub next_start : Label → ℕ → Label
    next_start start room = last_label start (page_after start room)

    pub record PageMeans (start : Label) (room : ℕ) : Type 0 where
      -- the page, then what follows it, are all lines after the start
      pub parts : lines_after start ls ≡ page_after start room ++ lines_after (next_start start room) ls
      -- they fit, and with one more they would not
      pub has_room : sizes (page_after start room) ≤ room
      pub no_more : (l : Line) (rest : List Line) → lines_after (next_start start room) ls ≡ l ∷ rest → room < sizes (page_after start room) + size l
      -- "Every accepted page on a state with labels left hands out at least one"
      pub some-line : T (page_fits start room) → (lines_after start ls ≡ [] → ⊥) → (page_after start room ≡ [] → ⊥)
      -- "'ended' comes exactly on accepted pages that none follows"
      pub ended_is : (page_more start room ≡ false) ↔ (lines_after (next_start start room) ls ≡ [])

    -- pages into outputs of these sizes, each started after the last label before, up to the one that says "ended"
    unfoldable pub joined_pages : Label → List ℕ → List Line
    joined_pages start [] = []
    joined_pages start (room ∷ rooms) =
        let further = joined_pages (next_start start room) rooms in
        page_after start room ++ cond (page_more start room) further []

    -- all accepted, and the last says "ended"
    unfoldable pub reach_end : Label → List ℕ → Bool
    reach_end start [] = false
    reach_end start (room ∷ rooms) =
        let further = reach_end (next_start start room) rooms in
        page_fits start room && (not (page_more start room) || further)

    -- "accepted pages from the front to 'ended', each started after the last label before, joined equal the listing"
    abbrev pub PagesJoin : Type 0
    PagesJoin = (rooms : List ℕ) → T (reach_end [] rooms) → joined_pages [] rooms ≡ ls
