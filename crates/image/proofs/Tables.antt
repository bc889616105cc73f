-- The tables of refusals as the code answers them, and what is known where none holds. Assumes nothing.
use Prim.Native.Nat.{ℕ, ◌≤◌}
use mathlib.Core.Path.{◌≡◌, refl, sym, ap, ◌∙◌}
use mathlib.Core.Bool.{Bool, true, false, cond, not}
use mathlib.Core.List.{List, [], ◌∷◌, ◌++◌}
use lib.Dec.{ltb}
use lib.ListN.{length}
use borrow.Author.Rules.{rules}
use borrow.Author.Tests.{not-false, ltb-true, ltb-false, eq-eqb, ne_eqb}
use Rattle.wire.specs.Bytes.{Bytes, byte_at, part_of}
use Rattle.wire.proofs.Tests.{both_left}
use Rattle.dots.specs.declared.Answer.{Answer}
use Rattle.dots.specs.declared.Answer.TheVariants.{Damaged, NoMark, BadVersion, BadShape, BadName, BadDot, StoreFull, BadChecksum, ActorTaken}
use Rattle.dots.specs.Answer.{Refusals, first_of, number_of}
use Rattle.dots.specs.Dots.{actor_most, tombstone_most}
use Rattle.dots.proofs.Table.{NoneHolds, none-holds}
use Rattle.std.specs.Prelude.{Result, Ok, Err}
use Rattle.steps.specs.Tests.{passed}
use Rattle.steps.proofs.Answers.{passes}
use Rattle.steps.proofs.Passed.{refused-is, passed-is, rows-stop, rows-pass}
use Rattle.messages.specs.Read.{mark_ok}
use Rattle.store.specs.Valid.{store_most}
use Rattle.calls.specs.declared.State.{State}
use Rattle.calls.specs.declared.SetUp.{SetUp}
use Rattle.calls.specs.declared.ImageLayout.{ImageLayout}
use Rattle.calls.specs.Damage.{damaged}
use Rattle.calls.specs.Calls.{fresh_state}
use Rattle.calls.specs.ImageRead.{version_ok, layout_of, shape_ok, Within, crc_ok, clock_in, state_at, written_at, writer_at, free_of, actor_free, writer_ok}
use Rattle.calls.specs.HandOff.{load_refusals, loaded_at, load_result}
use Rattle.calls.proofs.ImageShapes.{shape-within, short-name, few-dots}
use Rattle.image.specs.Sizes.{window_size}
use Rattle.image.specs.Loading.{Small, Named, Loadable, field_refusals, early_refusals, late_refusals, checked_refusals, fields_result}
use Rattle.image.specs.Promise.{LoadsImage}
use Rattle.image.proofs.Fields.{too_many}

-- ---- the answers

-- where the writer's name and actor keep their rule, the name is short
named-where : {s : Bytes} {l : ImageLayout} → Small l → Within s l → writer_ok s l ≡ true → Named s l
named-where {s} {l} small within right = record { small = small; within = within; short-name = short-name s l within (both_left _ _ right) }

module _ (s : Bytes) (l : ImageLayout) where
  pub late-table : (room : ℕ) (damage : Bool) (r : Result Unit Answer) → damage ≡ damaged (written_at s l) (part_of s l.keys) → r ≡ passed (first_of ((damage, BadDot) ∷ (ltb room l.keys.len, StoreFull) ∷ []))
      → r ≡ passed (first_of (late_refusals room s l))
  late-table room damage r d e = rw (e, d)

  -- the tests that come after the shape
  pub field-table : (actor writer : ℕ) (crc free named : Bool) (r : Result Unit Answer) → crc ≡ crc_ok s → writer ≡ byte_at s l.actor → free ≡ free_of actor writer (clock_in window_size actor_most s l.rows) → named ≡ writer_ok s l
      → r ≡ passed (first_of ((not crc, BadChecksum) ∷ (not free, ActorTaken) ∷ (not named, BadName) ∷ (ltb tombstone_most l.count, BadDot) ∷ []))
      → r ≡ passed (first_of (field_refusals actor s l))
  unfolding state_at
  field-table actor writer crc free named r c w f n e = e ∙ rw (c, f, w, n)

  -- the first three of them, and what follows where none of the three holds
  module _ (actor room writer : ℕ) (words : List ℕ) (crc free named : Bool) (c : crc ≡ crc_ok s) (w : writer ≡ byte_at s l.actor) (clock : words ≡ clock_in window_size actor_most s l.rows)
      (f : free ≡ free_of actor writer words) (n : named ≡ writer_ok s l) (q : Result Unit Answer)
      (is : q ≡ passed (first_of ((not crc, BadChecksum) ∷ (not free, ActorTaken) ∷ (not named, BadName) ∷ []))) where
    abbrev checks : Refusals
    checks = (not crc, BadChecksum) ∷ (not free, ActorTaken) ∷ (not named, BadName) ∷ []

    free-is : free ≡ actor_free actor s l
    unfolding state_at
    free-is = f ∙ rw (w, clock)

    checked : passed (first_of (checks ++ late_refusals room s l)) ≡ passed (first_of (checked_refusals actor room s l))
    checked = rw (← c, ← free-is, ← n)

    pub checked_refused : (a : Answer) → q ≡ Err a → Err a ≡ passed (first_of (checked_refusals actor room s l))
    checked_refused a e = rows-stop checks (late_refusals room s l) a (sym e ∙ is) ∙ checked

    pub checked-late : (u : Unit {0}) → q ≡ Ok u → (r : Result Unit Answer) → r ≡ passed (first_of (late_refusals room s l)) → r ≡ passed (first_of (checked_refusals actor room s l))
    checked-late u e r h = rows-pass checks (late_refusals room s l) u r (search rules) (sym e ∙ is) h ∙ checked

    pub checked-named : (u : Unit {0}) → q ≡ Ok u → Small l → Within s l → Named s l
    checked-named u e small within =
        let none : NoneHolds checks = none-holds checks (search rules) (passed-is (first_of checks) u (sym e ∙ is)) in
        named-where small within (sym n ∙ not-false named none.1.1.0)

  -- the tests up to the shape
  module _ (actor : ℕ) (store : Bytes) (mark version shape : Bool) (fields : l ≡ layout_of s) (m : mark ≡ mark_ok s) (v : version ≡ version_ok s) (p : shape ≡ shape_ok s l) (q : Result Unit Answer)
      (is : q ≡ passed (first_of ((ltb store_most (length store), Damaged) ∷ (not mark, NoMark) ∷ (not version, BadVersion) ∷ (not shape, BadShape) ∷ []))) where
    abbrev tests : Refusals
    tests = (ltb store_most (length store), Damaged) ∷ (not mark, NoMark) ∷ (not version, BadVersion) ∷ (not shape, BadShape) ∷ []

    abbrev rest : Refusals
    rest = checked_refusals actor (length store) s l

    every : passed (first_of (tests ++ rest)) ≡ passed (first_of (load_refusals actor s store))
    every = rw (← fields, ← m, ← v, ← p)

    pub load-refused : (a : Answer) → q ≡ Err a → Err a ≡ passed (first_of (load_refusals actor s store))
    load-refused a e = rows-stop tests rest a (sym e ∙ is) ∙ every

    pub load-checked : (u : Unit {0}) → q ≡ Ok u → (r : Result Unit Answer) → r ≡ passed (first_of rest) → r ≡ passed (first_of (load_refusals actor s store))
    load-checked u e r h = rows-pass tests rest u r (search rules) (sym e ∙ is) h ∙ every

    -- the same with the rows that are told from the fields
    abbrev early : Refusals
    early = field_refusals actor s l

    every-early : passed (first_of (tests ++ early)) ≡ passed (first_of (early_refusals actor s store))
    every-early = rw (← fields, ← m, ← v, ← p)

    pub early-refused : (a : Answer) → q ≡ Err a → Err a ≡ passed (first_of (early_refusals actor s store))
    early-refused a e = rows-stop tests early a (sym e ∙ is) ∙ every-early

    pub early-checked : (u : Unit {0}) → q ≡ Ok u → (r : Result Unit Answer) → r ≡ passed (first_of early) → r ≡ passed (first_of (early_refusals actor s store))
    early-checked u e r h = rows-pass tests early u r (search rules) (sym e ∙ is) h ∙ every-early

    pub load-within : (u : Unit {0}) → q ≡ Ok u → Within s l
    load-within u e =
        let none : NoneHolds tests = none-holds tests (search rules) (passed-is (first_of tests) u (sym e ∙ is)) in
        let right : shape_ok s l ≡ true = sym p ∙ not-false shape none.1.1.1.0 in
        rw fields (shape-within s (rw fields at right))

-- ---- the call

-- too many dots are damage
many-damaged : (s : Bytes) (l : ImageLayout) (room : ℕ) → first_of ((ltb tombstone_most l.count, BadDot) ∷ late_refusals room s l) ≡ first_of (late_refusals room s l)
many-damaged s l room = by (ltb tombstone_most l.count) refl
  where
    by : (b : Bool) → ltb tombstone_most l.count ≡ b → cond b BadDot (first_of (late_refusals room s l)) ≡ first_of (late_refusals room s l)
    by true e = rw (← too_many s l (ltb-true tombstone_most l.count e))
    by false e = refl

-- both tables are all rows after the shape
after-shape : (actor room : ℕ) (s : Bytes) (l : ImageLayout) → first_of (field_refusals actor s l ++ late_refusals room s l) ≡ first_of (checked_refusals actor room s l)
after-shape actor room s l = rw (many-damaged s l room)

module _ (actor : ℕ) (s store : Bytes) where
  abbrev late : Refusals
  late = late_refusals (length store) s (layout_of s)

  -- and with the rows before it that of the call
  whole : first_of (early_refusals actor s store ++ late) ≡ first_of (load_refusals actor s store)
  whole = rw (after-shape actor (length store) s (layout_of s))

  pub not_loaded : (a : Answer) → Err a ≡ passed (first_of (load_refusals actor s store)) → (st : State) → st ≡ fresh_state 0 [] → LoadsImage (load_result actor s store) store (record { answer = a; state = st })
  unfolding load_result
  not_loaded a h st zero =
      let r = refused-is a (first_of (load_refusals actor s store)) h in
      rw (← r.0, ne_eqb (number_of a) 0 r.1) (record { answered = refl; state-is = zero; store_is = refl })

  pub early-not_loaded : (a : Answer) → Err a ≡ passed (first_of (early_refusals actor s store)) → (st : State) → st ≡ fresh_state 0 [] → LoadsImage (load_result actor s store) store (record { answer = a; state = st })
  early-not_loaded a h st zero = not_loaded a (rows-stop (early_refusals actor s store) late a h ∙ ap passed whole) st zero

  module _ (q : Result Unit Answer) (e : q ≡ passed (first_of (early_refusals actor s store))) (u : Unit {0}) (z : q ≡ Ok u) (l : ImageLayout) (is : l ≡ layout_of s) where
    -- where no early refusal holds
    none-early : NoneHolds (early_refusals actor s store)
    none-early = none-holds (early_refusals actor s store) (search rules) (passed-is (first_of (early_refusals actor s store)) u (sym z ∙ e))

    pub early-named : Small l → Named s l
    early-named small =
        let within : Within s l = rw is (shape-within s (not-false _ none-early.1.1.1.0)) in
        named-where small within (rw is (not-false _ none-early.1.1.1.1.1.1.0))

    pub early-few : l.count ≤ tombstone_most
    early-few = rw is (ltb-false tombstone_most (layout_of s).count none-early.1.1.1.1.1.1.1.0)

    late-whole : first_of late ≡ first_of (load_refusals actor s store)
    late-whole = passes (early_refusals actor s store) (first_of (early_refusals actor s store)) (number_of (first_of (early_refusals actor s store))) refl refl late (first_of late) (search rules) (passed-is (first_of (early_refusals actor s store)) u (sym z ∙ e)) refl ∙ whole

    pub early-loaded : (store' : Bytes) (r : SetUp) → LoadsImage (fields_result actor s store l) store' r → LoadsImage (load_result actor s store) store' r
    unfolding load_result
    early-loaded store' r done = rw (← late-whole) (rw is at done)

  -- where no refusal of the call holds
  module _ (q : Result Unit Answer) (e : q ≡ passed (first_of (load_refusals actor s store))) (l : ImageLayout) (is : l ≡ layout_of s) (u : Unit {0}) (z : q ≡ Ok u) where
    zero : number_of (first_of (load_refusals actor s store)) ≡ 0
    zero = passed-is (first_of (load_refusals actor s store)) u (sym z ∙ e)

    pub loaded : (store' : Bytes) (r : SetUp) → LoadsImage (loaded_at actor s store l) store' r → LoadsImage (load_result actor s store) store' r
    unfolding load_result
    loaded store' r done = rw (eq-eqb (number_of (first_of (load_refusals actor s store))) 0 zero) (rw is at done)

    none-left : NoneHolds (load_refusals actor s store)
    none-left = none-holds (load_refusals actor s store) (search rules) zero

    pub loaded-named : Small l → Named s l
    loaded-named small =
        let within : Within s l = rw is (shape-within s (not-false _ none-left.1.1.1.0)) in
        named-where small within (rw is (not-false _ none-left.1.1.1.1.1.1.0))

    pub loadable : Loadable l (length store)
    loadable =
        let whole : damaged (written_at s l) (part_of s l.keys) ≡ false = rw is none-left.1.1.1.1.1.1.1.0 in
        let room : ltb (length store) l.keys.len ≡ false = rw is none-left.1.1.1.1.1.1.1.1.0 in
        record { few = few-dots (writer_at s l) s l (part_of s l.keys) whole; fits = ltb-false (length store) l.keys.len room }

-- ---- the fields

module _ (actor : ℕ) (s store : Bytes) (l : ImageLayout) where
  pub late-refused : (a : Answer) → Err a ≡ passed (first_of (late_refusals (length store) s l)) → (st : State) → st ≡ fresh_state 0 [] → LoadsImage (fields_result actor s store l) store (record { answer = a; state = st })
  late-refused a h st zero =
      let r = refused-is a (first_of (late_refusals (length store) s l)) h in
      rw (← r.0, ne_eqb (number_of a) 0 r.1) (record { answered = refl; state-is = zero; store_is = refl })

  module _ (q : Result Unit Answer) (e : q ≡ passed (first_of (late_refusals (length store) s l))) (u : Unit {0}) (z : q ≡ Ok u) where
    zero-late : number_of (first_of (late_refusals (length store) s l)) ≡ 0
    zero-late = passed-is (first_of (late_refusals (length store) s l)) u (sym z ∙ e)

    pub late-loadable : l.count ≤ tombstone_most → Loadable l (length store)
    late-loadable few = record { few = few; fits = ltb-false (length store) l.keys.len (none-holds (late_refusals (length store) s l) (search rules) zero-late).1.0 }

    pub late-loaded : (store' : Bytes) (r : SetUp) → LoadsImage (loaded_at actor s store l) store' r → LoadsImage (fields_result actor s store l) store' r
    late-loaded store' r done = rw (eq-eqb (number_of (first_of (late_refusals (length store) s l))) 0 zero-late) done
