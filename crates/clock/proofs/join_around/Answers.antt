-- The dots before, the dot, then the dots after.
use Rattle.clock.specs.Row.{window_width}
use Rattle.std.proofs.Common.{ℕ, List, ◌∷◌, sym, ap, ◌∙◌}
use Rattle.dots.specs.declared.Dot.{Dot}
use Rattle.dots.specs.Wire.{dots_of}
use Rattle.clock.specs.Clock.{join_dot, join_each}
use Rattle.clock.proofs.Reaching.{join_each-append, ready-head, ready-tail, ready-front, ready-back}
use Rattle.clock.proofs.join_around.Goals as goal
use Rattle.clock.proofs.join_around.Goals.{Start}

abbrev words : Start → List ℕ
words c = c.args.words.now

abbrev xs : Start → List Dot
xs c = dots_of c.args.lower.now

abbrev ys : Start → List Dot
ys c = dots_of c.args.higher.now

pub join_dots-requires : goal.join_dots-requires
join_dots-requires c = ready-front window_width (words (goal.at.join_dots-requires c).Start) (xs (goal.at.join_dots-requires c).Start) (c.args.dot ∷ ys (goal.at.join_dots-requires c).Start) c.requires

pub join_dot-requires : goal.join_dot-requires
join_dot-requires c = rw c.join_dots.ensures (ready-head window_width (join_each window_width (words (goal.at.join_dot-requires c).Start) (xs (goal.at.join_dot-requires c).Start)) c.args.dot (ys (goal.at.join_dot-requires c).Start) (ready-back window_width (words (goal.at.join_dot-requires c).Start) (xs (goal.at.join_dot-requires c).Start) (c.args.dot ∷ ys (goal.at.join_dot-requires c).Start) c.requires))

pub join_dots-requires-2 : goal.join_dots-requires-2
join_dots-requires-2 c = rw (c.join_dot.ensures, c.join_dots.ensures)
    (ready-tail window_width (join_each window_width (words (goal.at.join_dots-requires-2 c).Start) (xs (goal.at.join_dots-requires-2 c).Start)) c.args.dot (ys (goal.at.join_dots-requires-2 c).Start) (ready-back window_width (words (goal.at.join_dots-requires-2 c).Start) (xs (goal.at.join_dots-requires-2 c).Start) (c.args.dot ∷ ys (goal.at.join_dots-requires-2 c).Start) c.requires))

pub returns : goal.returns
unfolding join_each
returns c = let d = c.args.dot in
    c.join_dots-2.ensures
    ∙ ap (λ (w : List ℕ). join_each window_width w (ys (goal.at.returns c).Start)) (c.join_dot.ensures ∙ ap (λ (w : List ℕ). join_dot window_width w d) c.join_dots.ensures)
    ∙ sym (join_each-append window_width (words (goal.at.returns c).Start) (xs (goal.at.returns c).Start) (d ∷ ys (goal.at.returns c).Start))
