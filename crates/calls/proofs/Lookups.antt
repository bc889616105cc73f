-- An accepted lookup says yes exactly if the listing has the label, in any state. Assumes nothing.
use mathlib.Core.Path.{ap, sym, subst, ◌≡◌}
use mathlib.Core.Logic.{◌↔◌}
use mathlib.Core.Bool.{Bool}
use lib.Dec.{T}
use Rattle.wire.specs.Lists.{◌∈◌}
use Rattle.wire.specs.Bytes.{Bytes}
use Rattle.dots.specs.Answer.{number_of}
use Rattle.dots.specs.Entries.{line_labels}
use Rattle.replica.specs.Machine.{listing}
use Rattle.replica.proofs.Theorems.{found-label}
use Rattle.calls.specs.declared.State.{State}
use Rattle.calls.specs.State.{clock_model, view}
use Rattle.calls.specs.Calls.{Looked, listed, lookup_result}
use Rattle.calls.proofs.Decided.{looked-done}

pub lookup-lists : (st : State) (store label out : Bytes) → number_of (lookup_result st store label).answer ≡ 0
    → T (lookup_result st store label).listed ↔ (label ∈ line_labels (listed st store out))
unfolding listing
lookup-lists st store label out acc =
    subst (λ (b : Bool). T b ↔ (label ∈ line_labels (listed st store out))) (sym (ap (λ (r : Looked). r.listed) (looked-done st store label acc).0)) (found-label clock_model (view st store) label)
