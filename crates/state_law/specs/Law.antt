-- What all entities of a state hold comes from one full check.
use Rattle.std.specs.Prelude.{◌≡◌, ℕ, List, slice_get, Some}
use Rattle.heap_core.specs.Meaning.{AllFit}
use Rattle.check_values.specs.declared.root.Root.{Root}
use Rattle.payloads.specs.program_check.specs.Full.{Results, IsFull}
use Rattle.payloads.specs.State.{program_of, payload_at, fits}
use Rattle.payloads.specs.declared.payload.Payload.{Payload}
use Rattle.payloads.specs.declared.payload.Payload.TheVariants as payload

-- This full check of the root's program gives what stands at each entity.
pub record IsCheckOf (root : Root) (state : List Payload) (results : List Results) : Type 0 where
  pub full : IsFull (program_of root) results
  pub stands : (e : ℕ) (x : Payload) → slice_get state e ≡ Some x → x ≡ payload_at root results e

-- Where all payloads of a state fit its root, there is such a check.
abbrev pub EachStateHasACheck : Type 0
EachStateHasACheck =
    (root : Root) (state : List Payload) → slice_get state 0 ≡ Some (payload.Root root) → AllFit fits state → ∥ ((results : List Results) × IsCheckOf root state results) ∥₁
